-- What a vector finds: its calls are made once each, in their order, and what they answer is compared with what is expected.
use Rattle.std.specs.Prelude.{ℕ, ◌&&◌, Bool, true, false, not, List, [], length, take, Option, Some, None, bytes_eq}
use Rattle.bits_core.specs.Algorithms.{alg_size}
use Rattle.bits_core.specs.declared.algorithm.Alg.{Alg}
use Rattle.cmac_core.specs.Cmac.{cmac}
use Rattle.cmac_core.specs.Derivation.{cmac_kdf}
use Rattle.engine_core.specs.Calls.{Calls}
use Rattle.engine_core.specs.Results.{Opened}
use Rattle.vector_suite.specs.declared.vector.Expected.{Expected}
use Rattle.vector_suite.specs.declared.vector.Expected.TheVariants.{Refusal, Bytes}
use Rattle.vector_suite.specs.declared.vector.Vector.{Vector}
use Rattle.vector_suite.specs.declared.vector.Vector.TheVariants as vector

-- whether all answers are the expected ones, and the engine after the calls
pub record Outcome (V : Type 0) : Type 0 where
  pub passed : Bool
  pub engine : V

-- the digest is OUT
abbrev pub hash_outcome : {V : Type 0} → Calls V → V → Alg → (text out : List ℕ) → Outcome V
hash_outcome calls v alg text out = record {
  passed = bytes_eq (take (alg_size alg) (calls.hash v alg text)) out;
  engine = calls.hash_after v alg text;
}

-- the MAC is OUT
abbrev pub mac_outcome : {V : Type 0} → Calls V → V → Alg → (key text out : List ℕ) → Outcome V
mac_outcome calls v alg key text out = record {
  passed = bytes_eq (take (alg_size alg) (calls.mac v alg key text)) out;
  engine = calls.mac_after v alg key text;
}

-- the ciphertext is OUT, and TAG is the leftmost part of its tag
abbrev pub seal_outcome : {V : Type 0} → Calls V → V → (key iv aad text out tag : List ℕ) → Outcome V
seal_outcome calls v key iv aad text out tag =
    let sealed = calls.seal v key iv aad text in
    record {
      passed = bytes_eq sealed.ciphertext out && bytes_eq (take (length tag) sealed.tag) tag;
      engine = calls.seal_after v key iv aad text;
    }

-- the plaintext is OUT, or the tag is refused
abbrev pub is_opened_as : Opened → Expected → Bool
is_opened_as opened Refusal = not opened.authentic
is_opened_as opened (Bytes out) = opened.authentic && bytes_eq opened.text out

abbrev pub open_outcome : {V : Type 0} → Calls V → V → (key iv aad text tag : List ℕ) → Expected → Outcome V
open_outcome calls v key iv aad text tag out = record {
  passed = is_opened_as (calls.open v key iv aad text tag) out;
  engine = calls.open_after v key iv aad text tag;
}

-- the wrapping is OUT
abbrev pub wrap_outcome : {V : Type 0} → Calls V → V → Bool → (key text out : List ℕ) → Outcome V
wrap_outcome calls v pad key text out =
    let wrapped = calls.wrap v pad key text in
    record { passed = bytes_eq (take wrapped.size wrapped.buf) out; engine = calls.wrap_after v pad key text }

-- the plaintext is OUT, or the wrapping is refused
abbrev pub is_unwrapped_as : Option ℕ → List ℕ → Expected → Bool
is_unwrapped_as None buf Refusal = true
is_unwrapped_as None buf (Bytes out) = false
is_unwrapped_as (Some size) buf Refusal = false
is_unwrapped_as (Some size) buf (Bytes out) = bytes_eq (take size buf) out

abbrev pub unwrap_outcome : {V : Type 0} → Calls V → V → Bool → (key text : List ℕ) → Expected → Outcome V
unwrap_outcome calls v pad key text out =
    let unwrapped = calls.unwrap v pad key text in
    record { passed = is_unwrapped_as unwrapped.size unwrapped.buf out; engine = calls.unwrap_after v pad key text }

-- the derived bytes, so many as OUT has, are OUT
abbrev pub derive_outcome : {V : Type 0} → Calls V → V → (key label context out : List ℕ) → Outcome V
derive_outcome calls v key label context out = record {
  passed = bytes_eq (calls.derive v key label context (length out)) out;
  engine = calls.derive_after v key label context (length out);
}

-- the first request to a generator, for so many bytes as OUT has and with no additional input, gives OUT
abbrev pub drbg_outcome : {V : Type 0} → Calls V → V → (entropy nonce personal out : List ℕ) → Outcome V
drbg_outcome calls v entropy nonce personal out =
    let seeded = calls.instantiate v entropy nonce personal in
    let second = calls.instantiate_after v entropy nonce personal in
    record {
      passed = bytes_eq (calls.generate second seeded [] (length out)).bytes out;
      engine = calls.generate_after second seeded [] (length out);
    }

-- what a vector finds, by its kind; those of CMAC have no call, and are compared with the standards' functions
abbrev pub outcome : {V : Type 0} → Calls V → V → Vector → Outcome V
outcome calls v (vector.Hash alg text out) = hash_outcome calls v alg text out
outcome calls v (vector.Mac alg key text out) = mac_outcome calls v alg key text out
outcome calls v (vector.Seal key iv aad text out tag) = seal_outcome calls v key iv aad text out tag
outcome calls v (vector.Open key iv aad text tag out) = open_outcome calls v key iv aad text tag out
outcome calls v (vector.Wrap pad key text out) = wrap_outcome calls v pad key text out
outcome calls v (vector.Unwrap pad key text out) = unwrap_outcome calls v pad key text out
outcome calls v (vector.Derive key label context out) = derive_outcome calls v key label context out
outcome calls v (vector.Drbg entropy nonce personal out) = drbg_outcome calls v entropy nonce personal out
outcome calls v (vector.Cmac key text out) = record { passed = bytes_eq (cmac key text) out; engine = v }
outcome calls v (vector.CmacKdf mode key label context out) =
    record { passed = bytes_eq (cmac_kdf mode key label context (length out)) out; engine = v }
