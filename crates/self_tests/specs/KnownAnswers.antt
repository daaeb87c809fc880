-- Known-answer tests (ISO/IEC 19790:2012, 7.10.3.2): what an engine answers to known inputs is compared with known answers.
use Rattle.std.specs.Prelude.{ℕ, ◌&&◌, Bool, true, false, not, List, [], length, take, Option, Some, None, bytes_eq}
use Rattle.bits_core.specs.Algorithms.{alg_size}
use Rattle.bits_core.specs.declared.algorithm.Alg.{Alg}
use Rattle.bits_core.specs.declared.algorithm.Alg.TheVariants as alg
use Rattle.engine_core.specs.Calls.{Calls}
use Rattle.self_tests.specs.declared.numbers.Test.{Test}
use Rattle.self_tests.specs.declared.numbers.Test.TheVariants as test
use Rattle.self_tests.specs.declared.table.TheConstants.{HASH_TEXT, DIGEST_256, DIGEST_384, DIGEST_512, MAC_KEY, MAC_TEXT, MAC_256, MAC_384, MAC_512, GCM_KEY, GCM_IV, GCM_TEXT, GCM_CIPHERTEXT, GCM_TAG, GCM_OTHER_TAG, WRAPPING_KEY, WRAPPED_TEXT, WRAPPING, PADDED_WRAPPING_KEY, PADDED_WRAPPED_TEXT, PADDED_WRAPPING, DERIVATION_KEY, DERIVATION_LABEL, DERIVATION_CONTEXT, DERIVED, ENTROPY, NONCE, RESEED_ENTROPY, GENERATED}

-- what a test finds: whether all answers are the known ones, and the engine after its calls
pub record Outcome (V : Type 0) : Type 0 where
  pub right : Bool
  pub engine : V

-- the digest of a text
abbrev pub digest_outcome : {V : Type 0} → Calls V → V → Alg → (text digest : List ℕ) → Outcome V
digest_outcome calls v alg text digest = record {
  right = bytes_eq (take (alg_size alg) (calls.hash v alg text)) digest;
  engine = calls.hash_after v alg text;
}

-- the MAC of a text
abbrev pub mac_outcome : {V : Type 0} → Calls V → V → Alg → (key text mac : List ℕ) → Outcome V
mac_outcome calls v alg key text mac = record {
  right = bytes_eq (take (alg_size alg) (calls.mac v alg key text)) mac;
  engine = calls.mac_after v alg key text;
}

-- the ciphertext and the tag of a text, with no additional data
abbrev pub seal_outcome : {V : Type 0} → Calls V → V → (key iv text ciphertext tag : List ℕ) → Outcome V
seal_outcome calls v key iv text ciphertext tag = record {
  right = bytes_eq (calls.seal v key iv [] text).ciphertext ciphertext && bytes_eq (calls.seal v key iv [] text).tag tag;
  engine = calls.seal_after v key iv [] text;
}

-- the text of a ciphertext under its tag, and a refusal of the same ciphertext under another tag
abbrev pub open_outcome : {V : Type 0} → Calls V → V → (key iv ciphertext tag text other_tag : List ℕ) → Outcome V
open_outcome calls v key iv ciphertext tag text other_tag =
    let first = calls.open v key iv [] ciphertext tag in
    let between = calls.open_after v key iv [] ciphertext tag in
    let second = calls.open between key iv [] ciphertext other_tag in
    record {
      right = first.authentic && bytes_eq first.text text && not second.authentic;
      engine = calls.open_after between key iv [] ciphertext other_tag;
    }

-- the wrapping of a text, with padding or without
abbrev pub wrap_outcome : {V : Type 0} → Calls V → V → Bool → (key text wrapping : List ℕ) → Outcome V
wrap_outcome calls v pad key text wrapping =
    let made = calls.wrap v pad key text in
    record { right = bytes_eq (take made.size made.buf) wrapping; engine = calls.wrap_after v pad key text }

-- the text that was unwrapped, if there is one, is this
abbrev pub is_unwrapped : Option ℕ → (buf text : List ℕ) → Bool
is_unwrapped (Some size) buf text = bytes_eq (take size buf) text
is_unwrapped None buf text = false

-- the text of a wrapping, with padding or without
abbrev pub unwrap_outcome : {V : Type 0} → Calls V → V → Bool → (key wrapping text : List ℕ) → Outcome V
unwrap_outcome calls v pad key wrapping text =
    let made = calls.unwrap v pad key wrapping in
    record { right = is_unwrapped made.size made.buf text; engine = calls.unwrap_after v pad key wrapping }

-- bytes derived from a key, as many as are known
abbrev pub derive_outcome : {V : Type 0} → Calls V → V → (key label context derived : List ℕ) → Outcome V
derive_outcome calls v key label context derived = record {
  right = bytes_eq (calls.derive v key label context (length derived)) derived;
  engine = calls.derive_after v key label context (length derived);
}

-- what a generator gives that was instantiated and then seeded anew, as many bytes as are known
abbrev pub generator_outcome : {V : Type 0} → Calls V → V → (entropy nonce fresh generated : List ℕ) → Outcome V
generator_outcome calls v entropy nonce fresh generated =
    let seeded = calls.instantiate v entropy nonce [] in
    let second = calls.instantiate_after v entropy nonce [] in
    let reseeded = calls.reseed second seeded fresh [] in
    let third = calls.reseed_after second seeded fresh [] in
    record {
      right = bytes_eq (calls.generate third reseeded [] (length generated)).bytes generated;
      engine = calls.generate_after third reseeded [] (length generated);
    }

-- the table of known answers: a row for each test
abbrev pub outcome : {V : Type 0} → Calls V → V → Test → Outcome V
outcome calls v test.Sha256 = digest_outcome calls v alg.Sha256 HASH_TEXT DIGEST_256
outcome calls v test.Sha384 = digest_outcome calls v alg.Sha384 HASH_TEXT DIGEST_384
outcome calls v test.Sha512 = digest_outcome calls v alg.Sha512 HASH_TEXT DIGEST_512
outcome calls v test.HmacSha256 = mac_outcome calls v alg.Sha256 MAC_KEY MAC_TEXT MAC_256
outcome calls v test.HmacSha384 = mac_outcome calls v alg.Sha384 MAC_KEY MAC_TEXT MAC_384
outcome calls v test.HmacSha512 = mac_outcome calls v alg.Sha512 MAC_KEY MAC_TEXT MAC_512
outcome calls v test.Seal = seal_outcome calls v GCM_KEY GCM_IV GCM_TEXT GCM_CIPHERTEXT GCM_TAG
outcome calls v test.Open = open_outcome calls v GCM_KEY GCM_IV GCM_CIPHERTEXT GCM_TAG GCM_TEXT GCM_OTHER_TAG
outcome calls v test.Wrap = wrap_outcome calls v false WRAPPING_KEY WRAPPED_TEXT WRAPPING
outcome calls v test.Unwrap = unwrap_outcome calls v false WRAPPING_KEY WRAPPING WRAPPED_TEXT
outcome calls v test.WrapPad = wrap_outcome calls v true PADDED_WRAPPING_KEY PADDED_WRAPPED_TEXT PADDED_WRAPPING
outcome calls v test.UnwrapPad = unwrap_outcome calls v true PADDED_WRAPPING_KEY PADDED_WRAPPING PADDED_WRAPPED_TEXT
outcome calls v test.Derive = derive_outcome calls v DERIVATION_KEY DERIVATION_LABEL DERIVATION_CONTEXT DERIVED
outcome calls v test.Generator = generator_outcome calls v ENTROPY NONCE RESEED_ENTROPY GENERATED

-- all answers of the test's calls are the known ones
abbrev pub answers_right : {V : Type 0} → Calls V → V → Test → Bool
answers_right calls v test = (outcome calls v test).right

-- the engine after the test's calls, which are all made whatever the earlier ones answered
abbrev pub engine_after : {V : Type 0} → Calls V → V → Test → V
engine_after calls v test = (outcome calls v test).engine
