-- What the calls of an engine answer.
use Rattle.std.specs.Prelude.{◌≡◌, ℕ, ◌+◌, Bool, List, length, IfSome}
use Rattle.bits_core.specs.declared.algorithm.Alg.{Alg}
use Rattle.bits_core.specs.ByteList.{IsBytes, zero_padded}
use Rattle.drbg_core.specs.declared.generator.Drbg.{Drbg}
use Rattle.drbg_core.specs.Generator.{Generated, instantiate, reseed, generate}
use Rattle.gcm_mode.specs.Gcm.{Sealed, gcm_encrypt}
use Rattle.hmac_core.specs.Hash.{hash}
use Rattle.hmac_core.specs.Hmac.{hmac}
use Rattle.kbkdf_core.specs.CounterMode.{kbkdf_counter}
use Rattle.engine_core.specs.Inputs.{IsAesKey, IsWrappable, IsUnwrappable}
use Rattle.engine_core.specs.Results.{Opened, Wrapped, Unwrapped, AreBytes, IsGenerator, IsUnwrappedLength, wrapped_length}
use Rattle.engine_core.specs.Standards.{gcm_decrypt, wrapped_in_buffer, unwrapped_in_buffer}

-- For each call its output, and the engine after it, by the engine's value and the arguments. A prepared key counts as the key that
-- filled it.
pub record Calls (V : Type 0) : Type 0 where
  pub hash : V → Alg → List ℕ → List ℕ
  pub hash_after : V → Alg → List ℕ → V
  pub mac : V → Alg → List ℕ → List ℕ → List ℕ
  pub mac_after : V → Alg → List ℕ → List ℕ → V
  pub seal : (v : V) (key iv aad text : List ℕ) → Sealed
  pub seal_after : (v : V) (key iv aad text : List ℕ) → V
  pub «open» : (v : V) (key iv aad text tag : List ℕ) → Opened
  pub open_after : (v : V) (key iv aad text tag : List ℕ) → V
  pub wrap : (v : V) (pad : Bool) (key text : List ℕ) → Wrapped
  pub wrap_after : (v : V) (pad : Bool) (key text : List ℕ) → V
  pub unwrap : (v : V) (pad : Bool) (key wrapped : List ℕ) → Unwrapped
  pub unwrap_after : (v : V) (pad : Bool) (key wrapped : List ℕ) → V
  pub derive : (v : V) (key label context : List ℕ) (n : ℕ) → List ℕ
  pub derive_after : (v : V) (key label context : List ℕ) (n : ℕ) → V
  pub instantiate : (v : V) (entropy nonce personal : List ℕ) → Drbg
  pub instantiate_after : (v : V) (entropy nonce personal : List ℕ) → V
  pub reseed : (v : V) (g : Drbg) (entropy additional : List ℕ) → Drbg
  pub reseed_after : (v : V) (g : Drbg) (entropy additional : List ℕ) → V
  pub generate : (v : V) (g : Drbg) (additional : List ℕ) (n : ℕ) → Generated
  pub generate_after : (v : V) (g : Drbg) (additional : List ℕ) (n : ℕ) → V

-- What holds of each engine's answers: their lengths, that they are bytes where the arguments are, and the counters of generators.
pub record Keeps {V : Type 0} (calls : Calls V) : Type 0 where
  pub hash_length : (v : V) (alg : Alg) (text : List ℕ) → length (calls.hash v alg text) ≡ 64
  pub hash_bytes : (v : V) (alg : Alg) (text : List ℕ) → IsBytes (calls.hash v alg text)
  pub mac_length : (v : V) (alg : Alg) (key text : List ℕ) → length (calls.mac v alg key text) ≡ 64
  pub mac_bytes : (v : V) (alg : Alg) (key text : List ℕ) → IsBytes (calls.mac v alg key text)
  pub seal_length : (v : V) (key iv aad text : List ℕ) → length (calls.seal v key iv aad text).ciphertext ≡ length text
  pub seal_bytes : (v : V) (key iv aad text : List ℕ) → IsAesKey key → IsBytes iv → IsBytes text → IsBytes (calls.seal v key iv aad text).ciphertext
  pub seal_tag : (v : V) (key iv aad text : List ℕ) → IsAesKey key → IsBytes iv → AreBytes 16 (calls.seal v key iv aad text).tag
  pub open_length : (v : V) (key iv aad text tag : List ℕ) → length (calls.open v key iv aad text tag).text ≡ length text
  pub open_bytes : (v : V) (key iv aad text tag : List ℕ) → IsAesKey key → IsBytes iv → IsBytes text → IsBytes (calls.open v key iv aad text tag).text
  pub wrap_size : (v : V) (pad : Bool) (key text : List ℕ) → IsWrappable pad (length text) → (calls.wrap v pad key text).size ≡ wrapped_length pad (length text)
  pub wrap_bytes : (v : V) (pad : Bool) (key text : List ℕ) → IsAesKey key → IsBytes text → IsWrappable pad (length text) → AreBytes 80 (calls.wrap v pad key text).buf
  pub unwrap_size : (v : V) (pad : Bool) (key wrapped : List ℕ) → IsAesKey key → IsBytes wrapped → IsUnwrappable pad (length wrapped)
      → IfSome (calls.unwrap v pad key wrapped).size (IsUnwrappedLength pad (length wrapped))
  pub unwrap_bytes : (v : V) (pad : Bool) (key wrapped : List ℕ) → IsAesKey key → IsBytes wrapped → IsUnwrappable pad (length wrapped)
      → AreBytes 80 (calls.unwrap v pad key wrapped).buf
  pub derive_bytes : (v : V) (key label context : List ℕ) (n : ℕ) → AreBytes n (calls.derive v key label context n)
  pub instantiate_counter : (v : V) (entropy nonce personal : List ℕ) → (calls.instantiate v entropy nonce personal).counter ≡ 1
  pub instantiate_state : (v : V) (entropy nonce personal : List ℕ) → IsGenerator (calls.instantiate v entropy nonce personal)
  pub reseed_counter : (v : V) (g : Drbg) (entropy additional : List ℕ) → (calls.reseed v g entropy additional).counter ≡ 1
  pub reseed_state : (v : V) (g : Drbg) (entropy additional : List ℕ) → IsGenerator (calls.reseed v g entropy additional)
  pub generate_counter : (v : V) (g : Drbg) (additional : List ℕ) (n : ℕ) → (calls.generate v g additional n).after.counter ≡ g.counter + 1
  pub generate_state : (v : V) (g : Drbg) (additional : List ℕ) (n : ℕ) → IsGenerator (calls.generate v g additional n).after
  pub generate_bytes : (v : V) (g : Drbg) (additional : List ℕ) (n : ℕ) → AreBytes n (calls.generate v g additional n).bytes

-- each call answers the standard's function, with zeros behind it, and leaves the engine as it was
pub record IsStandard {V : Type 0} (calls : Calls V) : Type 0 where
  pub hash : (v : V) (alg : Alg) (text : List ℕ) → calls.hash v alg text ≡ zero_padded 64 (hash alg text)
  pub hash_after : (v : V) (alg : Alg) (text : List ℕ) → calls.hash_after v alg text ≡ v
  pub mac : (v : V) (alg : Alg) (key text : List ℕ) → calls.mac v alg key text ≡ zero_padded 64 (hmac alg key text)
  pub mac_after : (v : V) (alg : Alg) (key text : List ℕ) → calls.mac_after v alg key text ≡ v
  pub seal : (v : V) (key iv aad text : List ℕ) → calls.seal v key iv aad text ≡ gcm_encrypt key iv aad text
  pub seal_after : (v : V) (key iv aad text : List ℕ) → calls.seal_after v key iv aad text ≡ v
  pub «open» : (v : V) (key iv aad text tag : List ℕ) → calls.open v key iv aad text tag ≡ gcm_decrypt key iv aad text tag
  pub open_after : (v : V) (key iv aad text tag : List ℕ) → calls.open_after v key iv aad text tag ≡ v
  pub wrap : (v : V) (pad : Bool) (key text : List ℕ) → calls.wrap v pad key text ≡ wrapped_in_buffer pad key text
  pub wrap_after : (v : V) (pad : Bool) (key text : List ℕ) → calls.wrap_after v pad key text ≡ v
  pub unwrap : (v : V) (pad : Bool) (key wrapped : List ℕ) → calls.unwrap v pad key wrapped ≡ unwrapped_in_buffer pad key wrapped
  pub unwrap_after : (v : V) (pad : Bool) (key wrapped : List ℕ) → calls.unwrap_after v pad key wrapped ≡ v
  pub derive : (v : V) (key label context : List ℕ) (n : ℕ) → calls.derive v key label context n ≡ kbkdf_counter key label context n
  pub derive_after : (v : V) (key label context : List ℕ) (n : ℕ) → calls.derive_after v key label context n ≡ v
  pub instantiate : (v : V) (entropy nonce personal : List ℕ) → calls.instantiate v entropy nonce personal ≡ instantiate entropy nonce personal
  pub instantiate_after : (v : V) (entropy nonce personal : List ℕ) → calls.instantiate_after v entropy nonce personal ≡ v
  pub reseed : (v : V) (g : Drbg) (entropy additional : List ℕ) → calls.reseed v g entropy additional ≡ reseed g entropy additional
  pub reseed_after : (v : V) (g : Drbg) (entropy additional : List ℕ) → calls.reseed_after v g entropy additional ≡ v
  pub generate : (v : V) (g : Drbg) (additional : List ℕ) (n : ℕ) → calls.generate v g additional n ≡ generate g additional n
  pub generate_after : (v : V) (g : Drbg) (additional : List ℕ) (n : ℕ) → calls.generate_after v g additional n ≡ v
