-- The laws of both engines' answers: the proofs that each impl of `Engine` owes.
use Rattle.std.proofs.Common.{◌≡◌, ℕ, zero, suc, ◌<◌, ◌%◌, ◌^◌, Bool, true, false, List, [], ◌∷◌, length, bit_xor, refl, ◌∙◌, if◌then◌else◌, arith, None}
use Rattle.std.specs.Prelude.{IfSome}
use Rattle.std.proofs.lemmas.Nat.{xor_of_8, mod_below, pow_below}
use Rattle.bits_core.specs.ByteList.{IsBytes, zeros, zero_padded}
use Rattle.bits_core.proofs.Bytes.{IsBytes-zeros}
use Rattle.bits_core.proofs.ZeroPadding.{length-zeros}
use Rattle.drbg_core.specs.declared.generator.Drbg.{Drbg}
use Rattle.drbg_core.specs.Generator.{instantiate, reseed, generate}
use Rattle.drbg_core.proofs.Requests.{counter-instantiate, counter-reseed, counter-generate}
use Rattle.gcm_mode.specs.Gcm.{gcm_encrypt}
use Rattle.hmac_core.specs.Hash.{hash}
use Rattle.hmac_core.specs.Hmac.{hmac}
use Rattle.kbkdf_core.specs.CounterMode.{kbkdf_counter}
use Rattle.engine_core.specs.Calls.{Keeps}
use Rattle.engine_core.specs.Faults.{turned}
use Rattle.engine_core.specs.Results.{Opened, Unwrapped, AreBytes, IsGenerator, IsUnwrappedLength}
use Rattle.engine_core.specs.Standards.{gcm_decrypt, wrapped_in_buffer, unwrapped_in_buffer}
use Rattle.engine_core.specs.StandardBytes.{digest_length, digest_bytes, mac_length, mac_bytes, sealed_length, sealed_bytes, sealed_tag, opened_length, opened_bytes, wrapped_bytes, unwrapped_size, unwrapped_bytes, derived_bytes, instantiated_state, reseeded_state, generated_state, generated_bytes}
use Rattle.engine_core.specs.Engines.{shipped_calls, faulty_calls, fails, answered, opened_by, unwrapped_by, seeded_by}
use Rattle.engine_core.specs.declared.faulty.Faulty.{Faulty}

pub shipped_keeps : Keeps shipped_calls
shipped_keeps = record {
  hash_length = λ v alg text. digest_length alg text;
  hash_bytes = λ v alg text. digest_bytes alg text;
  mac_length = λ v alg key text. mac_length alg key text;
  mac_bytes = λ v alg key text. mac_bytes alg key text;
  seal_length = λ v key iv aad text. sealed_length key iv aad text;
  seal_bytes = λ v key iv aad text. sealed_bytes key iv aad text;
  seal_tag = λ v key iv aad text. sealed_tag key iv aad text;
  open_length = λ v key iv aad text tag. opened_length key iv aad text tag;
  open_bytes = λ v key iv aad text tag. opened_bytes key iv aad text tag;
  wrap_size = λ v pad key text h. refl;
  wrap_bytes = λ v pad key text. wrapped_bytes pad key text;
  unwrap_size = λ v pad key wrapped. unwrapped_size pad key wrapped;
  unwrap_bytes = λ v pad key wrapped. unwrapped_bytes pad key wrapped;
  derive_bytes = λ v key label context n. derived_bytes key label context n;
  instantiate_counter = λ v entropy nonce personal. counter-instantiate entropy nonce personal;
  instantiate_state = λ v entropy nonce personal. instantiated_state entropy nonce personal;
  reseed_counter = λ v g entropy additional. counter-reseed g entropy additional;
  reseed_state = λ v g entropy additional. reseeded_state g entropy additional;
  generate_counter = λ v g additional n. counter-generate g additional n;
  generate_state = λ v g additional n. generated_state g additional n;
  generate_bytes = λ v g additional n. generated_bytes g additional n;
}

length-turned : (bit : ℕ) (out : List ℕ) → length (turned bit out) ≡ length out
length-turned bit [] = refl
length-turned bit (first ∷ rest) = refl

-- a bit of a byte is below 256, and so is a byte in which it is turned
turned_byte : (bit first : ℕ) → first < 256 → bit_xor first (2 ^ (bit % 8)) < 256
turned_byte bit first small =
    let place : bit % 8 < 8 = mod_below bit 8 (omega arith) in
    let one : 2 ^ (bit % 8) < 2 ^ 8 = pow_below (bit % 8) 8 place in
    xor_of_8 first (2 ^ (bit % 8)) small one

IsBytes-turned : (bit : ℕ) (out : List ℕ) → IsBytes out → IsBytes (turned bit out)
IsBytes-turned bit [] are n = are n
IsBytes-turned bit (first ∷ rest) are zero = turned_byte bit first (are zero)
IsBytes-turned bit (first ∷ rest) are (suc n) = are (suc n)

length-answered : (call : ℕ) (v : Faulty) (right : List ℕ) → length (answered call v right) ≡ length right
length-answered call v right = by_fault (fails call v)
  where
    by_fault : (wrong : Bool) → length (if wrong then turned v.bit right else right) ≡ length right
    by_fault true = length-turned v.bit right
    by_fault false = refl

IsBytes-answered : (call : ℕ) (v : Faulty) (right : List ℕ) → IsBytes right → IsBytes (answered call v right)
IsBytes-answered call v right are = by_fault (fails call v)
  where
    by_fault : (wrong : Bool) → IsBytes (if wrong then turned v.bit right else right)
    by_fault true = IsBytes-turned v.bit right are
    by_fault false = are

bytes-answered : (call : ℕ) (v : Faulty) (n : ℕ) (right : List ℕ) → AreBytes n right → AreBytes n (answered call v right)
bytes-answered call v n right are = record {
  long = length-answered call v right ∙ are.long;
  small = IsBytes-answered call v right are.small;
}

length-opened : (v : Faulty) (n : ℕ) (right : Opened) → length right.text ≡ n → length (opened_by v n right).text ≡ n
length-opened v n right long = by_fault (fails 3 v)
  where
    by_fault : (wrong : Bool) → length (if wrong then (let o : Opened = record { authentic = false; text = zeros n } in o) else right).text ≡ n
    by_fault true = length-zeros n
    by_fault false = long

bytes-opened : (v : Faulty) (n : ℕ) (right : Opened) → IsBytes right.text → IsBytes (opened_by v n right).text
bytes-opened v n right are = by_fault (fails 3 v)
  where
    by_fault : (wrong : Bool) → IsBytes (if wrong then (let o : Opened = record { authentic = false; text = zeros n } in o) else right).text
    by_fault true = IsBytes-zeros n
    by_fault false = are

size-unwrapped : (v : Faulty) (P : ℕ → Type 0) (right : Unwrapped) → IfSome right.size P → IfSome (unwrapped_by v right).size P
size-unwrapped v P right h = by_fault (fails 5 v)
  where
    by_fault : (wrong : Bool) → IfSome (if wrong then (let u : Unwrapped = record { size = None; buf = zeros 80 } in u) else right).size P
    by_fault true = tt
    by_fault false = h

bytes-unwrapped : (v : Faulty) (right : Unwrapped) → AreBytes 80 right.buf → AreBytes 80 (unwrapped_by v right).buf
bytes-unwrapped v right are = by_fault (fails 5 v)
  where
    by_fault : (wrong : Bool) → AreBytes 80 (if wrong then (let u : Unwrapped = record { size = None; buf = zeros 80 } in u) else right).buf
    by_fault true = record { long = length-zeros 80; small = IsBytes-zeros 80 }
    by_fault false = are

state-seeded : (call : ℕ) (v : Faulty) (right : Drbg) → IsGenerator right → IsGenerator (seeded_by call v right)
state-seeded call v right h = record { key = bytes-answered call v 32 right.k h.key; value = h.value }

pub faulty_keeps : Keeps faulty_calls
faulty_keeps = record {
  hash_length = λ v alg text. length-answered 0 v (zero_padded 64 (hash alg text)) ∙ digest_length alg text;
  hash_bytes = λ v alg text. IsBytes-answered 0 v (zero_padded 64 (hash alg text)) (digest_bytes alg text);
  mac_length = λ v alg key text. length-answered 1 v (zero_padded 64 (hmac alg key text)) ∙ mac_length alg key text;
  mac_bytes = λ v alg key text. IsBytes-answered 1 v (zero_padded 64 (hmac alg key text)) (mac_bytes alg key text);
  seal_length = λ v key iv aad text. sealed_length key iv aad text;
  seal_bytes = λ v key iv aad text. sealed_bytes key iv aad text;
  seal_tag = λ v key iv aad text hk hi. bytes-answered 2 v 16 (gcm_encrypt key iv aad text).tag (sealed_tag key iv aad text hk hi);
  open_length = λ v key iv aad text tag. length-opened v (length text) (gcm_decrypt key iv aad text tag) (opened_length key iv aad text tag);
  open_bytes = λ v key iv aad text tag hk hi ht. bytes-opened v (length text) (gcm_decrypt key iv aad text tag) (opened_bytes key iv aad text tag hk hi ht);
  wrap_size = λ v pad key text h. refl;
  wrap_bytes = λ v pad key text hk ht h. bytes-answered 4 v 80 (wrapped_in_buffer pad key text).buf (wrapped_bytes pad key text hk ht h);
  unwrap_size = λ v pad key wrapped hk hw h. size-unwrapped v (IsUnwrappedLength pad (length wrapped)) (unwrapped_in_buffer pad key wrapped) (unwrapped_size pad key wrapped hk hw h);
  unwrap_bytes = λ v pad key wrapped hk hw h. bytes-unwrapped v (unwrapped_in_buffer pad key wrapped) (unwrapped_bytes pad key wrapped hk hw h);
  derive_bytes = λ v key label context n. bytes-answered 6 v n (kbkdf_counter key label context n) (derived_bytes key label context n);
  instantiate_counter = λ v entropy nonce personal. counter-instantiate entropy nonce personal;
  instantiate_state = λ v entropy nonce personal. state-seeded 7 v (instantiate entropy nonce personal) (instantiated_state entropy nonce personal);
  reseed_counter = λ v g entropy additional. counter-reseed g entropy additional;
  reseed_state = λ v g entropy additional. state-seeded 8 v (reseed g entropy additional) (reseeded_state g entropy additional);
  generate_counter = λ v g additional n. counter-generate g additional n;
  generate_state = λ v g additional n. generated_state g additional n;
  generate_bytes = λ v g additional n. bytes-answered 9 v n (generate g additional n).bytes (generated_bytes g additional n);
}
