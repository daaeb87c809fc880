-- The lengths of what the standards' functions give, and that these are bytes.
use Rattle.std.proofs.Common.{◌≡◌, ℕ, zero, suc, ◌+◌, ◌-◌, ◌*◌, ◌/◌, ◌%◌, ◌^◌, ◌<◌, ◌≤◌, Bool, true, false, cond, if◌then◌else◌, List, [], ◌∷◌, ◌++◌, length, take, drop, bit_xor, slice_index, Option, Some, None, refl, sym, ap, ◌∙◌, subst, arith, inl, inr, lit<, eq-eqb}
use Rattle.std.specs.Prelude.{IfSome, option_map, unwrap_or, bytes_eq}
use Rattle.std.specs.Int.{w32, from_be_bytes, byte_at}
use Rattle.std.proofs.lemmas.Bool.{cases_lt, cases_eq, ne_eqb}
use Rattle.std.proofs.lemmas.Nat.{xor_of_8, pow_below}
use Rattle.std.proofs.lemmas.List.{get_or_past, length-take, length-append}
use Rattle.bits_core.specs.declared.algorithm.Alg.{Alg}
use Rattle.bits_core.specs.declared.algorithm.Alg.TheVariants.{Sha256}
use Rattle.bits_core.specs.ByteList.{IsBytes, zeros, zero_padded}
use Rattle.bits_core.proofs.Bytes.{small_along, IsBytes-append, IsBytes-take, IsBytes-zeros}
use Rattle.bits_core.proofs.ZeroPadding.{length-zeros, length-zero_padded}
use Rattle.aes_core.specs.Aes.{IsState}
use Rattle.aes_core.specs.Key.{aes}
use Rattle.aes_core.specs.Gctr.{inc32, counter_block, stream_byte, gctr}
use Rattle.aes_spec.proofs.States.{small_at}
use Rattle.aes_spec.proofs.KeyStream.{length-gctr, get_or-gctr}
use Rattle.ghash_core.specs.Block.{value_of_bits, first_bytes, bytes_of}
use Rattle.gcm_mode.specs.Gcm.{hashed_iv, initial_counter, text_counter, authenticated, full_tag, gcm_tag, gcm_encrypt, gcm_text}
use Rattle.key_wrap.specs.Wrapping.{kw, kwp, IsKwOf, IsKwpPlain, IsKwpOf}
use Rattle.key_wrap.specs.Unwrapping.{unkw, unkwp}
use Rattle.key_wrap.specs.InPlace.{IsSemiblocks, IsPadded}
use Rattle.key_wrap.proofs.Cipher.{aes_inverses}
use Rattle.key_wrap.proofs.Lengths.{length-kw, length-kwp, bytes-kw, bytes-kwp}
use Rattle.key_wrap.proofs.UnwrappedValues.{unkw_some, unkwp_some}
use Rattle.hmac_core.specs.Hash.{hash}
use Rattle.hmac_core.specs.Hmac.{hmac}
use Rattle.hmac_core.specs.Blocks.{joined}
use Rattle.hmac_core.proofs.Lengths.{length-hash, length-hmac, size_le}
use Rattle.hmac_core.proofs.DigestBytes.{IsBytes-hash, IsBytes-hmac}
use Rattle.kbkdf_core.specs.CounterMode.{fixed_input, kbkdf_counter, key_block}
use Rattle.kbkdf_core.proofs.KeyBlocks.{length-kbkdf_counter}
use Rattle.drbg_core.specs.declared.generator.Drbg.{Drbg}
use Rattle.drbg_core.specs.Generator.{mix, update, instantiate, reseed, value_after, primed, drawn, generate}
use Rattle.drbg_core.proofs.Requests.{length-bytes}
use Rattle.engine_core.specs.Inputs.{IsAesKey, IsWrappable, IsUnwrappable}
use Rattle.engine_core.specs.Results.{Opened, AreBytes, IsGenerator, IsUnwrappedLength}
use Rattle.engine_core.specs.Standards.{gcm_decrypt, unwrapping, wrapped_in_buffer, unwrapped_in_buffer}

-- ---- digests and MACs

pub digest_length : (alg : Alg) (text : List ℕ) → length (zero_padded 64 (hash alg text)) ≡ 64
digest_length alg text = length-zero_padded 64 (hash alg text) (let fits : length (hash alg text) ≤ 64 = omega (arith, length-hash alg text, size_le alg) in fits)

pub digest_bytes : (alg : Alg) (text : List ℕ) → IsBytes (zero_padded 64 (hash alg text))
digest_bytes alg text = IsBytes-append (hash alg text) _ (IsBytes-hash alg text) (IsBytes-zeros _)

pub mac_length : (alg : Alg) (key text : List ℕ) → length (zero_padded 64 (hmac alg key text)) ≡ 64
mac_length alg key text = length-zero_padded 64 (hmac alg key text) (let fits : length (hmac alg key text) ≤ 64 = omega (arith, length-hmac alg key text, size_le alg) in fits)

pub mac_bytes : (alg : Alg) (key text : List ℕ) → IsBytes (zero_padded 64 (hmac alg key text))
mac_bytes alg key text = IsBytes-append (hmac alg key text) _ (IsBytes-hmac alg key text) (IsBytes-zeros _)

-- ---- GCM

byte_at-small : (k n : ℕ) → byte_at k n < 256
byte_at-small zero n = omega arith
byte_at-small (suc k) n = omega arith

inc32_state : (b : List ℕ) → IsState b → IsState (inc32 b)
inc32_state b h =
    let n : ℕ = (from_be_bytes w32 (slice_index b 12 ∷ slice_index b 13 ∷ slice_index b 14 ∷ slice_index b 15 ∷ []) + 1) % 2 ^ 32 in
    let s = h.small in
    record { long = refl; small = small_at (inc32 b) (s 0, (s 1, (s 2, (s 3, (s 4, (s 5, (s 6, (s 7, (s 8, (s 9, (s 10, (s 11, (byte_at-small 3 n, (byte_at-small 2 n, (byte_at-small 1 n, (byte_at-small 0 n, tt)))))))))))))))) }

counter_state : (start : List ℕ) → IsState start → (i : ℕ) → IsState (counter_block start i)
unfolding counter_block
counter_state start h zero = h
counter_state start h (suc i) = inc32_state (counter_block start i) (counter_state start h i)

bytes-gctr : (enciphered : List ℕ → List ℕ) → ((b : List ℕ) → IsState b → IsState (enciphered b)) → (start text : List ℕ) → IsState start → IsBytes text
    → IsBytes (gctr enciphered start text)
unfolding stream_byte
bytes-gctr enciphered states start text hs ht p =
    elim (cases_lt p (length text)) [
      | inl within ↦
          let streamed : stream_byte enciphered start p < 256 =
          (states (counter_block start (p / 16)) (counter_state start hs (p / 16))).small (p % 16) in
          small_along (slice_index (gctr enciphered start text) p) (bit_xor (slice_index text p) (stream_byte enciphered start p))
          (get_or-gctr enciphered start text p within) (xor_of_8 (slice_index text p) (stream_byte enciphered start p) (ht p) streamed)
      | inr past ↦
          small_along (slice_index (gctr enciphered start text) p) 0 (get_or_past (gctr enciphered start text) p 0 (omega (arith, length-gctr enciphered start text))) (lit< tt)
    ]

-- so many bits spell a number below so many powers of two
bits_small : (b : Bool) (k v : ℕ) → v < 2 ^ k → (if b then 2 ^ k else 0) + v < 2 ^ suc k
bits_small true k v h = omega (arith, h)
bits_small false k v h = omega (arith, h)

value-small : (bs : List Bool) → value_of_bits bs < 2 ^ length bs
unfolding value_of_bits
value-small [] = lit< tt
value-small (b ∷ bs) = bits_small b (length bs) (value_of_bits bs) (value-small bs)

eight_small : (bs : List Bool) → length bs ≤ 8 → value_of_bits bs < 256
eight_small bs few =
    elim (cases_lt (length bs) 8) [
      | inl less ↦ let top : 2 ^ length bs < 2 ^ 8 = pow_below (length bs) 8 less in omega (arith, value-small bs, top)
      | inr all ↦ let top : 2 ^ length bs ≡ 2 ^ 8 = ap (λ (n : ℕ). 2 ^ n) (let e : length bs ≡ 8 = omega arith in e) in omega (arith, value-small bs, top)
    ]

bytes-first_bytes : (n : ℕ) (bs : List Bool) → IsBytes (first_bytes n bs)
unfolding first_bytes
bytes-first_bytes zero bs k = lit< tt
bytes-first_bytes (suc n) bs zero = eight_small (take 8 bs) (omega (arith, length-take 8 bs))
bytes-first_bytes (suc n) bs (suc k) = bytes-first_bytes n (drop 8 bs) k

length-first_bytes : (n : ℕ) (bs : List Bool) → length (first_bytes n bs) ≡ n
unfolding first_bytes
length-first_bytes zero bs = refl
length-first_bytes (suc n) bs = ap suc (length-first_bytes n (drop 8 bs))

block_state : (bs : List Bool) → IsState (bytes_of bs)
unfolding bytes_of
block_state bs = record { long = length-first_bytes 16 bs; small = bytes-first_bytes 16 bs }

hashed_state : (key iv : List ℕ) → IsState (hashed_iv key iv)
unfolding hashed_iv
hashed_state key iv = block_state _

last_of_counter : IsBytes (0 ∷ 0 ∷ 0 ∷ 1 ∷ [])
last_of_counter n = small_at (0 ∷ 0 ∷ 0 ∷ 1 ∷ []) (lit< tt, (lit< tt, (lit< tt, (lit< tt, tt)))) n

initial_state : (key iv : List ℕ) → IsBytes iv → IsState (initial_counter key iv)
unfolding initial_counter
initial_state key iv h =
    let last : List ℕ = 0 ∷ 0 ∷ 0 ∷ 1 ∷ [] in
    let chosen : Bool → List ℕ = λ b. cond b (iv ++ last) (hashed_iv key iv) in
    elim (cases_eq (length iv) 12) [
      | inl short ↦
          subst IsState (sym (ap chosen (eq-eqb (length iv) 12 short)))
          (record { long = length-append iv last ∙ omega (arith, short); small = IsBytes-append iv last h last_of_counter })
      | inr other ↦ subst IsState (sym (ap chosen (ne_eqb (length iv) 12 other))) (hashed_state key iv)
    ]

text_state : (key iv : List ℕ) → IsBytes iv → IsState (text_counter key iv)
unfolding text_counter
text_state key iv h = inc32_state (initial_counter key iv) (initial_state key iv h)

aes_states : (key : List ℕ) → IsBytes key → (b : List ℕ) → IsState b → IsState (aes key b)
aes_states key h = (aes_inverses key h).states

length-authenticated : (key aad ciphertext : List ℕ) → length (authenticated key aad ciphertext) ≡ 16
unfolding authenticated
length-authenticated key aad ciphertext = (block_state _).long

bytes-authenticated : (key aad ciphertext : List ℕ) → IsBytes (authenticated key aad ciphertext)
unfolding authenticated
bytes-authenticated key aad ciphertext = (block_state _).small

tag_is_bytes : (key iv aad ciphertext : List ℕ) → IsAesKey key → IsBytes iv → AreBytes 16 (gcm_tag key iv aad ciphertext)
unfolding gcm_tag full_tag
tag_is_bytes key iv aad ciphertext hk hi =
    let s : List ℕ = authenticated key aad ciphertext in
    record {
      long = length-gctr (aes key) (initial_counter key iv) s ∙ length-authenticated key aad ciphertext;
      small = bytes-gctr (aes key) (aes_states key hk.bytes) (initial_counter key iv) s (initial_state key iv hi) (bytes-authenticated key aad ciphertext);
    }

pub sealed_length : (key iv aad text : List ℕ) → length (gcm_encrypt key iv aad text).ciphertext ≡ length text
unfolding gcm_encrypt
sealed_length key iv aad text = length-gctr (aes key) (text_counter key iv) text

pub sealed_bytes : (key iv aad text : List ℕ) → IsAesKey key → IsBytes iv → IsBytes text → IsBytes (gcm_encrypt key iv aad text).ciphertext
unfolding gcm_encrypt
sealed_bytes key iv aad text hk hi ht = bytes-gctr (aes key) (aes_states key hk.bytes) (text_counter key iv) text (text_state key iv hi) ht

pub sealed_tag : (key iv aad text : List ℕ) → IsAesKey key → IsBytes iv → AreBytes 16 (gcm_encrypt key iv aad text).tag
unfolding gcm_encrypt
sealed_tag key iv aad text hk hi = tag_is_bytes key iv aad _ hk hi

text_length : (key iv text : List ℕ) → length (gcm_text key iv text) ≡ length text
unfolding gcm_text
text_length key iv text = length-gctr (aes key) (text_counter key iv) text

text_bytes : (key iv text : List ℕ) → IsAesKey key → IsBytes iv → IsBytes text → IsBytes (gcm_text key iv text)
unfolding gcm_text
text_bytes key iv text hk hi ht = bytes-gctr (aes key) (aes_states key hk.bytes) (text_counter key iv) text (text_state key iv hi) ht

pub opened_length : (key iv aad text tag : List ℕ) → length (gcm_decrypt key iv aad text tag).text ≡ length text
opened_length key iv aad text tag = by_answer (bytes_eq tag (take (length tag) (gcm_tag key iv aad text)))
  where
    by_answer : (right : Bool)
        → length (if right then (let o : Opened = record { authentic = true; text = gcm_text key iv text } in o) else record { authentic = false; text = zeros (length text) }).text
        ≡ length text
    by_answer true = text_length key iv text
    by_answer false = length-zeros (length text)

pub opened_bytes : (key iv aad text tag : List ℕ) → IsAesKey key → IsBytes iv → IsBytes text → IsBytes (gcm_decrypt key iv aad text tag).text
opened_bytes key iv aad text tag hk hi ht = by_answer (bytes_eq tag (take (length tag) (gcm_tag key iv aad text)))
  where
    by_answer : (right : Bool)
        → IsBytes (if right then (let o : Opened = record { authentic = true; text = gcm_text key iv text } in o) else record { authentic = false; text = zeros (length text) }).text
    by_answer true = text_bytes key iv text hk hi ht
    by_answer false = IsBytes-zeros (length text)

-- ---- key wrap

in_buffer : (bytes : List ℕ) → length bytes ≤ 80 → IsBytes bytes → AreBytes 80 (zero_padded 80 bytes)
in_buffer bytes fits small = record {
  long = length-zero_padded 80 bytes fits;
  small = IsBytes-append bytes (zeros (80 - length bytes)) small (IsBytes-zeros (80 - length bytes));
}

pub wrapped_bytes : (pad : Bool) (key text : List ℕ) → IsAesKey key → IsBytes text → IsWrappable pad (length text) → AreBytes 80 (wrapped_in_buffer pad key text).buf
wrapped_bytes true key text hk ht h =
    let plain : IsKwpPlain text = record { least = h.0; most = h.1; bytes = ht } in
    in_buffer (kwp (aes key) text) (omega (arith, length-kwp key text h.0 h.1, h.1)) (bytes-kwp key text hk.bytes plain)
wrapped_bytes false key text hk ht h =
    in_buffer (kw (aes key) text) (omega (arith, length-kw key text h.0 h.2, h.1)) (bytes-kw key text hk.bytes ht h.0 h.2)

-- what a value of unwrapping is
record IsPlaintext (pad : Bool) (n : ℕ) (text : List ℕ) : Type 0 where
  pub size : IsUnwrappedLength pad n (length text)
  pub most : length text ≤ 64
  pub bytes : IsBytes text

kw_plaintext : (key w p : List ℕ) → IsAesKey key → IsBytes w → IsUnwrappable false (length w) → unkw key w ≡ Some p → IsPlaintext false (length w) p
kw_plaintext key w p hk hw h e =
    let semiblocks : IsSemiblocks w = record { least = h.0; most = h.1; whole = h.2 } in
    let is : IsKwOf key w p = (unkw_some key w p hk.bytes hw semiblocks).0 e in
    record {
      size = sym (ap (length {A = ℕ}) is.wrapping ∙ length-kw key p is.plain.least is.plain.whole);
      most = is.plain.most;
      bytes = is.plain.bytes;
    }

kwp_plaintext : (key w p : List ℕ) → IsAesKey key → IsBytes w → IsUnwrappable true (length w) → unkwp key w ≡ Some p → IsPlaintext true (length w) p
kwp_plaintext key w p hk hw h e =
    let semiblocks : IsPadded w = record { least = h.0; most = h.1; whole = h.2 } in
    let is : IsKwpOf key w p = (unkwp_some key w p hk.bytes hw semiblocks).0 e in
    let long : length w ≡ 8 * ((length p + 7) / 8) + 8 = ap (length {A = ℕ}) is.wrapping ∙ length-kwp key p is.plain.least is.plain.most in
    record {
      size = (is.plain.least, omega (arith, long));
      most = is.plain.most;
      bytes = is.plain.bytes;
    }

plaintext_is : (pad : Bool) (key w p : List ℕ) → IsAesKey key → IsBytes w → IsUnwrappable pad (length w) → unwrapping pad key w ≡ Some p → IsPlaintext pad (length w) p
plaintext_is true key w p hk hw h e = kwp_plaintext key w p hk hw h e
plaintext_is false key w p hk hw h e = kw_plaintext key w p hk hw h e

pub unwrapped_size : (pad : Bool) (key w : List ℕ) → IsAesKey key → IsBytes w → IsUnwrappable pad (length w)
    → IfSome (unwrapped_in_buffer pad key w).size (IsUnwrappedLength pad (length w))
unwrapped_size pad key w hk hw h = by_value (unwrapping pad key w) (plaintext_is pad key w)
  where
    by_value : (value : Option (List ℕ)) → ((p : List ℕ) → IsAesKey key → IsBytes w → IsUnwrappable pad (length w) → value ≡ Some p → IsPlaintext pad (length w) p)
        → IfSome (option_map (length {A = ℕ}) value) (IsUnwrappedLength pad (length w))
    by_value None is = tt
    by_value (Some p) is = (is p hk hw h refl).size

pub unwrapped_bytes : (pad : Bool) (key w : List ℕ) → IsAesKey key → IsBytes w → IsUnwrappable pad (length w) → AreBytes 80 (unwrapped_in_buffer pad key w).buf
unwrapped_bytes pad key w hk hw h = by_value (unwrapping pad key w) (plaintext_is pad key w)
  where
    by_value : (value : Option (List ℕ)) → ((p : List ℕ) → IsAesKey key → IsBytes w → IsUnwrappable pad (length w) → value ≡ Some p → IsPlaintext pad (length w) p)
        → AreBytes 80 (zero_padded 80 (unwrap_or value []))
    by_value None is = in_buffer [] (omega arith) (IsBytes-zeros 0)
    by_value (Some p) is = let plain = is p hk hw h refl in in_buffer p (omega (arith, plain.most)) plain.bytes

-- ---- key derivation and the generator

bytes-joined : (block : ℕ → List ℕ) → ((n : ℕ) → IsBytes (block (suc n))) → (n : ℕ) → IsBytes (joined block n)
unfolding joined
bytes-joined block each zero = IsBytes-zeros 0
bytes-joined block each (suc n) = IsBytes-append (joined block n) (block (suc n)) (bytes-joined block each n) (each n)

bytes-key_block : (key fixed : List ℕ) (n : ℕ) → IsBytes (key_block key fixed n)
unfolding key_block
bytes-key_block key fixed n = IsBytes-hmac Sha256 key _

derived_small : (key label context : List ℕ) (n : ℕ) → IsBytes (kbkdf_counter key label context n)
unfolding kbkdf_counter
derived_small key label context n =
    let fixed = fixed_input label context (8 * n) in
    IsBytes-take n (joined (key_block key fixed) ((n + 31) / 32)) (bytes-joined (key_block key fixed) (λ i. bytes-key_block key fixed (suc i)) ((n + 31) / 32))

pub derived_bytes : (key label context : List ℕ) (n : ℕ) → AreBytes n (kbkdf_counter key label context n)
derived_bytes key label context n = record { long = length-kbkdf_counter key label context n; small = derived_small key label context n }

mac_of_32 : (key text : List ℕ) → AreBytes 32 (hmac Sha256 key text)
mac_of_32 key text = record { long = length-hmac Sha256 key text; small = IsBytes-hmac Sha256 key text }

mixed_state : (g : Drbg) (byte : ℕ) (input : List ℕ) → IsGenerator (mix g byte input)
unfolding mix
mixed_state g byte input = record { key = mac_of_32 _ _; value = mac_of_32 _ _ }

updated_state : (g : Drbg) (input : List ℕ) → IsGenerator (update g input)
unfolding update
updated_state g [] = mixed_state g 0 []
updated_state g (first ∷ rest) = mixed_state (mix g 0 (first ∷ rest)) 1 (first ∷ rest)

pub instantiated_state : (entropy nonce personal : List ℕ) → IsGenerator (instantiate entropy nonce personal)
unfolding instantiate
instantiated_state entropy nonce personal = updated_state _ _

pub reseeded_state : (g : Drbg) (entropy additional : List ℕ) → IsGenerator (reseed g entropy additional)
unfolding reseed
reseeded_state g entropy additional = updated_state _ _

pub generated_state : (g : Drbg) (additional : List ℕ) (n : ℕ) → IsGenerator (generate g additional n).after
unfolding generate
generated_state g additional n =
    let last = updated_state (drawn (primed g additional) n).after additional in
    record { key = last.key; value = last.value }

bytes-value : (k v : List ℕ) (n : ℕ) → IsBytes (value_after k v (suc n))
unfolding value_after
bytes-value k v n = IsBytes-hmac Sha256 k _

generated_small : (g : Drbg) (additional : List ℕ) (n : ℕ) → IsBytes (generate g additional n).bytes
unfolding generate drawn
generated_small g additional n =
    let p : Drbg = primed g additional in
    IsBytes-take n (joined (value_after p.k p.v) ((n + 31) / 32)) (bytes-joined (value_after p.k p.v) (bytes-value p.k p.v) ((n + 31) / 32))

pub generated_bytes : (g : Drbg) (additional : List ℕ) (n : ℕ) → AreBytes n (generate g additional n).bytes
generated_bytes g additional n = record { long = length-bytes g additional n; small = generated_small g additional n }
