-- Round keys are tables of bytes.
use Rattle.std.proofs.Common.{◌≡◌, ℕ, zero, suc, ◌+◌, ◌-◌, ◌*◌, ◌/◌, ◌%◌, ◌<◌, ◌==◌, ◌&&◌, nat_lt, Bool, true, false, cond, List, [], ◌∷◌, ◌++◌, map, arith, bit_xor, slice_index, slice_index_or}
use Rattle.std.specs.List.{range_with_len}
use Rattle.std.proofs.lemmas.Nat.{xor_of_8}
use Rattle.bits_core.specs.ByteList.{IsBytes}
use Rattle.aes_spec.specs.Field.{power, sub_byte}
use Rattle.aes_spec.specs.Aes.{IsState}
use Rattle.aes_spec.specs.Key.{word_sum, sub_word, rot_word, rcon, added_word, next_word, key_expansion, key_words, round_key, aes, aes_inverse}
use Rattle.aes_spec.proofs.EveryByte.{sub_small, times_2_small}
use Rattle.aes_spec.proofs.States.{sixteen_state}
use Rattle.aes_spec.proofs.DecryptionUndoes.{undone}

abbrev IsWords : List (List ℕ) → Type 0
IsWords ws = (i : ℕ) → IsBytes (slice_index_or ws i [])

mapped : (f : ℕ → ℕ) → ((n : ℕ) → f n < 256) → (a n : ℕ) → IsBytes (map f (range_with_len a n))
mapped f h a zero k = omega arith
mapped f h a (suc n) zero = h a
mapped f h a (suc n) (suc k) = mapped f h (a + 1) n k

word_sum_bytes : (a b : List ℕ) → IsBytes a → IsBytes b → IsBytes (word_sum a b)
word_sum_bytes a b ha hb = mapped (λ i. bit_xor (slice_index a i) (slice_index b i)) (λ i. xor_of_8 (slice_index a i) (slice_index b i) (ha i) (hb i)) 0 4

sub_word_bytes : (a : List ℕ) → IsBytes a → IsBytes (sub_word a)
sub_word_bytes a ha = mapped (λ i. sub_byte (slice_index a i)) (λ i. sub_small (slice_index a i) (ha i)) 0 4

power_small : (n : ℕ) → power 2 n < 256
unfolding power
power_small zero = omega arith
power_small (suc n) = times_2_small (power 2 n) (power_small n)

rcon_bytes : (j : ℕ) → IsBytes (rcon j)
rcon_bytes j zero = power_small (j - 1)
rcon_bytes j (suc zero) = omega arith
rcon_bytes j (suc (suc zero)) = omega arith
rcon_bytes j (suc (suc (suc zero))) = omega arith
rcon_bytes j (suc (suc (suc (suc n)))) = omega arith

chosen : (b : Bool) (x y : List ℕ) → IsBytes x → IsBytes y → IsBytes (cond b x y)
chosen true x y hx hy = hx
chosen false x y hx hy = hy

added_word_bytes : (nk i : ℕ) (last : List ℕ) → IsBytes last → IsBytes (added_word nk i last)
added_word_bytes nk i last h =
    chosen (i % nk == 0) _ _
    (word_sum_bytes (sub_word (rot_word last)) (rcon (i / nk)) (sub_word_bytes (rot_word last) (mapped (λ i. slice_index last ((i + 1) % 4)) (λ i. h ((i + 1) % 4)) 0 4)) (rcon_bytes (i / nk)))
    (chosen ((nk == 8) && (i % 8 == 4)) _ _ (sub_word_bytes last h) h)

pushed : (ws : List (List ℕ)) (w : List ℕ) → IsWords ws → IsBytes w → IsWords (ws ++ w ∷ [])
pushed [] w hs h zero = h
pushed [] w hs h (suc i) = λ n. omega arith
pushed (v ∷ ws) w hs h zero = hs 0
pushed (v ∷ ws) w hs h (suc i) = pushed ws w (λ j. hs (suc j)) h i

pub key_expansion_words : (key : List ℕ) → IsBytes key → (nk n : ℕ) → IsWords (key_expansion key nk n)
unfolding key_expansion
key_expansion_words key h nk zero = λ i n. omega arith
key_expansion_words key h nk (suc n) =
    let ws = key_expansion key nk n in
    let hs = key_expansion_words key h nk n in
    pushed ws (next_word key nk ws n) hs
    (chosen (nat_lt n nk) _ _ (mapped (λ b. slice_index key (4 * n + b)) (λ b. h (4 * n + b)) 0 4)
    (word_sum_bytes (slice_index_or ws (n - nk) []) (added_word nk n (slice_index_or ws (n - 1) [])) (hs (n - nk)) (added_word_bytes nk n (slice_index_or ws (n - 1) []) (hs (n - 1)))))

pub round_key_state : (key : List ℕ) → IsBytes key → (r : ℕ) → IsState (round_key key r)
unfolding round_key
round_key_state key h r =
    let ws = key_expansion key (key_words key) (4 * (key_words key + 7)) in
    let hs = key_expansion_words key h (key_words key) (4 * (key_words key + 7)) in
    sixteen_state (λ n. slice_index (slice_index_or ws (4 * r + n / 4) []) (n % 4)) (λ n. hs (4 * r + n / 4) (n % 4))

pub aes_inverse-aes : (key block : List ℕ) → IsBytes key → IsState block → aes_inverse key (aes key block) ≡ block
aes_inverse-aes key block hk hb = undone (round_key key) (round_key_state key hk) (key_words key + 6) block hb
