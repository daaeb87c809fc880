-- Each added_word takes a table of bytes to one.
use Rattle.std.proofs.Common.{ℕ, zero, suc, ◌<◌, List, [], ◌∷◌, refl, arith, bit_xor, slice_index}
use lib.Lanes.{Each1}
use Rattle.std.proofs.lemmas.Nat.{xor_of_8}
use Rattle.aes_spec.specs.Field.{times, sub_byte}
use Rattle.aes_spec.specs.Aes.{sub_bytes, shift_rows, mix_columns, add_round_key, IsState}
use Rattle.aes_spec.proofs.EveryByte.{sub_small, times_1_small, times_2_small, times_3_small}

pub small_at : (l : List ℕ) → Each1 (λ (x : ℕ). x < 256) l → (n : ℕ) → slice_index l n < 256
small_at [] h n = omega arith
small_at (x ∷ xs) h zero = h.0
small_at (x ∷ xs) h (suc n) = small_at xs h.1 n

abbrev pub sixteen : (ℕ → ℕ) → List ℕ
sixteen f = f 0 ∷ f 1 ∷ f 2 ∷ f 3 ∷ f 4 ∷ f 5 ∷ f 6 ∷ f 7 ∷ f 8 ∷ f 9 ∷ f 10 ∷ f 11 ∷ f 12 ∷ f 13 ∷ f 14 ∷ f 15 ∷ []

pub sixteen_state : (f : ℕ → ℕ) → ((n : ℕ) → f n < 256) → IsState (sixteen f)
sixteen_state f h = record { long = refl; small = small_at (sixteen f) (h 0, (h 1, (h 2, (h 3, (h 4, (h 5, (h 6, (h 7, (h 8, (h 9, (h 10, (h 11, (h 12, (h 13, (h 14, (h 15, tt)))))))))))))))) }

pub sub_state : (s : List ℕ) → IsState s → IsState (sub_bytes s)
sub_state s h = sixteen_state (λ n. sub_byte (slice_index s n)) (λ n. sub_small (slice_index s n) (h.small n))

pub shift_state : (s : List ℕ) → IsState s → IsState (shift_rows s)
shift_state s h = record { long = refl; small = small_at (shift_rows s) (h.small 0, (h.small 5, (h.small 10, (h.small 15, (h.small 4, (h.small 9, (h.small 14, (h.small 3, (h.small 8, (h.small 13, (h.small 2, (h.small 7, (h.small 12, (h.small 1, (h.small 6, (h.small 11, tt)))))))))))))))) }

pub xor_small : (a b : ℕ) → a < 256 → b < 256 → bit_xor a b < 256
xor_small a b ha hb = xor_of_8 a b ha hb

pub add_state : (k s : List ℕ) → IsState k → IsState s → IsState (add_round_key k s)
add_state k s hk h = sixteen_state (λ n. bit_xor (slice_index s n) (slice_index k n)) (λ n. xor_small (slice_index s n) (slice_index k n) (h.small n) (hk.small n))

mix_0 : (a b c d : ℕ) → a < 256 → b < 256 → c < 256 → d < 256 → bit_xor (bit_xor (times 2 a) (times 3 b)) (bit_xor (times 1 c) (times 1 d)) < 256
mix_0 a b c d ha hb hc hd =
    xor_small (bit_xor (times 2 a) (times 3 b)) (bit_xor (times 1 c) (times 1 d)) (xor_small (times 2 a) (times 3 b) (times_2_small a ha) (times_3_small b hb)) (xor_small (times 1 c) (times 1 d) (times_1_small c hc) (times_1_small d hd))

mix_1 : (a b c d : ℕ) → a < 256 → b < 256 → c < 256 → d < 256 → bit_xor (bit_xor (times 1 a) (times 2 b)) (bit_xor (times 3 c) (times 1 d)) < 256
mix_1 a b c d ha hb hc hd =
    xor_small (bit_xor (times 1 a) (times 2 b)) (bit_xor (times 3 c) (times 1 d)) (xor_small (times 1 a) (times 2 b) (times_1_small a ha) (times_2_small b hb)) (xor_small (times 3 c) (times 1 d) (times_3_small c hc) (times_1_small d hd))

mix_2 : (a b c d : ℕ) → a < 256 → b < 256 → c < 256 → d < 256 → bit_xor (bit_xor (times 1 a) (times 1 b)) (bit_xor (times 2 c) (times 3 d)) < 256
mix_2 a b c d ha hb hc hd =
    xor_small (bit_xor (times 1 a) (times 1 b)) (bit_xor (times 2 c) (times 3 d)) (xor_small (times 1 a) (times 1 b) (times_1_small a ha) (times_1_small b hb)) (xor_small (times 2 c) (times 3 d) (times_2_small c hc) (times_3_small d hd))

mix_3 : (a b c d : ℕ) → a < 256 → b < 256 → c < 256 → d < 256 → bit_xor (bit_xor (times 3 a) (times 1 b)) (bit_xor (times 1 c) (times 2 d)) < 256
mix_3 a b c d ha hb hc hd =
    xor_small (bit_xor (times 3 a) (times 1 b)) (bit_xor (times 1 c) (times 2 d)) (xor_small (times 3 a) (times 1 b) (times_3_small a ha) (times_1_small b hb)) (xor_small (times 1 c) (times 2 d) (times_1_small c hc) (times_2_small d hd))

pub mix_state : (s : List ℕ) → IsState s → IsState (mix_columns s)
mix_state s h =
    let x = λ (n : ℕ). slice_index s n in
    let l = h.small in
    record { long = refl; small = small_at (mix_columns s) (mix_0 (x 0) (x 1) (x 2) (x 3) (l 0) (l 1) (l 2) (l 3), (mix_1 (x 0) (x 1) (x 2) (x 3) (l 0) (l 1) (l 2) (l 3), (mix_2 (x 0) (x 1) (x 2) (x 3) (l 0) (l 1) (l 2) (l 3), (mix_3 (x 0) (x 1) (x 2) (x 3) (l 0) (l 1) (l 2) (l 3), (mix_0 (x 4) (x 5) (x 6) (x 7) (l 4) (l 5) (l 6) (l 7), (mix_1 (x 4) (x 5) (x 6) (x 7) (l 4) (l 5) (l 6) (l 7), (mix_2 (x 4) (x 5) (x 6) (x 7) (l 4) (l 5) (l 6) (l 7), (mix_3 (x 4) (x 5) (x 6) (x 7) (l 4) (l 5) (l 6) (l 7), (mix_0 (x 8) (x 9) (x 10) (x 11) (l 8) (l 9) (l 10) (l 11), (mix_1 (x 8) (x 9) (x 10) (x 11) (l 8) (l 9) (l 10) (l 11), (mix_2 (x 8) (x 9) (x 10) (x 11) (l 8) (l 9) (l 10) (l 11), (mix_3 (x 8) (x 9) (x 10) (x 11) (l 8) (l 9) (l 10) (l 11), (mix_0 (x 12) (x 13) (x 14) (x 15) (l 12) (l 13) (l 14) (l 15), (mix_1 (x 12) (x 13) (x 14) (x 15) (l 12) (l 13) (l 14) (l 15), (mix_2 (x 12) (x 13) (x 14) (x 15) (l 12) (l 13) (l 14) (l 15), (mix_3 (x 12) (x 13) (x 14) (x 15) (l 12) (l 13) (l 14) (l 15), tt)))))))))))))))) }
