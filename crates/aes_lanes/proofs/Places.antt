-- Look-ups of nibbles, lane by lane, and the places that they read.
use Rattle.std.proofs.Common.{◌≡◌, ℕ, ◌/◌, ◌<◌, Bool, true, false, cond, leb, ltb, T, ◌||◌, List, map, length, get_or, refl, ap, ◌∙◌, arith, bit_xor, bit_and, w8, Fits, IsTrue, slice_index}
use lib.Lanes.{Each1}
use Rattle.std.specs.List.{range_with_len}
use Rattle.std.proofs.lemmas.Float.{T_from_true}
use Rattle.std.proofs.lemmas.Simd.{Each1-get_or, Each1-from_get_or, SwzOk, SwzOk-from_Each1, swz_l, get_or-swz_l}
use Rattle.aes_spec.proofs.EveryByte.{on_bytes}
use Rattle.aes_lanes.specs.Nibbles.{read, is_place, first_half, second_half, to_tower, last_sub}
use Rattle.aes_lanes.specs.declared.tables.TheConstants.{INV, OVER}
use Rattle.aes_spec.specs.Field.{product, remainder, times, first_from, inverse, affine_bit, byte_of, affine, sub_byte}

pub byte_at : (v : List ℕ) (j : ℕ) → (length v ≡ 16) × Each1 (Fits w8) v → j < 16 → slice_index v j < 256
byte_at v j f h = (Each1-get_or (Fits w8) v j 0 (omega (arith, f.0)) f.1).fits

pub places_ok : (at : List ℕ) → length at ≡ 16 → ((j : ℕ) → j < 16 → IsTrue (is_place (slice_index at j))) → SwzOk w8 16 16 0 at
places_ok at long each =
    SwzOk-from_Each1 w8 16 1 16 0 at refl (omega (arith, long))
    (Each1-from_get_or (λ (x : ℕ). T (leb 128 x || ltb x 16)) at 0 (λ j h. T_from_true (leb 128 (get_or at j 0) || ltb (get_or at j 0) 16) (each j (omega (arith, long)))))

pub looked_up : (table at : List ℕ) (j : ℕ) → length at ≡ 16 → j < 16 → slice_index (swz_l w8 16 table 0 at) j ≡ read table (slice_index at j)
unfolding read
looked_up table at j long h =
    get_or-swz_l w8 16 table 0 at j (omega (arith, long))
    ∙ ap (λ (n : ℕ). cond (leb 128 (get_or at j 0)) 0 (get_or table n 0)) (omega arith)

-- ---- the places of the S-box, at each byte

abbrev number : Bool → ℕ
number t = cond t 1 0

abbrev one : ℕ
one = 1

of_number : (t : Bool) → number t ≡ one → t ≡ true
of_number true e = refl
of_number false e = absurd (omega (arith, e))

pub at_bytes : (t : ℕ → Bool) → map (λ b. number (t b)) (range_with_len 0 256) ≡ map (λ (b : ℕ). one) (range_with_len 0 256) → (b : ℕ) → b < 256 → t b ≡ true
at_bytes t e b h = of_number (t b) (on_bytes (λ b. number (t b)) (λ b. one) e b h)

pub low_place : (b : ℕ) → b < 256 → is_place (bit_and b 15) ≡ true
low_place = at_bytes (λ b. is_place (bit_and b 15)) refl

pub high_place : (b : ℕ) → b < 256 → is_place (b / 16) ≡ true
high_place = at_bytes (λ b. is_place (b / 16)) refl

pub sum_place : (b : ℕ) → b < 256 → is_place (bit_xor (b / 16) (bit_and b 15)) ≡ true
sum_place = at_bytes (λ b. is_place (bit_xor (b / 16) (bit_and b 15))) refl

pub first_place : (b : ℕ) → b < 256 → is_place (bit_xor (read INV (b / 16)) (read OVER (bit_and b 15))) ≡ true
unfolding read
first_place = at_bytes (λ b. is_place (bit_xor (read INV (b / 16)) (read OVER (bit_and b 15)))) refl

pub second_place : (b : ℕ) → b < 256 → is_place (bit_xor (read INV (bit_xor (b / 16) (bit_and b 15))) (read OVER (bit_and b 15))) ≡ true
unfolding read
second_place = at_bytes (λ b. is_place (bit_xor (read INV (bit_xor (b / 16) (bit_and b 15))) (read OVER (bit_and b 15)))) refl

pub p_place : (b : ℕ) → b < 256 → is_place (first_half b) ≡ true
unfolding read first_half
p_place = at_bytes (λ b. is_place (first_half b)) refl

pub q_place : (b : ℕ) → b < 256 → is_place (second_half b) ≡ true
unfolding read second_half
q_place = at_bytes (λ b. is_place (second_half b)) refl

pub sub_is : (b : ℕ) → b < 256 → bit_xor (last_sub (to_tower b)) 0x63 ≡ sub_byte b
unfolding read first_half second_half to_tower last_sub product remainder times first_from inverse affine_bit byte_of affine sub_byte
sub_is = on_bytes (λ b. bit_xor (last_sub (to_tower b)) 0x63) sub_byte refl
