-- What holds at each of the 256 bytes, by computing.
use Rattle.std.proofs.Common.{◌≡◌, ℕ, ◌%◌, ◌<◌, List, map, get_or, refl, sym, ap, ◌∙◌, arith, bit_xor}
use Rattle.std.proofs.lemmas.List.FromFn.{get_or-map-range_with_len}
use Rattle.std.specs.List.{range_with_len}
use Rattle.aes_spec.specs.Field.{product, remainder, times, first_from, inverse, affine_bit, byte_of, affine, sub_byte, inv_affine_bit, inv_affine, inv_sub_byte}

pub on_bytes : (f g : ℕ → ℕ) → map f (range_with_len 0 256) ≡ map g (range_with_len 0 256) → (b : ℕ) → b < 256 → f b ≡ g b
on_bytes f g e b h = sym (get_or-map-range_with_len f 0 256 b b 0 h (omega arith))
    ∙ ap (λ (t : List ℕ). get_or t b 0) e ∙ get_or-map-range_with_len g 0 256 b b 0 h (omega arith)

unsub_table : map (λ b. inv_sub_byte (sub_byte b)) (range_with_len 0 256) ≡ map (λ b. b) (range_with_len 0 256)
unfolding product remainder times first_from inverse affine_bit byte_of affine sub_byte inv_affine_bit inv_affine inv_sub_byte
unsub_table = refl

pub unsub : (b : ℕ) → b < 256 → inv_sub_byte (sub_byte b) ≡ b
unsub b h = on_bytes (λ b. inv_sub_byte (sub_byte b)) (λ b. b) unsub_table b h

-- matrix_entry (r, j) of the product of the two matrices, applied to a byte
abbrev pub pair : ℕ → ℕ → ℕ → ℕ → ℕ → ℕ → ℕ → ℕ → ℕ → ℕ
pair d0 m0 d1 m1 d2 m2 d3 m3 b = bit_xor (bit_xor (times d0 (times m0 b)) (times d1 (times m1 b))) (bit_xor (times d2 (times m2 b)) (times d3 (times m3 b)))

below_256 : (x : ℕ) → x % 256 ≡ x → x < 256
below_256 x h = omega (arith, h)

pub sub_small : (b : ℕ) → b < 256 → sub_byte b < 256
unfolding product remainder times first_from inverse affine_bit byte_of affine sub_byte
sub_small b h = below_256 (sub_byte b) (on_bytes (λ b. sub_byte b % 256) sub_byte refl b h)

pub inv_sub_small : (b : ℕ) → b < 256 → inv_sub_byte b < 256
unfolding product remainder times first_from inverse inv_affine_bit byte_of inv_affine inv_sub_byte
inv_sub_small b h = below_256 (inv_sub_byte b) (on_bytes (λ b. inv_sub_byte b % 256) inv_sub_byte refl b h)

pub times_1_small : (b : ℕ) → b < 256 → times 1 b < 256
unfolding product remainder times
times_1_small b h = below_256 (times 1 b) (on_bytes (λ b. times 1 b % 256) (times 1) refl b h)

pub times_2_small : (b : ℕ) → b < 256 → times 2 b < 256
unfolding product remainder times
times_2_small b h = below_256 (times 2 b) (on_bytes (λ b. times 2 b % 256) (times 2) refl b h)

pub times_3_small : (b : ℕ) → b < 256 → times 3 b < 256
unfolding product remainder times
times_3_small b h = below_256 (times 3 b) (on_bytes (λ b. times 3 b % 256) (times 3) refl b h)

pub times_9_small : (b : ℕ) → b < 256 → times 9 b < 256
unfolding product remainder times
times_9_small b h = below_256 (times 9 b) (on_bytes (λ b. times 9 b % 256) (times 9) refl b h)

pub times_11_small : (b : ℕ) → b < 256 → times 11 b < 256
unfolding product remainder times
times_11_small b h = below_256 (times 11 b) (on_bytes (λ b. times 11 b % 256) (times 11) refl b h)

pub times_13_small : (b : ℕ) → b < 256 → times 13 b < 256
unfolding product remainder times
times_13_small b h = below_256 (times 13 b) (on_bytes (λ b. times 13 b % 256) (times 13) refl b h)

pub times_14_small : (b : ℕ) → b < 256 → times 14 b < 256
unfolding product remainder times
times_14_small b h = below_256 (times 14 b) (on_bytes (λ b. times 14 b % 256) (times 14) refl b h)

-- the product of the two matrices: ones on the diagonal, zeros elsewhere
pub cell_00 : (b : ℕ) → b < 256 → pair 14 2 11 1 13 1 9 3 b ≡ b
unfolding product remainder times
cell_00 = on_bytes (pair 14 2 11 1 13 1 9 3) (λ b. b) refl

pub cell_01 : (b : ℕ) → b < 256 → pair 14 3 11 2 13 1 9 1 b ≡ 0
unfolding product remainder times
cell_01 = on_bytes (pair 14 3 11 2 13 1 9 1) (λ b. 0) refl

pub cell_02 : (b : ℕ) → b < 256 → pair 14 1 11 3 13 2 9 1 b ≡ 0
unfolding product remainder times
cell_02 = on_bytes (pair 14 1 11 3 13 2 9 1) (λ b. 0) refl

pub cell_03 : (b : ℕ) → b < 256 → pair 14 1 11 1 13 3 9 2 b ≡ 0
unfolding product remainder times
cell_03 = on_bytes (pair 14 1 11 1 13 3 9 2) (λ b. 0) refl

pub cell_10 : (b : ℕ) → b < 256 → pair 9 2 14 1 11 1 13 3 b ≡ 0
unfolding product remainder times
cell_10 = on_bytes (pair 9 2 14 1 11 1 13 3) (λ b. 0) refl

pub cell_11 : (b : ℕ) → b < 256 → pair 9 3 14 2 11 1 13 1 b ≡ b
unfolding product remainder times
cell_11 = on_bytes (pair 9 3 14 2 11 1 13 1) (λ b. b) refl

pub cell_12 : (b : ℕ) → b < 256 → pair 9 1 14 3 11 2 13 1 b ≡ 0
unfolding product remainder times
cell_12 = on_bytes (pair 9 1 14 3 11 2 13 1) (λ b. 0) refl

pub cell_13 : (b : ℕ) → b < 256 → pair 9 1 14 1 11 3 13 2 b ≡ 0
unfolding product remainder times
cell_13 = on_bytes (pair 9 1 14 1 11 3 13 2) (λ b. 0) refl

pub cell_20 : (b : ℕ) → b < 256 → pair 13 2 9 1 14 1 11 3 b ≡ 0
unfolding product remainder times
cell_20 = on_bytes (pair 13 2 9 1 14 1 11 3) (λ b. 0) refl

pub cell_21 : (b : ℕ) → b < 256 → pair 13 3 9 2 14 1 11 1 b ≡ 0
unfolding product remainder times
cell_21 = on_bytes (pair 13 3 9 2 14 1 11 1) (λ b. 0) refl

pub cell_22 : (b : ℕ) → b < 256 → pair 13 1 9 3 14 2 11 1 b ≡ b
unfolding product remainder times
cell_22 = on_bytes (pair 13 1 9 3 14 2 11 1) (λ b. b) refl

pub cell_23 : (b : ℕ) → b < 256 → pair 13 1 9 1 14 3 11 2 b ≡ 0
unfolding product remainder times
cell_23 = on_bytes (pair 13 1 9 1 14 3 11 2) (λ b. 0) refl

pub cell_30 : (b : ℕ) → b < 256 → pair 11 2 13 1 9 1 14 3 b ≡ 0
unfolding product remainder times
cell_30 = on_bytes (pair 11 2 13 1 9 1 14 3) (λ b. 0) refl

pub cell_31 : (b : ℕ) → b < 256 → pair 11 3 13 2 9 1 14 1 b ≡ 0
unfolding product remainder times
cell_31 = on_bytes (pair 11 3 13 2 9 1 14 1) (λ b. 0) refl

pub cell_32 : (b : ℕ) → b < 256 → pair 11 1 13 3 9 2 14 1 b ≡ 0
unfolding product remainder times
cell_32 = on_bytes (pair 11 1 13 3 9 2 14 1) (λ b. 0) refl

pub cell_33 : (b : ℕ) → b < 256 → pair 11 1 13 1 9 3 14 2 b ≡ b
unfolding product remainder times
cell_33 = on_bytes (pair 11 1 13 1 9 3 14 2) (λ b. b) refl
