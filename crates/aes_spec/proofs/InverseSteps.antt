use Rattle.std.proofs.Common.{◌≡◌, ℕ, ◌<◌, List, [], ◌∷◌, ap, ap₂, ◌∙◌, bit_xor, slice_index}
use Rattle.std.proofs.lemmas.Simd.{pick_l_whole}
use Rattle.aes_spec.specs.Field.{times}
use Rattle.aes_spec.specs.Aes.{at, state_by, sub_bytes, inv_sub_bytes, shift_rows, inv_shift_rows, mix_columns, inv_mix_columns, add_round_key, IsState}
use Rattle.aes_spec.proofs.EveryByte.{unsub, pair, cell_00, cell_01, cell_02, cell_03, cell_10, cell_11, cell_12, cell_13, cell_20, cell_21, cell_22, cell_23, cell_30, cell_31, cell_32, cell_33}
use Rattle.std.specs.Int.Bits.{xor_zero_r, xor_assoc, xor_self}
use Rattle.aes_spec.proofs.Linear.{interchange, times_sum}

pub as_state_by : (s : List ℕ) → IsState s → state_by (at s) ≡ s
as_state_by s h = pick_l_whole 0 s 16 h.long

pub unshift : (s : List ℕ) → IsState s → inv_shift_rows (shift_rows s) ≡ s
unshift s h = as_state_by s h

pub unsubbed : (s : List ℕ) → IsState s → inv_sub_bytes (sub_bytes s) ≡ s
unsubbed s h =
    let e = λ (n : ℕ). unsub (slice_index s n) (h.small n) in
    (λ i. e 0 i ∷ e 1 i ∷ e 2 i ∷ e 3 i ∷ e 4 i ∷ e 5 i ∷ e 6 i ∷ e 7 i ∷ e 8 i ∷ e 9 i ∷ e 10 i ∷ e 11 i ∷ e 12 i ∷ e 13 i ∷ e 14 i ∷ e 15 i ∷ [])
    ∙ as_state_by s h

abbrev pub four : ℕ → ℕ → ℕ → ℕ → ℕ
four a b c d = bit_xor (bit_xor a b) (bit_xor c d)

times_four : (k a b c d : ℕ) → times k (four a b c d) ≡ four (times k a) (times k b) (times k c) (times k d)
times_four k a b c d = times_sum k (bit_xor a b) (bit_xor c d) ∙ ap₂ bit_xor (times_sum k a b) (times_sum k c d)

-- the sum of a 4 by 4 square by rows, and by columns
turned : (a0 a1 a2 a3 b0 b1 b2 b3 c0 c1 c2 c3 d0 d1 d2 d3 : ℕ)
    → four (four a0 a1 a2 a3) (four b0 b1 b2 b3) (four c0 c1 c2 c3) (four d0 d1 d2 d3)
    ≡ four (four a0 b0 c0 d0) (four a1 b1 c1 d1) (four a2 b2 c2 d2) (four a3 b3 c3 d3)
turned a0 a1 a2 a3 b0 b1 b2 b3 c0 c1 c2 c3 d0 d1 d2 d3 =
    let two = λ (p q r s t u v w : ℕ). interchange (bit_xor p q) (bit_xor r s) (bit_xor t u) (bit_xor v w) ∙ ap₂ bit_xor (interchange p q t u) (interchange r s v w) in
    ap₂ bit_xor (two a0 a1 a2 a3 b0 b1 b2 b3) (two c0 c1 c2 c3 d0 d1 d2 d3)
    ∙ interchange (bit_xor (bit_xor a0 b0) (bit_xor a1 b1)) (bit_xor (bit_xor a2 b2) (bit_xor a3 b3)) (bit_xor (bit_xor c0 d0) (bit_xor c1 d1)) (bit_xor (bit_xor c2 d2) (bit_xor c3 d3))
    ∙ ap₂ bit_xor (interchange (bit_xor a0 b0) (bit_xor a1 b1) (bit_xor c0 d0) (bit_xor c1 d1)) (interchange (bit_xor a2 b2) (bit_xor a3 b3) (bit_xor c2 d2) (bit_xor c3 d3))

-- one row of the inverse matrix times the four rows of the matrix
pub row : (d0 d1 d2 d3 m00 m01 m02 m03 m10 m11 m12 m13 m20 m21 m22 m23 m30 m31 m32 m33 a b c d : ℕ)
    → four (times d0 (four (times m00 a) (times m01 b) (times m02 c) (times m03 d))) (times d1 (four (times m10 a) (times m11 b) (times m12 c) (times m13 d)))
    (times d2 (four (times m20 a) (times m21 b) (times m22 c) (times m23 d))) (times d3 (four (times m30 a) (times m31 b) (times m32 c) (times m33 d)))
    ≡ four (pair d0 m00 d1 m10 d2 m20 d3 m30 a) (pair d0 m01 d1 m11 d2 m21 d3 m31 b) (pair d0 m02 d1 m12 d2 m22 d3 m32 c) (pair d0 m03 d1 m13 d2 m23 d3 m33 d)
row d0 d1 d2 d3 m00 m01 m02 m03 m10 m11 m12 m13 m20 m21 m22 m23 m30 m31 m32 m33 a b c d =
    (λ i. four (times_four d0 (times m00 a) (times m01 b) (times m02 c) (times m03 d) i) (times_four d1 (times m10 a) (times m11 b) (times m12 c) (times m13 d) i)
    (times_four d2 (times m20 a) (times m21 b) (times m22 c) (times m23 d) i) (times_four d3 (times m30 a) (times m31 b) (times m32 c) (times m33 d) i))
    ∙ turned (times d0 (times m00 a)) (times d0 (times m01 b)) (times d0 (times m02 c)) (times d0 (times m03 d)) (times d1 (times m10 a)) (times d1 (times m11 b)) (times d1 (times m12 c)) (times d1 (times m13 d)) (times d2 (times m20 a)) (times d2 (times m21 b)) (times d2 (times m22 c)) (times d2 (times m23 d)) (times d3 (times m30 a)) (times d3 (times m31 b)) (times d3 (times m32 c)) (times d3 (times m33 d))

unmixed_0 : (a b c d : ℕ) → a < 256 → b < 256 → c < 256 → d < 256
    → four (times 14 (four (times 2 a) (times 3 b) (times 1 c) (times 1 d))) (times 11 (four (times 1 a) (times 2 b) (times 3 c) (times 1 d))) (times 13 (four (times 1 a) (times 1 b) (times 2 c) (times 3 d))) (times 9 (four (times 3 a) (times 1 b) (times 1 c) (times 2 d))) ≡ a
unmixed_0 a b c d ha hb hc hd =
    row 14 11 13 9 2 3 1 1 1 2 3 1 1 1 2 3 3 1 1 2 a b c d
    ∙ (λ i. four (cell_00 a ha i) (cell_01 b hb i) (cell_02 c hc i) (cell_03 d hd i))
    ∙ simp xor_zero_r

unmixed_1 : (a b c d : ℕ) → a < 256 → b < 256 → c < 256 → d < 256
    → four (times 9 (four (times 2 a) (times 3 b) (times 1 c) (times 1 d))) (times 14 (four (times 1 a) (times 2 b) (times 3 c) (times 1 d))) (times 11 (four (times 1 a) (times 1 b) (times 2 c) (times 3 d))) (times 13 (four (times 3 a) (times 1 b) (times 1 c) (times 2 d))) ≡ b
unmixed_1 a b c d ha hb hc hd =
    row 9 14 11 13 2 3 1 1 1 2 3 1 1 1 2 3 3 1 1 2 a b c d
    ∙ (λ i. four (cell_10 a ha i) (cell_11 b hb i) (cell_12 c hc i) (cell_13 d hd i))
    ∙ simp xor_zero_r

unmixed_2 : (a b c d : ℕ) → a < 256 → b < 256 → c < 256 → d < 256
    → four (times 13 (four (times 2 a) (times 3 b) (times 1 c) (times 1 d))) (times 9 (four (times 1 a) (times 2 b) (times 3 c) (times 1 d))) (times 14 (four (times 1 a) (times 1 b) (times 2 c) (times 3 d))) (times 11 (four (times 3 a) (times 1 b) (times 1 c) (times 2 d))) ≡ c
unmixed_2 a b c d ha hb hc hd =
    row 13 9 14 11 2 3 1 1 1 2 3 1 1 1 2 3 3 1 1 2 a b c d
    ∙ (λ i. four (cell_20 a ha i) (cell_21 b hb i) (cell_22 c hc i) (cell_23 d hd i))
    ∙ simp xor_zero_r

unmixed_3 : (a b c d : ℕ) → a < 256 → b < 256 → c < 256 → d < 256
    → four (times 11 (four (times 2 a) (times 3 b) (times 1 c) (times 1 d))) (times 13 (four (times 1 a) (times 2 b) (times 3 c) (times 1 d))) (times 9 (four (times 1 a) (times 1 b) (times 2 c) (times 3 d))) (times 14 (four (times 3 a) (times 1 b) (times 1 c) (times 2 d))) ≡ d
unmixed_3 a b c d ha hb hc hd =
    row 11 13 9 14 2 3 1 1 1 2 3 1 1 1 2 3 3 1 1 2 a b c d
    ∙ (λ i. four (cell_30 a ha i) (cell_31 b hb i) (cell_32 c hc i) (cell_33 d hd i))

pub unmixed : (s : List ℕ) → IsState s → inv_mix_columns (mix_columns s) ≡ s
unmixed s h =
    let x = λ (n : ℕ). slice_index s n in
    let l = h.small in
    let e0 = unmixed_0 (x 0) (x 1) (x 2) (x 3) (l 0) (l 1) (l 2) (l 3) in
    let e1 = unmixed_1 (x 0) (x 1) (x 2) (x 3) (l 0) (l 1) (l 2) (l 3) in
    let e2 = unmixed_2 (x 0) (x 1) (x 2) (x 3) (l 0) (l 1) (l 2) (l 3) in
    let e3 = unmixed_3 (x 0) (x 1) (x 2) (x 3) (l 0) (l 1) (l 2) (l 3) in
    let e4 = unmixed_0 (x 4) (x 5) (x 6) (x 7) (l 4) (l 5) (l 6) (l 7) in
    let e5 = unmixed_1 (x 4) (x 5) (x 6) (x 7) (l 4) (l 5) (l 6) (l 7) in
    let e6 = unmixed_2 (x 4) (x 5) (x 6) (x 7) (l 4) (l 5) (l 6) (l 7) in
    let e7 = unmixed_3 (x 4) (x 5) (x 6) (x 7) (l 4) (l 5) (l 6) (l 7) in
    let e8 = unmixed_0 (x 8) (x 9) (x 10) (x 11) (l 8) (l 9) (l 10) (l 11) in
    let e9 = unmixed_1 (x 8) (x 9) (x 10) (x 11) (l 8) (l 9) (l 10) (l 11) in
    let e10 = unmixed_2 (x 8) (x 9) (x 10) (x 11) (l 8) (l 9) (l 10) (l 11) in
    let e11 = unmixed_3 (x 8) (x 9) (x 10) (x 11) (l 8) (l 9) (l 10) (l 11) in
    let e12 = unmixed_0 (x 12) (x 13) (x 14) (x 15) (l 12) (l 13) (l 14) (l 15) in
    let e13 = unmixed_1 (x 12) (x 13) (x 14) (x 15) (l 12) (l 13) (l 14) (l 15) in
    let e14 = unmixed_2 (x 12) (x 13) (x 14) (x 15) (l 12) (l 13) (l 14) (l 15) in
    let e15 = unmixed_3 (x 12) (x 13) (x 14) (x 15) (l 12) (l 13) (l 14) (l 15) in
    (λ i. e0 i ∷ e1 i ∷ e2 i ∷ e3 i ∷ e4 i ∷ e5 i ∷ e6 i ∷ e7 i ∷ e8 i ∷ e9 i ∷ e10 i ∷ e11 i ∷ e12 i ∷ e13 i ∷ e14 i ∷ e15 i ∷ [])
    ∙ as_state_by s h

pub unadded : (k s : List ℕ) → IsState s → add_round_key k (add_round_key k s) ≡ s
unadded k s h =
    let e : (n : ℕ) → bit_xor (bit_xor (slice_index s n) (slice_index k n)) (slice_index k n) ≡ slice_index s n =
    λ n. xor_assoc (slice_index s n) (slice_index k n) (slice_index k n) ∙ ap (bit_xor (slice_index s n)) (xor_self (slice_index k n)) ∙ xor_zero_r (slice_index s n) in
    (λ i. e 0 i ∷ e 1 i ∷ e 2 i ∷ e 3 i ∷ e 4 i ∷ e 5 i ∷ e 6 i ∷ e 7 i ∷ e 8 i ∷ e 9 i ∷ e 10 i ∷ e 11 i ∷ e 12 i ∷ e 13 i ∷ e 14 i ∷ e 15 i ∷ []) ∙ as_state_by s h
