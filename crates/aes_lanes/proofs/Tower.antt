-- Columns in the tower.
use Rattle.std.proofs.Common.{◌≡◌, ℕ, zero, suc, ◌+◌, ◌*◌, ◌/◌, ◌%◌, ◌<◌, List, [], ◌∷◌, refl, sym, ap, ap₂, ◌∙◌, arith, bit_xor, bit_and}
use Rattle.std.proofs.lemmas.Nat.{xor_mod, xor_shr, xor_of_8}
use Rattle.aes_spec.specs.Field.{product, remainder, times, first_from, inverse, affine_bit, byte_of, affine, sub_byte}
use Rattle.aes_spec.proofs.EveryByte.{on_bytes, sub_small, times_1_small, times_2_small, times_3_small}
use Rattle.aes_lanes.specs.Nibbles.{read, first_half, second_half, to_tower, twice_sub, thrice_sub, last_sub}
use Rattle.aes_lanes.specs.declared.tables.TheConstants.{IN_LOW, IN_HIGH}
use Rattle.aes_lanes.specs.Rounds.{gap}
use Rattle.aes_spec.proofs.Linear.{interchange}
use Rattle.aes_lanes.proofs.Places.{sub_is}
use Rattle.aes_lanes.proofs.Sums.{one, plus, same_sum}

-- ---- the way into the tower is linear

nibble : (b : ℕ) → b < 256 → bit_and b 15 ≡ b % 16
nibble = on_bytes (λ b. bit_and b 15) (λ b. b % 16) refl

low_pair : (n : ℕ) → n < 256 → read IN_LOW (bit_xor (n / 16) (n % 16)) ≡ bit_xor (read IN_LOW (n / 16)) (read IN_LOW (n % 16))
unfolding read
low_pair = on_bytes (λ n. read IN_LOW (bit_xor (n / 16) (n % 16))) (λ n. bit_xor (read IN_LOW (n / 16)) (read IN_LOW (n % 16))) refl

high_pair : (n : ℕ) → n < 256 → read IN_HIGH (bit_xor (n / 16) (n % 16)) ≡ bit_xor (read IN_HIGH (n / 16)) (read IN_HIGH (n % 16))
unfolding read
high_pair = on_bytes (λ n. read IN_HIGH (bit_xor (n / 16) (n % 16))) (λ n. bit_xor (read IN_HIGH (n / 16)) (read IN_HIGH (n % 16))) refl

paired : (t : List ℕ) → ((n : ℕ) → n < 256 → read t (bit_xor (n / 16) (n % 16)) ≡ bit_xor (read t (n / 16)) (read t (n % 16)))
    → (x y : ℕ) → x < 16 → y < 16 → read t (bit_xor x y) ≡ bit_xor (read t x) (read t y)
paired t each x y hx hy =
    let n : ℕ = 16 * x + y in
    let p : x ≡ n / 16 = omega arith in
    let q : y ≡ n % 16 = omega arith in
    ap₂ (λ (v w : ℕ). read t (bit_xor v w)) p q ∙ each n (omega arith) ∙ sym (ap₂ (λ (v w : ℕ). bit_xor (read t v) (read t w)) p q)

pub tower_sum : (x y : ℕ) → x < 256 → y < 256 → to_tower (bit_xor x y) ≡ bit_xor (to_tower x) (to_tower y)
unfolding to_tower
tower_sum x y hx hy =
    let h : bit_xor x y < 256 = xor_of_8 x y hx hy in
    ap₂ bit_xor
    (ap (read IN_LOW) (nibble (bit_xor x y) h ∙ xor_mod x y 4) ∙ paired IN_LOW low_pair (x % 16) (y % 16) (omega arith) (omega arith) ∙ sym (ap₂ (λ (v w : ℕ). bit_xor (read IN_LOW v) (read IN_LOW w)) (nibble x hx) (nibble y hy)))
    (ap (read IN_HIGH) (xor_shr x y 4) ∙ paired IN_HIGH high_pair (x / 16) (y / 16) (omega arith) (omega arith))
    ∙ interchange (read IN_LOW (bit_and x 15)) (read IN_LOW (bit_and y 15)) (read IN_HIGH (x / 16)) (read IN_HIGH (y / 16))

-- ---- multiples of the S-box, at each byte

twice_is : (b : ℕ) → b < 256 → to_tower (times 2 (sub_byte b)) ≡ bit_xor (twice_sub (to_tower b)) (bit_xor (to_tower 165) (to_tower 99))
unfolding read first_half second_half to_tower twice_sub product remainder times first_from inverse affine_bit byte_of affine sub_byte
twice_is = on_bytes (λ b. to_tower (times 2 (sub_byte b))) (λ b. bit_xor (twice_sub (to_tower b)) (bit_xor (to_tower 165) (to_tower 99))) refl

thrice_is : (b : ℕ) → b < 256 → to_tower (times 3 (sub_byte b)) ≡ bit_xor (thrice_sub (to_tower b)) (to_tower 165)
unfolding read first_half second_half to_tower thrice_sub product remainder times first_from inverse affine_bit byte_of affine sub_byte
thrice_is = on_bytes (λ b. to_tower (times 3 (sub_byte b))) (λ b. bit_xor (thrice_sub (to_tower b)) (to_tower 165)) refl

once_is : (b : ℕ) → b < 256 → to_tower (times 1 (sub_byte b)) ≡ bit_xor (bit_xor (twice_sub (to_tower b)) (thrice_sub (to_tower b))) (to_tower 99)
unfolding read first_half second_half to_tower twice_sub thrice_sub product remainder times first_from inverse affine_bit byte_of affine sub_byte
once_is = on_bytes (λ b. to_tower (times 1 (sub_byte b))) (λ b. bit_xor (bit_xor (twice_sub (to_tower b)) (thrice_sub (to_tower b))) (to_tower 99)) refl

-- ---- a column

tower_sum_4 : (x y z w k : ℕ) → x < 256 → y < 256 → z < 256 → w < 256 → k < 256
    → to_tower (bit_xor (bit_xor (bit_xor x y) (bit_xor z w)) k) ≡ bit_xor (bit_xor (bit_xor (to_tower x) (to_tower y)) (bit_xor (to_tower z) (to_tower w))) (to_tower k)
tower_sum_4 x y z w k hx hy hz hw hk =
    tower_sum (bit_xor (bit_xor x y) (bit_xor z w)) k (xor_of_8 (bit_xor x y) (bit_xor z w) (xor_of_8 x y hx hy) (xor_of_8 z w hz hw)) hk
    ∙ ap (λ (v : ℕ). bit_xor v (to_tower k)) (tower_sum (bit_xor x y) (bit_xor z w) (xor_of_8 x y hx hy) (xor_of_8 z w hz hw) ∙ ap₂ bit_xor (tower_sum x y hx hy) (tower_sum z w hz hw))

column_sum_0 : (a0 a1 a2 a3 b0 b1 b2 b3 k beta gamma : ℕ)
    → bit_xor (bit_xor (bit_xor (bit_xor b1 a2) (bit_xor b2 a3)) (bit_xor b3 a0)) (bit_xor k gamma)
    ≡ bit_xor (bit_xor (bit_xor (bit_xor a0 (bit_xor beta gamma)) (bit_xor b1 beta)) (bit_xor (bit_xor (bit_xor a2 b2) gamma) (bit_xor (bit_xor a3 b3) gamma))) k
column_sum_0 a0 a1 a2 a3 b0 b1 b2 b3 k beta gamma =
    same_sum (a0 ∷ a1 ∷ a2 ∷ a3 ∷ b0 ∷ b1 ∷ b2 ∷ b3 ∷ k ∷ beta ∷ gamma ∷ [])
    (plus (plus (plus (plus (one 5) (one 2)) (plus (one 6) (one 3))) (plus (one 7) (one 0))) (plus (one 8) (one 10)))
    (plus (plus (plus (plus (one 0) (plus (one 9) (one 10))) (plus (one 5) (one 9))) (plus (plus (plus (one 2) (one 6)) (one 10)) (plus (plus (one 3) (one 7)) (one 10)))) (one 8)) refl

column_sum_1 : (a0 a1 a2 a3 b0 b1 b2 b3 k beta gamma : ℕ)
    → bit_xor (bit_xor (bit_xor (bit_xor b3 a0) (bit_xor b0 a1)) (bit_xor b2 a3)) (bit_xor k gamma)
    ≡ bit_xor (bit_xor (bit_xor (bit_xor (bit_xor a0 b0) gamma) (bit_xor a1 (bit_xor beta gamma))) (bit_xor (bit_xor b2 beta) (bit_xor (bit_xor a3 b3) gamma))) k
column_sum_1 a0 a1 a2 a3 b0 b1 b2 b3 k beta gamma =
    same_sum (a0 ∷ a1 ∷ a2 ∷ a3 ∷ b0 ∷ b1 ∷ b2 ∷ b3 ∷ k ∷ beta ∷ gamma ∷ [])
    (plus (plus (plus (plus (one 7) (one 0)) (plus (one 4) (one 1))) (plus (one 6) (one 3))) (plus (one 8) (one 10)))
    (plus (plus (plus (plus (plus (one 0) (one 4)) (one 10)) (plus (one 1) (plus (one 9) (one 10)))) (plus (plus (one 6) (one 9)) (plus (plus (one 3) (one 7)) (one 10)))) (one 8)) refl

column_sum_2 : (a0 a1 a2 a3 b0 b1 b2 b3 k beta gamma : ℕ)
    → bit_xor (bit_xor (bit_xor (bit_xor b3 a0) (bit_xor b0 a1)) (bit_xor b1 a2)) (bit_xor k gamma)
    ≡ bit_xor (bit_xor (bit_xor (bit_xor (bit_xor a0 b0) gamma) (bit_xor (bit_xor a1 b1) gamma)) (bit_xor (bit_xor a2 (bit_xor beta gamma)) (bit_xor b3 beta))) k
column_sum_2 a0 a1 a2 a3 b0 b1 b2 b3 k beta gamma =
    same_sum (a0 ∷ a1 ∷ a2 ∷ a3 ∷ b0 ∷ b1 ∷ b2 ∷ b3 ∷ k ∷ beta ∷ gamma ∷ [])
    (plus (plus (plus (plus (one 7) (one 0)) (plus (one 4) (one 1))) (plus (one 5) (one 2))) (plus (one 8) (one 10)))
    (plus (plus (plus (plus (plus (one 0) (one 4)) (one 10)) (plus (plus (one 1) (one 5)) (one 10))) (plus (plus (one 2) (plus (one 9) (one 10))) (plus (one 7) (one 9)))) (one 8)) refl

column_sum_3 : (a0 a1 a2 a3 b0 b1 b2 b3 k beta gamma : ℕ)
    → bit_xor (bit_xor (bit_xor (bit_xor b1 a2) (bit_xor b2 a3)) (bit_xor b0 a1)) (bit_xor k gamma)
    ≡ bit_xor (bit_xor (bit_xor (bit_xor b0 beta) (bit_xor (bit_xor a1 b1) gamma)) (bit_xor (bit_xor (bit_xor a2 b2) gamma) (bit_xor a3 (bit_xor beta gamma)))) k
column_sum_3 a0 a1 a2 a3 b0 b1 b2 b3 k beta gamma =
    same_sum (a0 ∷ a1 ∷ a2 ∷ a3 ∷ b0 ∷ b1 ∷ b2 ∷ b3 ∷ k ∷ beta ∷ gamma ∷ [])
    (plus (plus (plus (plus (one 5) (one 2)) (plus (one 6) (one 3))) (plus (one 4) (one 1))) (plus (one 8) (one 10)))
    (plus (plus (plus (plus (one 4) (one 9)) (plus (plus (one 1) (one 5)) (one 10))) (plus (plus (plus (one 2) (one 6)) (one 10)) (plus (one 3) (plus (one 9) (one 10))))) (one 8)) refl

pub mixed_0 : (s0 s1 s2 s3 k : ℕ) → s0 < 256 → s1 < 256 → s2 < 256 → s3 < 256 → k < 256
    → bit_xor (bit_xor (bit_xor (gap (to_tower s1) (to_tower s2)) (gap (to_tower s2) (to_tower s3))) (gap (to_tower s3) (to_tower s0))) (to_tower (bit_xor k 99))
    ≡ to_tower (bit_xor (bit_xor (bit_xor (times 2 (sub_byte s0)) (times 3 (sub_byte s1))) (bit_xor (times 1 (sub_byte s2)) (times 1 (sub_byte s3)))) k)
unfolding gap
mixed_0 s0 s1 s2 s3 k h0 h1 h2 h3 hk =
    ap (bit_xor (bit_xor (bit_xor (gap (to_tower s1) (to_tower s2)) (gap (to_tower s2) (to_tower s3))) (gap (to_tower s3) (to_tower s0)))) (tower_sum k 99 hk (omega arith))
    ∙ column_sum_0 (twice_sub (to_tower s0)) (twice_sub (to_tower s1)) (twice_sub (to_tower s2)) (twice_sub (to_tower s3)) (thrice_sub (to_tower s0)) (thrice_sub (to_tower s1)) (thrice_sub (to_tower s2)) (thrice_sub (to_tower s3)) (to_tower k) (to_tower 165) (to_tower 99)
    ∙ sym (tower_sum_4 (times 2 (sub_byte s0)) (times 3 (sub_byte s1)) (times 1 (sub_byte s2)) (times 1 (sub_byte s3)) k (times_2_small (sub_byte s0) (sub_small s0 h0)) (times_3_small (sub_byte s1) (sub_small s1 h1)) (times_1_small (sub_byte s2) (sub_small s2 h2)) (times_1_small (sub_byte s3) (sub_small s3 h3)) hk
    ∙ (λ i. bit_xor (bit_xor (bit_xor (twice_is s0 h0 i) (thrice_is s1 h1 i)) (bit_xor (once_is s2 h2 i) (once_is s3 h3 i))) (to_tower k)))

pub mixed_1 : (s0 s1 s2 s3 k : ℕ) → s0 < 256 → s1 < 256 → s2 < 256 → s3 < 256 → k < 256
    → bit_xor (bit_xor (bit_xor (gap (to_tower s3) (to_tower s0)) (gap (to_tower s0) (to_tower s1))) (gap (to_tower s2) (to_tower s3))) (to_tower (bit_xor k 99))
    ≡ to_tower (bit_xor (bit_xor (bit_xor (times 1 (sub_byte s0)) (times 2 (sub_byte s1))) (bit_xor (times 3 (sub_byte s2)) (times 1 (sub_byte s3)))) k)
unfolding gap
mixed_1 s0 s1 s2 s3 k h0 h1 h2 h3 hk =
    ap (bit_xor (bit_xor (bit_xor (gap (to_tower s3) (to_tower s0)) (gap (to_tower s0) (to_tower s1))) (gap (to_tower s2) (to_tower s3)))) (tower_sum k 99 hk (omega arith))
    ∙ column_sum_1 (twice_sub (to_tower s0)) (twice_sub (to_tower s1)) (twice_sub (to_tower s2)) (twice_sub (to_tower s3)) (thrice_sub (to_tower s0)) (thrice_sub (to_tower s1)) (thrice_sub (to_tower s2)) (thrice_sub (to_tower s3)) (to_tower k) (to_tower 165) (to_tower 99)
    ∙ sym (tower_sum_4 (times 1 (sub_byte s0)) (times 2 (sub_byte s1)) (times 3 (sub_byte s2)) (times 1 (sub_byte s3)) k (times_1_small (sub_byte s0) (sub_small s0 h0)) (times_2_small (sub_byte s1) (sub_small s1 h1)) (times_3_small (sub_byte s2) (sub_small s2 h2)) (times_1_small (sub_byte s3) (sub_small s3 h3)) hk
    ∙ (λ i. bit_xor (bit_xor (bit_xor (once_is s0 h0 i) (twice_is s1 h1 i)) (bit_xor (thrice_is s2 h2 i) (once_is s3 h3 i))) (to_tower k)))

pub mixed_2 : (s0 s1 s2 s3 k : ℕ) → s0 < 256 → s1 < 256 → s2 < 256 → s3 < 256 → k < 256
    → bit_xor (bit_xor (bit_xor (gap (to_tower s3) (to_tower s0)) (gap (to_tower s0) (to_tower s1))) (gap (to_tower s1) (to_tower s2))) (to_tower (bit_xor k 99))
    ≡ to_tower (bit_xor (bit_xor (bit_xor (times 1 (sub_byte s0)) (times 1 (sub_byte s1))) (bit_xor (times 2 (sub_byte s2)) (times 3 (sub_byte s3)))) k)
unfolding gap
mixed_2 s0 s1 s2 s3 k h0 h1 h2 h3 hk =
    ap (bit_xor (bit_xor (bit_xor (gap (to_tower s3) (to_tower s0)) (gap (to_tower s0) (to_tower s1))) (gap (to_tower s1) (to_tower s2)))) (tower_sum k 99 hk (omega arith))
    ∙ column_sum_2 (twice_sub (to_tower s0)) (twice_sub (to_tower s1)) (twice_sub (to_tower s2)) (twice_sub (to_tower s3)) (thrice_sub (to_tower s0)) (thrice_sub (to_tower s1)) (thrice_sub (to_tower s2)) (thrice_sub (to_tower s3)) (to_tower k) (to_tower 165) (to_tower 99)
    ∙ sym (tower_sum_4 (times 1 (sub_byte s0)) (times 1 (sub_byte s1)) (times 2 (sub_byte s2)) (times 3 (sub_byte s3)) k (times_1_small (sub_byte s0) (sub_small s0 h0)) (times_1_small (sub_byte s1) (sub_small s1 h1)) (times_2_small (sub_byte s2) (sub_small s2 h2)) (times_3_small (sub_byte s3) (sub_small s3 h3)) hk
    ∙ (λ i. bit_xor (bit_xor (bit_xor (once_is s0 h0 i) (once_is s1 h1 i)) (bit_xor (twice_is s2 h2 i) (thrice_is s3 h3 i))) (to_tower k)))

pub mixed_3 : (s0 s1 s2 s3 k : ℕ) → s0 < 256 → s1 < 256 → s2 < 256 → s3 < 256 → k < 256
    → bit_xor (bit_xor (bit_xor (gap (to_tower s1) (to_tower s2)) (gap (to_tower s2) (to_tower s3))) (gap (to_tower s0) (to_tower s1))) (to_tower (bit_xor k 99))
    ≡ to_tower (bit_xor (bit_xor (bit_xor (times 3 (sub_byte s0)) (times 1 (sub_byte s1))) (bit_xor (times 1 (sub_byte s2)) (times 2 (sub_byte s3)))) k)
unfolding gap
mixed_3 s0 s1 s2 s3 k h0 h1 h2 h3 hk =
    ap (bit_xor (bit_xor (bit_xor (gap (to_tower s1) (to_tower s2)) (gap (to_tower s2) (to_tower s3))) (gap (to_tower s0) (to_tower s1)))) (tower_sum k 99 hk (omega arith))
    ∙ column_sum_3 (twice_sub (to_tower s0)) (twice_sub (to_tower s1)) (twice_sub (to_tower s2)) (twice_sub (to_tower s3)) (thrice_sub (to_tower s0)) (thrice_sub (to_tower s1)) (thrice_sub (to_tower s2)) (thrice_sub (to_tower s3)) (to_tower k) (to_tower 165) (to_tower 99)
    ∙ sym (tower_sum_4 (times 3 (sub_byte s0)) (times 1 (sub_byte s1)) (times 1 (sub_byte s2)) (times 2 (sub_byte s3)) k (times_3_small (sub_byte s0) (sub_small s0 h0)) (times_1_small (sub_byte s1) (sub_small s1 h1)) (times_1_small (sub_byte s2) (sub_small s2 h2)) (times_2_small (sub_byte s3) (sub_small s3 h3)) hk
    ∙ (λ i. bit_xor (bit_xor (bit_xor (thrice_is s0 h0 i) (once_is s1 h1 i)) (bit_xor (once_is s2 h2 i) (twice_is s3 h3 i))) (to_tower k)))

pub last_byte : (b k : ℕ) → b < 256 → bit_xor (last_sub (to_tower b)) (bit_xor k 99) ≡ bit_xor (sub_byte b) k
last_byte b k h =
    same_sum (last_sub (to_tower b) ∷ k ∷ 99 ∷ []) (plus (one 0) (plus (one 1) (one 2))) (plus (plus (one 0) (one 2)) (one 1)) refl
    ∙ ap (λ (x : ℕ). bit_xor x k) (sub_is b h)

-- ---- each place below 16

pub below_16 : (P : ℕ → Type 0) → P 0 → P 1 → P 2 → P 3 → P 4 → P 5 → P 6 → P 7 → P 8 → P 9 → P 10 → P 11 → P 12 → P 13 → P 14 → P 15 → (r : ℕ) → r < 16 → P r
below_16 P p0 p1 p2 p3 p4 p5 p6 p7 p8 p9 p10 p11 p12 p13 p14 p15 zero h = p0
below_16 P p0 p1 p2 p3 p4 p5 p6 p7 p8 p9 p10 p11 p12 p13 p14 p15 (suc zero) h = p1
below_16 P p0 p1 p2 p3 p4 p5 p6 p7 p8 p9 p10 p11 p12 p13 p14 p15 (suc (suc zero)) h = p2
below_16 P p0 p1 p2 p3 p4 p5 p6 p7 p8 p9 p10 p11 p12 p13 p14 p15 (suc (suc (suc zero))) h = p3
below_16 P p0 p1 p2 p3 p4 p5 p6 p7 p8 p9 p10 p11 p12 p13 p14 p15 (suc (suc (suc (suc zero)))) h = p4
below_16 P p0 p1 p2 p3 p4 p5 p6 p7 p8 p9 p10 p11 p12 p13 p14 p15 (suc (suc (suc (suc (suc zero))))) h = p5
below_16 P p0 p1 p2 p3 p4 p5 p6 p7 p8 p9 p10 p11 p12 p13 p14 p15 (suc (suc (suc (suc (suc (suc zero)))))) h = p6
below_16 P p0 p1 p2 p3 p4 p5 p6 p7 p8 p9 p10 p11 p12 p13 p14 p15 (suc (suc (suc (suc (suc (suc (suc zero))))))) h = p7
below_16 P p0 p1 p2 p3 p4 p5 p6 p7 p8 p9 p10 p11 p12 p13 p14 p15 (suc (suc (suc (suc (suc (suc (suc (suc zero)))))))) h = p8
below_16 P p0 p1 p2 p3 p4 p5 p6 p7 p8 p9 p10 p11 p12 p13 p14 p15 (suc (suc (suc (suc (suc (suc (suc (suc (suc zero))))))))) h = p9
below_16 P p0 p1 p2 p3 p4 p5 p6 p7 p8 p9 p10 p11 p12 p13 p14 p15 (suc (suc (suc (suc (suc (suc (suc (suc (suc (suc zero)))))))))) h = p10
below_16 P p0 p1 p2 p3 p4 p5 p6 p7 p8 p9 p10 p11 p12 p13 p14 p15 (suc (suc (suc (suc (suc (suc (suc (suc (suc (suc (suc zero))))))))))) h = p11
below_16 P p0 p1 p2 p3 p4 p5 p6 p7 p8 p9 p10 p11 p12 p13 p14 p15 (suc (suc (suc (suc (suc (suc (suc (suc (suc (suc (suc (suc zero)))))))))))) h = p12
below_16 P p0 p1 p2 p3 p4 p5 p6 p7 p8 p9 p10 p11 p12 p13 p14 p15 (suc (suc (suc (suc (suc (suc (suc (suc (suc (suc (suc (suc (suc zero))))))))))))) h = p13
below_16 P p0 p1 p2 p3 p4 p5 p6 p7 p8 p9 p10 p11 p12 p13 p14 p15 (suc (suc (suc (suc (suc (suc (suc (suc (suc (suc (suc (suc (suc (suc zero)))))))))))))) h = p14
below_16 P p0 p1 p2 p3 p4 p5 p6 p7 p8 p9 p10 p11 p12 p13 p14 p15 (suc (suc (suc (suc (suc (suc (suc (suc (suc (suc (suc (suc (suc (suc (suc zero))))))))))))))) h = p15
below_16 P p0 p1 p2 p3 p4 p5 p6 p7 p8 p9 p10 p11 p12 p13 p14 p15 (suc (suc (suc (suc (suc (suc (suc (suc (suc (suc (suc (suc (suc (suc (suc (suc r)))))))))))))))) h = absurd (omega arith)
