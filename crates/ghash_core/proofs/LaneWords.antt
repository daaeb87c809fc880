-- Four lanes at a time.
use Rattle.ghash_core.specs.Number.{when, shift_by, shift_by_x, digits_product, digits, number_product}
use Rattle.ghash_core.specs.Lane.{lane}
use Rattle.ghash_core.proofs.ByteSums.{shift_by_x-shift_by, shift_by-add, shift_by-zero}
use Rattle.ghash_core.proofs.Groups.{fold_of, shift_by_parts, shift_by-small, xor-multiples, shift_by-xor, product_group, digits-mod}
use Rattle.std.proofs.Common.{◌≡◌, ℕ, zero, suc, ◌+◌, ◌-◌, ◌*◌, ◌/◌, ◌%◌, ◌^◌, ◌<◌, List, [], ◌∷◌, length, slice_index, bit_and, bit_or, bit_xor, refl, sym, ap, ◌∙◌, arith, lit<, Fits, w64, add-one, subst, inl, inr}
use Rattle.std.specs.Simd.Lanes.{zip2, Each1}
use Rattle.std.specs.Int.Bits.{and_zero_r, xor_comm, xor_assoc, xor_block, or_comm, or_shifted, xor_zero_r}
use Rattle.std.proofs.lemmas.Nat.{and_mask, shr-shr, shr_high, mod_low}
use Rattle.std.proofs.Math.Nat.{mod-eq_of_lt}
use Rattle.std.proofs.lemmas.Bool.{cases_lt}
use Rattle.std.proofs.lemmas.List.{get_or_past}

pub below_four : (P : ℕ → Type 0) → P 0 → P 1 → P 2 → P 3 → (j : ℕ) → j < 4 → P j
below_four P p0 p1 p2 p3 zero h = p0
below_four P p0 p1 p2 p3 (suc zero) h = p1
below_four P p0 p1 p2 p3 (suc (suc zero)) h = p2
below_four P p0 p1 p2 p3 (suc (suc (suc zero))) h = p3
below_four P p0 p1 p2 p3 (suc (suc (suc (suc n)))) h = absurd (omega arith)

-- what holds of each list of four words
pub four_words : (P : List ℕ → Type 0) → ((a b c d : ℕ) → a < 2 ^ 64 → b < 2 ^ 64 → c < 2 ^ 64 → d < 2 ^ 64 → P (a ∷ b ∷ c ∷ d ∷ [])) → (xs : List ℕ) → length xs ≡ 4 → Each1 (Fits w64) xs → P xs
four_words P p (a ∷ b ∷ c ∷ d ∷ []) h f = p a b c d f.0.fits f.1.0.fits f.1.1.0.fits f.1.1.1.0.fits
four_words P p [] h f = absurd (omega arith)
four_words P p (a ∷ []) h f = absurd (omega arith)
four_words P p (a ∷ b ∷ []) h f = absurd (omega arith)
four_words P p (a ∷ b ∷ c ∷ []) h f = absurd (omega arith)
four_words P p (a ∷ b ∷ c ∷ d ∷ e ∷ xs) h f = absurd (omega arith)

-- ---- one lane
-- what falls out of the low word comes back at the top of the high word
fold_high : (m : ℕ) → fold_of (m * 128 * 2 ^ 64) ≡ fold_of (m * 128) * 2 ^ 64
unfolding fold_of
fold_high m =
    let a1 : m * 128 * 2 ^ 64 / 2 ≡ m * 64 * 2 ^ 64 = omega arith in
    let a2 : m * 128 * 2 ^ 64 / 4 ≡ m * 32 * 2 ^ 64 = omega arith in
    let a7 : m * 128 * 2 ^ 64 / 128 ≡ m * 2 ^ 64 = omega arith in
    let b1 : m * 64 ≡ m * 128 / 2 = omega arith in
    let b2 : m * 32 ≡ m * 128 / 4 = omega arith in
    let b7 : m ≡ m * 128 / 128 = omega arith in
    let x = m * 128 * 2 ^ 64 in
    ap (λ (y : ℕ). bit_xor (bit_xor (bit_xor x y) (x / 4)) (x / 128)) a1
    ∙ ap (λ (y : ℕ). bit_xor (bit_xor (bit_xor x (m * 64 * 2 ^ 64)) y) (x / 128)) a2
    ∙ ap (bit_xor (bit_xor (bit_xor x (m * 64 * 2 ^ 64)) (m * 32 * 2 ^ 64))) a7
    ∙ ap (λ (y : ℕ). bit_xor (bit_xor y (m * 32 * 2 ^ 64)) (m * 2 ^ 64)) (xor-multiples 64 (m * 128) (m * 64))
    ∙ ap (λ (y : ℕ). bit_xor y (m * 2 ^ 64)) (xor-multiples 64 (bit_xor (m * 128) (m * 64)) (m * 32))
    ∙ xor-multiples 64 (bit_xor (bit_xor (m * 128) (m * 64)) (m * 32)) m
    ∙ ap (λ (y : ℕ). bit_xor (bit_xor (bit_xor (m * 128) y) (m * 32)) m * 2 ^ 64) b1
    ∙ ap (λ (y : ℕ). bit_xor (bit_xor (bit_xor (m * 128) (m * 128 / 2)) y) m * 2 ^ 64) b2
    ∙ ap (λ (y : ℕ). bit_xor (bit_xor (bit_xor (m * 128) (m * 128 / 2)) (m * 128 / 4)) y * 2 ^ 64) b7

abbrev hi_of : ℕ → ℕ → ℕ
hi_of hi lo = bit_xor (bit_xor (bit_xor (bit_xor (hi / 2 ^ 16) (lo * 2 ^ 48 % 2 ^ 64)) (lo * 2 ^ 48 % 2 ^ 64 / 2)) (lo * 2 ^ 48 % 2 ^ 64 / 4)) (lo * 2 ^ 48 % 2 ^ 64 / 128)

abbrev lo_of : ℕ → ℕ → ℕ
lo_of hi lo = bit_or (lo / 2 ^ 16) (hi * 2 ^ 48 % 2 ^ 64)

pub word_shift : (hi lo : ℕ) → hi < 2 ^ 64 → lo < 2 ^ 64 → hi_of hi lo * 2 ^ 64 + lo_of hi lo ≡ shift_by 16 (hi * 2 ^ 64 + lo)
unfolding fold_of
word_shift hi lo h l =
    let n = hi * 2 ^ 64 + lo in
    let m = lo % 2 ^ 16 * 2 ^ 41 in
    let a = hi / 2 ^ 16 in
    let b = hi % 2 ^ 16 * 2 ^ 48 + lo / 2 ^ 16 in
    let low : lo * 2 ^ 48 % 2 ^ 64 ≡ m * 128 = omega arith in
    let turned : bit_or (lo / 2 ^ 16) (hi * 2 ^ 48 % 2 ^ 64) ≡ b =
    or_comm (lo / 2 ^ 16) (hi * 2 ^ 48 % 2 ^ 64)
    ∙ ap (λ (x : ℕ). bit_or x (lo / 2 ^ 16)) (let e : hi * 2 ^ 48 % 2 ^ 64 ≡ hi % 2 ^ 16 * 2 ^ 48 = omega arith in e)
    ∙ or_shifted (hi % 2 ^ 16) 48 (lo / 2 ^ 16) (omega arith) in
    let stays : n / 2 ^ 16 ≡ a * 2 ^ 64 + b = omega arith in
    let falls : n % 2 ^ 16 * 2 ^ 112 ≡ m * 128 * 2 ^ 64 = omega arith in
    let f = fold_of (m * 128) in
    let whole : f * 2 ^ 64 ≡ f * 2 ^ 64 + 0 = omega arith in
    let plain : b ≡ bit_xor b 0 = sym (xor_zero_r b) in
    sym (shift_by_parts 16 n
    ∙ ap (bit_xor (n / 2 ^ 16)) (shift_by-small 16 112 105 (n % 2 ^ 16) refl refl (omega arith) ∙ ap fold_of falls ∙ fold_high m ∙ whole)
    ∙ ap (λ (x : ℕ). bit_xor x (f * 2 ^ 64 + 0)) stays
    ∙ xor_block 64 a f b 0 (omega arith) (lit< tt)
    ∙ ap (λ (x : ℕ). bit_xor a f * 2 ^ 64 + x) (sym plain ∙ sym turned)
    ∙ ap (λ (x : ℕ). x * 2 ^ 64 + lo_of hi lo)
    (sym (ap (λ (x : ℕ). bit_xor x (m * 128 / 128)) (ap (λ (x : ℕ). bit_xor x (m * 128 / 4)) (xor_assoc a (m * 128) (m * 128 / 2)) ∙ xor_assoc a (bit_xor (m * 128) (m * 128 / 2)) (m * 128 / 4))
    ∙ xor_assoc a (bit_xor (bit_xor (m * 128) (m * 128 / 2)) (m * 128 / 4)) (m * 128 / 128))
    ∙ ap (λ (x : ℕ). bit_xor (bit_xor (bit_xor (bit_xor a x) (x / 2)) (x / 4)) (x / 128)) (sym low)))

low_cases : (z v b : ℕ) → b < 2 → v < 2 ^ 64 → bit_xor z (bit_and v ((0 + (2 ^ 64 - b)) % 2 ^ 64)) ≡ bit_xor z (when b v)
low_cases z v zero h l = ap (bit_xor z) (and_zero_r v)
low_cases z v (suc zero) h l = ap (bit_xor z) (and_mask v 64 ∙ mod-eq_of_lt l)
low_cases z v (suc (suc b)) h l = absurd (omega arith)

pub word_where : (z v w : ℕ) → v < 2 ^ 64 → bit_xor z (bit_and v ((0 + (2 ^ 64 - bit_and w 1)) % 2 ^ 64)) ≡ bit_xor z (when (w % 2) v)
word_where z v w h = ap (λ (b : ℕ). bit_xor z (bit_and v ((0 + (2 ^ 64 - b)) % 2 ^ 64))) (and_mask w 1) ∙ low_cases z v (w % 2) (omega arith) h

-- ---- four lanes
abbrev splat4 : ℕ → List ℕ
splat4 n = n ∷ n ∷ n ∷ n ∷ []

abbrev right : List ℕ → ℕ → List ℕ
right xs n = zip2 (λ (x k : ℕ). x / 2 ^ k) xs (splat4 n)

abbrev left : List ℕ → ℕ → List ℕ
left xs n = zip2 (λ (x k : ℕ). x * 2 ^ k % 2 ^ 64) xs (splat4 n)

abbrev Shifts : List ℕ → List ℕ → Type 0
Shifts hi lo = (j : ℕ) → j < 4 →
    lane j (zip2 bit_xor (zip2 bit_xor (zip2 bit_xor (zip2 bit_xor (right hi 16) (left lo 48)) (right (left lo 48) 1)) (right (left lo 48) 2)) (right (left lo 48) 7))
    (zip2 bit_or (right lo 16) (left hi 48))
    ≡ shift_by 16 (lane j hi lo)

pub lanes_shift : (hi : List ℕ) → length hi ≡ 4 → Each1 (Fits w64) hi → (lo : List ℕ) → length lo ≡ 4 → Each1 (Fits w64) lo → Shifts hi lo
lanes_shift =
    four_words (λ (hi : List ℕ). (lo : List ℕ) → length lo ≡ 4 → Each1 (Fits w64) lo → Shifts hi lo) (λ a0 a1 a2 a3 p0 p1 p2 p3.
    four_words (Shifts (a0 ∷ a1 ∷ a2 ∷ a3 ∷ [])) (λ b0 b1 b2 b3 q0 q1 q2 q3.
    below_four _ (word_shift a0 b0 p0 q0) (word_shift a1 b1 p1 q1) (word_shift a2 b2 p2 q2) (word_shift a3 b3 p3 q3)))

abbrev AddsWhere : List ℕ → List ℕ → List ℕ → Type 0
AddsWhere z v w = (j : ℕ) → j < 4 →
    slice_index (zip2 bit_xor z (zip2 bit_and v (zip2 (λ (a b : ℕ). (a + (2 ^ 64 - b)) % 2 ^ 64) (splat4 0) (zip2 bit_and w (splat4 1))))) j
    ≡ bit_xor (slice_index z j) (when (slice_index w j % 2) (slice_index v j))

pub lanes_where : (z : List ℕ) → length z ≡ 4 → Each1 (Fits w64) z → (v : List ℕ) → length v ≡ 4 → Each1 (Fits w64) v → (w : List ℕ) → length w ≡ 4 → Each1 (Fits w64) w → AddsWhere z v w
lanes_where =
    four_words (λ (z : List ℕ). (v : List ℕ) → length v ≡ 4 → Each1 (Fits w64) v → (w : List ℕ) → length w ≡ 4 → Each1 (Fits w64) w → AddsWhere z v w) (λ z0 z1 z2 z3 a b c d.
    four_words (λ (v : List ℕ). (w : List ℕ) → length w ≡ 4 → Each1 (Fits w64) w → AddsWhere (z0 ∷ z1 ∷ z2 ∷ z3 ∷ []) v w) (λ v0 v1 v2 v3 p0 p1 p2 p3.
    four_words (AddsWhere (z0 ∷ z1 ∷ z2 ∷ z3 ∷ []) (v0 ∷ v1 ∷ v2 ∷ v3 ∷ [])) (λ w0 w1 w2 w3 q0 q1 q2 q3.
    below_four _ (word_where z0 v0 w0 p0) (word_where z1 v1 w1 p1) (word_where z2 v2 w2 p2) (word_where z3 v3 w3 p3))))

abbrev Halves : ℕ → List ℕ → Type 0
Halves n w = (j : ℕ) → j < 4 → slice_index (right w n) j ≡ slice_index w j / 2 ^ n

pub lanes_right : (n : ℕ) (w : List ℕ) → length w ≡ 4 → Each1 (Fits w64) w → Halves n w
lanes_right n = four_words (Halves n) (λ a b c d p q r s. below_four _ refl refl refl refl)

-- the sum of two numbers, word by word
when-lt64 : (b v : ℕ) → v < 2 ^ 64 → when b v < 2 ^ 64
when-lt64 zero v h = lit< tt
when-lt64 (suc b) v h = h

when-place : (b hi lo : ℕ) → when b hi * 2 ^ 64 + when b lo ≡ when b (hi * 2 ^ 64 + lo)
when-place zero hi lo = refl
when-place (suc b) hi lo = refl

pub word_sum : (z_hi z_lo v_hi v_lo b : ℕ) → z_lo < 2 ^ 64 → v_lo < 2 ^ 64 →
    bit_xor z_hi (when b v_hi) * 2 ^ 64 + bit_xor z_lo (when b v_lo) ≡ bit_xor (z_hi * 2 ^ 64 + z_lo) (when b (v_hi * 2 ^ 64 + v_lo))
word_sum z_hi z_lo v_hi v_lo b h k =
    sym (xor_block 64 z_hi (when b v_hi) z_lo (when b v_lo) h (when-lt64 b v_lo k)) ∙ ap (bit_xor (z_hi * 2 ^ 64 + z_lo)) (when-place b v_hi v_lo)

pub word_at-lt : (xs : List ℕ) (j : ℕ) → length xs ≡ 4 → Each1 (Fits w64) xs → slice_index xs j < 2 ^ 64
word_at-lt xs j h f = elim (cases_lt j 4) [ inl below ↦ four_words (λ (ys : List ℕ). (i : ℕ) → i < 4 → slice_index ys i < 2 ^ 64) (λ a b c d p q r s. below_four _ p q r s) xs h f j below | inr above ↦ subst (λ (x : ℕ). x < 2 ^ 64) (sym (get_or_past xs j 0 (omega arith))) (lit< tt) ]

-- ---- rows
shift_up : (n v : ℕ) → shift_by (suc n) v ≡ shift_by_x (shift_by n v)
unfolding shift_by
shift_up n v = shift_by_x-shift_by n v

pub rows_step : (z z0 h i b w : ℕ) → i < 16 → z ≡ bit_xor z0 (digits_product (digits i b) (shift_by (16 - i) h)) → w ≡ b / 2 ^ i →
    bit_xor z (when (w % 2) (shift_by (15 - i) h)) ≡ bit_xor z0 (digits_product (digits (i + 1) b) (shift_by (16 - (i + 1)) h))
unfolding digits_product digits
rows_step z z0 h i b w l e d =
    let n = 15 - i in
    let more : 16 - i ≡ suc n = omega arith in
    let less : 16 - (i + 1) ≡ n = omega arith in
    let v = shift_by n h in
    let p = digits_product (digits i b) (shift_by_x v) in
    let bit = when (b / 2 ^ i % 2) v in
    let up : shift_by (16 - i) h ≡ shift_by_x v = ap (λ (k : ℕ). shift_by k h) more ∙ shift_up n h in
    ap (λ (x : ℕ). bit_xor x (when (w % 2) v)) (e ∙ ap (λ (x : ℕ). bit_xor z0 (digits_product (digits i b) x)) up)
    ∙ ap (λ (x : ℕ). bit_xor (bit_xor z0 p) (when (x % 2) v)) d
    ∙ xor_assoc z0 p bit
    ∙ ap (bit_xor z0) (xor_comm p bit)
    ∙ sym (ap (λ (k : ℕ). bit_xor z0 (digits_product (digits (i + 1) b) (shift_by k h))) less ∙ ap (λ (k : ℕ). bit_xor z0 (digits_product (digits k b) v)) (add-one i))

pub halves_step : (b i w : ℕ) → w ≡ b / 2 ^ i → w / 2 ≡ b / 2 ^ (i + 1)
halves_step b i w d = ap (λ (x : ℕ). x / 2 ^ 1) d ∙ shr-shr b i 1

pub word_step : (z z0 p h i b w r : ℕ) → z ≡ bit_xor (digits_product (digits (16 * i) b) h) (shift_by (16 * i) z0) → w ≡ b / 2 ^ (16 * i) →
    p ≡ shift_by 16 z → r ≡ bit_xor p (digits_product (digits 16 w) h) →
    r ≡ bit_xor (digits_product (digits (16 * (i + 1)) b) h) (shift_by (16 * (i + 1)) z0)
word_step z z0 p h i b w r e d f g =
    let k = 16 * i in
    let more : 16 * (i + 1) ≡ 16 + k = omega arith in
    let turned : k + 16 ≡ 16 + k = omega arith in
    let old = digits_product (digits k b) h in
    g
    ∙ ap (λ (x : ℕ). bit_xor x (digits_product (digits 16 w) h)) (f ∙ ap (shift_by 16) e ∙ shift_by-xor 16 old (shift_by k z0))
    ∙ ap (λ (x : ℕ). bit_xor (bit_xor (shift_by 16 old) (shift_by 16 (shift_by k z0))) (digits_product (digits 16 x) h)) d
    ∙ ap (λ (x : ℕ). bit_xor (bit_xor (shift_by 16 old) x) (digits_product (digits 16 (b / 2 ^ k)) h)) (shift_by-add 16 k z0 ∙ ap (λ (n : ℕ). shift_by n z0) turned)
    ∙ xor_comm (bit_xor (shift_by 16 old) (shift_by (16 + k) z0)) (digits_product (digits 16 (b / 2 ^ k)) h)
    ∙ sym (xor_assoc (digits_product (digits 16 (b / 2 ^ k)) h) (shift_by 16 old) (shift_by (16 + k) z0))
    ∙ ap (λ (x : ℕ). bit_xor x (shift_by (16 + k) z0)) (sym (product_group 16 k b h))
    ∙ ap (λ (n : ℕ). bit_xor (digits_product (digits n b) h) (shift_by n z0)) (sym more)

pub sixteen_step : (b i w : ℕ) → w ≡ b / 2 ^ (16 * i) → w / 2 ^ 16 ≡ b / 2 ^ (16 * (i + 1))
sixteen_step b i w d = ap (λ (x : ℕ). x / 2 ^ 16) d ∙ shr-shr b (16 * i) 16 ∙ ap (λ (n : ℕ). b / 2 ^ n) (let e : 16 * i + 16 ≡ 16 * (i + 1) = omega arith in e)

pub two_words : (hi lo h z r : ℕ) → lo < 2 ^ 64 → z ≡ bit_xor (digits_product (digits 64 lo) h) (shift_by 64 0) → r ≡ bit_xor (digits_product (digits 64 hi) h) (shift_by 64 z) →
    r ≡ number_product (hi * 2 ^ 64 + lo) h
unfolding number_product
two_words hi lo h z r l e f =
    let n = hi * 2 ^ 64 + lo in
    let low : z ≡ digits_product (digits 64 lo) h = e ∙ ap (bit_xor (digits_product (digits 64 lo) h)) (shift_by-zero 64) ∙ xor_zero_r (digits_product (digits 64 lo) h) in
    f ∙ sym (product_group 64 64 n h
    ∙ ap (λ (x : ℕ). bit_xor (digits_product (digits 64 x) h) (shift_by 64 (digits_product (digits 64 n) h))) (shr_high hi 64 lo l)
    ∙ ap (λ (bs : List ℕ). bit_xor (digits_product (digits 64 hi) h) (shift_by 64 (digits_product bs h))) (sym (digits-mod 64 64 n (omega arith)) ∙ ap (digits 64) (mod_low hi 64 lo l))
    ∙ ap (λ (x : ℕ). bit_xor (digits_product (digits 64 hi) h) (shift_by 64 x)) (sym low))
