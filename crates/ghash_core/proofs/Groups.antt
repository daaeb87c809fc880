-- Several bits at a time.
use Rattle.ghash_core.specs.Number.{r_number, when, shift_by_x, shift_by, digits, digits_product}
use Rattle.ghash_core.proofs.Field.{shift_by_x-xor, digits_product-by_x, swap_middle}
use Rattle.std.proofs.Common.{◌≡◌, ℕ, zero, suc, ◌+◌, ◌-◌, ◌*◌, ◌/◌, ◌%◌, ◌^◌, ◌<◌, ◌≤◌, List, [], ◌∷◌, ◌++◌, length, bit_and, refl, sym, ap, ◌∙◌, arith, one-add, add-one, subst}
use Rattle.std.proofs.lemmas.Nat.{and_mask, shr-shr, pow_pos, pow-add, mod_below, shl_below, div_below, field_of, mod-pow-add}
use Rattle.std.proofs.Math.Nat.{pow-suc, add-mul, mul_assoc, mul_comm, one-mul, div-add-mod'}
use Rattle.std.specs.Int.Bits.{bit_xor, xor_assoc, xor_comm, xor_zero_r, xor_shr, xor_shifted, xor_block}

pub shift_by-xor : (n u v : ℕ) → shift_by n (bit_xor u v) ≡ bit_xor (shift_by n u) (shift_by n v)
unfolding shift_by
shift_by-xor zero u v = refl
shift_by-xor (suc n) u v = ap (shift_by n) (shift_by_x-xor u v) ∙ shift_by-xor n (shift_by_x u) (shift_by_x v)

pub digits_product-shift_by : (bs : List ℕ) (n v : ℕ) → digits_product bs (shift_by n v) ≡ shift_by n (digits_product bs v)
unfolding shift_by
digits_product-shift_by bs zero v = refl
digits_product-shift_by bs (suc n) v = digits_product-shift_by bs n (shift_by_x v) ∙ ap (shift_by n) (digits_product-by_x bs v)

pub digits_product-append : (as' bs : List ℕ) (v : ℕ) → digits_product (as' ++ bs) v ≡ bit_xor (digits_product as' v) (shift_by (length as') (digits_product bs v))
unfolding digits_product shift_by
digits_product-append [] bs v = refl
digits_product-append (a ∷ rest) bs v =
    ap (bit_xor (when a v)) (digits_product-append rest bs (shift_by_x v))
    ∙ sym (xor_assoc (when a v) (digits_product rest (shift_by_x v)) (shift_by (length rest) (digits_product bs (shift_by_x v))))
    ∙ ap (λ (y : ℕ). bit_xor (bit_xor (when a v) (digits_product rest (shift_by_x v))) (shift_by (length rest) y)) (digits_product-by_x bs v)

-- ---- digits
pub bit_of_mod : (k m n : ℕ) → suc k ≤ m → n % 2 ^ m / 2 ^ k % 2 ≡ n / 2 ^ k % 2
bit_of_mod k m n h =
    let d = m - suc k in
    let e : m ≡ suc d + k = omega arith in
    ap (λ (x : ℕ). n % 2 ^ x / 2 ^ k % 2) e
    ∙ ap (λ (x : ℕ). x % 2) (field_of n (suc d) k)
    ∙ ap (λ (x : ℕ). n / 2 ^ k % 2 ^ x % 2) (sym (add-one d))
    ∙ ap (λ (x : ℕ). x % 2) (mod-pow-add (n / 2 ^ k) d 1)
    ∙ omega arith

pub digits_split : (j k n : ℕ) → digits (j + k) n ≡ digits j (n / 2 ^ k) ++ digits k n
unfolding digits
digits_split zero k n = ap (λ (x : ℕ). digits x n) (omega arith)
digits_split (suc j) k n =
    let e : suc j + k ≡ suc (j + k) = omega arith in
    let place : n / 2 ^ k / 2 ^ j % 2 ≡ n / 2 ^ (j + k) % 2 = ap (λ (x : ℕ). x % 2) (shr-shr n k j ∙ ap (λ (x : ℕ). n / 2 ^ x) (omega arith)) in
    ap (λ (x : ℕ). digits x n) e
    ∙ ap (λ (x : ℕ). x ∷ digits (j + k) n) (sym place)
    ∙ ap (λ (xs : List ℕ). (n / 2 ^ k / 2 ^ j % 2) ∷ xs) (digits_split j k n)

pub length-digits : (k n : ℕ) → length (digits k n) ≡ k
unfolding digits
length-digits zero n = refl
length-digits (suc k) n = ap suc (length-digits k n)

-- k bits more, from the last on
pub product_group : (j k n v : ℕ) → digits_product (digits (j + k) n) v ≡ bit_xor (digits_product (digits j (n / 2 ^ k)) v) (shift_by j (digits_product (digits k n) v))
product_group j k n v =
    ap (λ (xs : List ℕ). digits_product xs v) (digits_split j k n)
    ∙ digits_product-append (digits j (n / 2 ^ k)) (digits k n) v
    ∙ ap (λ (m : ℕ). bit_xor (digits_product (digits j (n / 2 ^ k)) v) (shift_by m (digits_product (digits k n) v))) (length-digits j (n / 2 ^ k))

-- the lowest k bits of n are those of its remainder
pub digits-mod : (k m n : ℕ) → k ≤ m → digits k (n % 2 ^ m) ≡ digits k n
unfolding digits
digits-mod zero m n h = refl
digits-mod (suc k) m n h = ap (λ (x : ℕ). x ∷ digits k (n % 2 ^ m)) (bit_of_mod k m n h) ∙ ap (λ (xs : List ℕ). (n / 2 ^ k % 2) ∷ xs) (digits-mod k m n (omega arith))

-- ---- a shift by several places
pub shift_by_x-double : (q : ℕ) → shift_by_x (q * 2) ≡ q
unfolding shift_by_x
shift_by_x-double q =
    let half : q * 2 / 2 ≡ q = omega arith in
    let low : q * 2 % 2 ≡ 0 = omega arith in
    ap (λ (x : ℕ). bit_xor x (when (q * 2 % 2) r_number)) half
    ∙ ap (λ (x : ℕ). bit_xor q (when x r_number)) low
    ∙ xor_zero_r q

pub shift_by-multiple : (k q : ℕ) → shift_by k (q * 2 ^ k) ≡ q
unfolding shift_by
shift_by-multiple zero q = omega arith
shift_by-multiple (suc k) q =
    let e : q * 2 ^ suc k ≡ q * 2 ^ k * 2 = ap (λ (x : ℕ). q * x) (pow-suc 2 k) ∙ sym (mul_assoc q (2 ^ k) 2) in
    ap (λ (x : ℕ). shift_by k (shift_by_x x)) e
    ∙ ap (shift_by k) (shift_by_x-double (q * 2 ^ k))
    ∙ shift_by-multiple k q

-- a shift goes in two parts: what stays, and what falls out
pub shift_by_parts : (k z : ℕ) → shift_by k z ≡ bit_xor (z / 2 ^ k) (shift_by k (z % 2 ^ k))
shift_by_parts k z =
    ap (shift_by k) (sym (div-add-mod' z (2 ^ k)) ∙ sym (xor_shifted (z / 2 ^ k) k (z % 2 ^ k) (mod_below z (2 ^ k) (pow_pos k))))
    ∙ shift_by-xor k (z / 2 ^ k * 2 ^ k) (z % 2 ^ k)
    ∙ ap (λ (x : ℕ). bit_xor x (shift_by k (z % 2 ^ k))) (shift_by-multiple k (z / 2 ^ k))

-- ---- what falls out comes back at the top
unfoldable pub fold_of : ℕ → ℕ
fold_of low = bit_xor (bit_xor (bit_xor low (low / 2)) (low / 4)) (low / 128)

pub fold_of-xor : (a b : ℕ) → fold_of (bit_xor a b) ≡ bit_xor (fold_of a) (fold_of b)
unfolding fold_of
fold_of-xor a b =
    let e1 : bit_xor a b / 2 ≡ bit_xor (a / 2) (b / 2) = xor_shr a b 1 in
    let e2 : bit_xor a b / 4 ≡ bit_xor (a / 4) (b / 4) = xor_shr a b 2 in
    let e7 : bit_xor a b / 128 ≡ bit_xor (a / 128) (b / 128) = xor_shr a b 7 in
    ap (λ (x : ℕ). bit_xor (bit_xor (bit_xor (bit_xor a b) x) (bit_xor a b / 4)) (bit_xor a b / 128)) e1
    ∙ ap (λ (x : ℕ). bit_xor (bit_xor x (bit_xor a b / 4)) (bit_xor a b / 128)) (swap_middle a b (a / 2) (b / 2))
    ∙ ap (λ (x : ℕ). bit_xor (bit_xor (bit_xor (bit_xor a (a / 2)) (bit_xor b (b / 2))) x) (bit_xor a b / 128)) e2
    ∙ ap (λ (x : ℕ). bit_xor x (bit_xor a b / 128)) (swap_middle (bit_xor a (a / 2)) (bit_xor b (b / 2)) (a / 4) (b / 4))
    ∙ ap (bit_xor (bit_xor (bit_xor (bit_xor a (a / 2)) (a / 4)) (bit_xor (bit_xor b (b / 2)) (b / 4)))) e7
    ∙ swap_middle (bit_xor (bit_xor a (a / 2)) (a / 4)) (bit_xor (bit_xor b (b / 2)) (b / 4)) (a / 128) (b / 128)

pub xor-multiples : (i a b : ℕ) → bit_xor (a * 2 ^ i) (b * 2 ^ i) ≡ bit_xor a b * 2 ^ i
xor-multiples i a b =
    let p : a * 2 ^ i ≡ a * 2 ^ i + 0 = omega arith in
    let q : b * 2 ^ i ≡ b * 2 ^ i + 0 = omega arith in
    ap (λ (x : ℕ). bit_xor x (b * 2 ^ i)) p ∙ ap (bit_xor (a * 2 ^ i + 0)) q
    ∙ xor_block i a b 0 0 (pow_pos i) (pow_pos i) ∙ omega arith

pub fold_of-bit : (i b : ℕ) → b < 2 → fold_of (b * 2 ^ (i + 7)) ≡ when b (0xe1 * 2 ^ i)
unfolding fold_of
fold_of-bit i zero h = let e : 0 * 2 ^ (i + 7) ≡ 0 = omega arith in ap (λ (low : ℕ). bit_xor (bit_xor (bit_xor low (low / 2)) (low / 4)) (low / 128)) e
fold_of-bit i (suc zero) h =
    let e : 1 * 2 ^ (i + 7) ≡ 128 * 2 ^ i = one-mul (2 ^ (i + 7)) ∙ pow-add 2 i 7 ∙ mul_comm (2 ^ i) 128 in
    let h1 : 128 * 2 ^ i / 2 ≡ 64 * 2 ^ i = omega arith in
    let h2 : 128 * 2 ^ i / 4 ≡ 32 * 2 ^ i = omega arith in
    let h7 : 128 * 2 ^ i / 128 ≡ 1 * 2 ^ i = omega arith in
    ap (λ (low : ℕ). bit_xor (bit_xor (bit_xor low (low / 2)) (low / 4)) (low / 128)) e
    ∙ ap (λ (x : ℕ). bit_xor (bit_xor (bit_xor (128 * 2 ^ i) x) (128 * 2 ^ i / 4)) (128 * 2 ^ i / 128)) h1
    ∙ ap (λ (x : ℕ). bit_xor (bit_xor (bit_xor (128 * 2 ^ i) (64 * 2 ^ i)) x) (128 * 2 ^ i / 128)) h2
    ∙ ap (bit_xor (bit_xor (bit_xor (128 * 2 ^ i) (64 * 2 ^ i)) (32 * 2 ^ i))) h7
    ∙ ap (λ (x : ℕ). bit_xor (bit_xor x (32 * 2 ^ i)) (1 * 2 ^ i)) (xor-multiples i 128 64)
    ∙ ap (λ (x : ℕ). bit_xor x (1 * 2 ^ i)) (xor-multiples i 192 32)
    ∙ xor-multiples i 224 1
fold_of-bit i (suc (suc b)) h = absurd (omega arith)

pub shift_by-when : (k b v : ℕ) → shift_by k (when b v) ≡ when b (shift_by k v)
unfolding shift_by shift_by_x
shift_by-when zero b v = refl
shift_by-when (suc k) zero v = shift_by-when k zero (shift_by_x 0)
shift_by-when (suc k) (suc b) v = refl

pub shift_by-r : (i k : ℕ) → i + k ≡ 120 → shift_by k r_number ≡ 0xe1 * 2 ^ i
unfolding r_number
shift_by-r i k e =
    let whole : 0xe1000000000000000000000000000000 ≡ 0xe1 * 2 ^ i * 2 ^ k =
    ap (λ (n : ℕ). 0xe1 * 2 ^ n) (sym e) ∙ ap (λ (x : ℕ). 0xe1 * x) (pow-add 2 i k) ∙ sym (mul_assoc 0xe1 (2 ^ i) (2 ^ k)) in
    ap (shift_by k) whole ∙ shift_by-multiple k (0xe1 * 2 ^ i)

pub whole_from_halves : (r j : ℕ) → r / 2 * 2 ^ suc j + r % 2 * 2 ^ j ≡ r * 2 ^ j
whole_from_halves r j =
    ap (λ (x : ℕ). r / 2 * x + r % 2 * 2 ^ j) (pow-suc 2 j ∙ mul_comm (2 ^ j) 2)
    ∙ ap (λ (x : ℕ). x + r % 2 * 2 ^ j) (sym (mul_assoc (r / 2) 2 (2 ^ j)))
    ∙ sym (add-mul (r / 2 * 2) (r % 2) (2 ^ j))
    ∙ ap (λ (x : ℕ). x * 2 ^ j) (div-add-mod' r 2)

pub shift_by-small : (k j i r : ℕ) → j ≡ i + 7 → j + k ≡ 128 → r < 2 ^ k → shift_by k r ≡ fold_of (r * 2 ^ j)
unfolding shift_by shift_by_x fold_of
shift_by-small zero j i r d e h =
    let none : r ≡ 0 = omega arith in
    let all : r * 2 ^ j ≡ 0 = ap (λ (x : ℕ). x * 2 ^ j) none ∙ omega arith in
    none ∙ sym (ap fold_of all)
shift_by-small (suc k) j i r d e h =
    let low : r % 2 < 2 = omega arith in
    let place : i + 7 ≡ j = sym d in
    let below : r % 2 * 2 ^ j < 2 ^ suc j = subst (λ (x : ℕ). r % 2 * 2 ^ j < 2 ^ x) (one-add j) (shl_below (r % 2) 1 j low) in
    let halved : r / 2 < 2 ^ k = div_below r 2 (2 ^ k) (omega arith) (subst (λ (x : ℕ). r < x) (pow-suc 2 k) h) in
    shift_by-xor k (r / 2) (when (r % 2) r_number)
    ∙ ap (λ (x : ℕ). bit_xor x (shift_by k (when (r % 2) r_number))) (shift_by-small k (suc j) (suc i) (r / 2) (omega arith) (omega arith) halved)
    ∙ ap (bit_xor (fold_of (r / 2 * 2 ^ suc j)))
    (shift_by-when k (r % 2) r_number ∙ ap (when (r % 2)) (shift_by-r i k (omega arith)) ∙ sym (fold_of-bit i (r % 2) low)
    ∙ ap (λ (x : ℕ). fold_of (r % 2 * 2 ^ x)) place)
    ∙ sym (fold_of-xor (r / 2 * 2 ^ suc j) (r % 2 * 2 ^ j))
    ∙ ap fold_of (xor_shifted (r / 2) (suc j) (r % 2 * 2 ^ j) below ∙ whole_from_halves r j)

-- what the code computes
pub by_x4_steps : (z : ℕ) → z < 2 ^ 128 → let low = bit_and z 15 * 21267647932558653966460912964485513216 % 340282366920938463463374607431768211456 in
    bit_xor (bit_xor (bit_xor (bit_xor (z / 16) low) (low / 2)) (low / 4)) (low / 128) ≡ shift_by 4 z
unfolding fold_of
by_x4_steps z h =
    let masked : bit_and z 15 ≡ z % 16 = and_mask z 4 in
    let low = z % 16 * 2 ^ 124 in
    let e : bit_and z 15 * 2 ^ 124 % 2 ^ 128 ≡ low = ap (λ (x : ℕ). x * 2 ^ 124 % 2 ^ 128) masked ∙ omega arith in
    ap (λ (x : ℕ). bit_xor (bit_xor (bit_xor (bit_xor (z / 16) x) (x / 2)) (x / 4)) (x / 128)) e
    ∙ ap (λ (x : ℕ). bit_xor (bit_xor x (low / 4)) (low / 128)) (xor_assoc (z / 16) low (low / 2))
    ∙ ap (λ (x : ℕ). bit_xor x (low / 128)) (xor_assoc (z / 16) (bit_xor low (low / 2)) (low / 4))
    ∙ xor_assoc (z / 16) (bit_xor (bit_xor low (low / 2)) (low / 4)) (low / 128)
    ∙ ap (bit_xor (z / 16)) (sym (shift_by-small 4 124 117 (z % 16) refl refl (omega arith)))
    ∙ sym (shift_by_parts 4 z)

pub table_step : (z x h i t rest : ℕ) → z ≡ digits_product (digits (4 * i) x) h → rest ≡ x / 2 ^ (4 * i) → t ≡ digits_product (digits 4 (bit_and rest 15)) h →
    bit_xor (shift_by 4 z) t ≡ digits_product (digits (4 * (i + 1)) x) h
table_step z x h i t rest e d f =
    let k = 4 * i in
    let more : 4 * (i + 1) ≡ 4 + k = omega arith in
    let masked : bit_and rest 15 ≡ rest % 16 = and_mask rest 4 in
    xor_comm (shift_by 4 z) t
    ∙ ap (λ (x : ℕ). bit_xor x (shift_by 4 z)) (f ∙ ap (λ (n : ℕ). digits_product (digits 4 n) h) masked ∙ ap (λ (bs : List ℕ). digits_product bs h) (digits-mod 4 4 rest (omega arith)) ∙ ap (λ (n : ℕ). digits_product (digits 4 n) h) d)
    ∙ ap (λ (y : ℕ). bit_xor (digits_product (digits 4 (x / 2 ^ k)) h) (shift_by 4 y)) e
    ∙ sym (product_group 4 k x h)
    ∙ ap (λ (n : ℕ). digits_product (digits n x) h) (sym more)

pub rest_step : (x i rest : ℕ) → rest ≡ x / 2 ^ (4 * i) → rest / 16 ≡ x / 2 ^ (4 * (i + 1))
rest_step x i rest d =
    ap (λ (y : ℕ). y / 2 ^ 4) d ∙ shr-shr x (4 * i) 4 ∙ ap (λ (n : ℕ). x / 2 ^ n) (omega arith)
