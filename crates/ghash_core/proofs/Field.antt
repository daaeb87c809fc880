-- The product on numbers below 2 ^ 128, the highest bit the coefficient of x^0.
use Rattle.ghash_core.specs.Number.{r_number, when, shift_by_x, digits, digits_product, number_product, number_power, number_ghash, horner}
use Rattle.std.proofs.Common.{◌≡◌, ℕ, zero, suc, ◌+◌, ◌*◌, ◌/◌, ◌%◌, ◌^◌, ◌<◌, List, [], ◌∷◌, length, refl, sym, ap, ◌∙◌, arith, lit<, one-add}
use Rattle.std.proofs.lemmas.Nat.{pow_pos, mod-pow-add, mod_below}
use Rattle.std.proofs.Math.Nat.{pow-suc, one-mul, mod-eq_of_lt}
use Rattle.std.specs.Int.Bits.{bit_xor, xor_assoc, xor_comm, xor_zero_r, xor_self, xor_shr, xor_mod, xor_shifted, xor_lt}

-- ---- sums
pub swap_middle : (a b c d : ℕ) → bit_xor (bit_xor a b) (bit_xor c d) ≡ bit_xor (bit_xor a c) (bit_xor b d)
swap_middle a b c d =
    xor_assoc a b (bit_xor c d)
    ∙ ap (bit_xor a) (sym (xor_assoc b c d) ∙ ap (λ (x : ℕ). bit_xor x d) (xor_comm b c) ∙ xor_assoc c b d)
    ∙ sym (xor_assoc a c (bit_xor b d))

pub when-xor : (b u v : ℕ) → when b (bit_xor u v) ≡ bit_xor (when b u) (when b v)
when-xor zero u v = refl
when-xor (suc b) u v = refl

-- `when` is additive in a bit
pub when_plus : (a b v : ℕ) → a < 2 → b < 2 → when (bit_xor a b) v ≡ bit_xor (when a v) (when b v)
when_plus zero b v h k = refl
when_plus (suc zero) zero v h k = sym (xor_zero_r v)
when_plus (suc zero) (suc zero) v h k = sym (xor_self v)
when_plus (suc (suc a)) b v h k = absurd (omega arith)
when_plus (suc zero) (suc (suc b)) v h k = absurd (omega arith)

pub when-zero : (b : ℕ) → when b 0 ≡ 0
when-zero zero = refl
when-zero (suc b) = refl

-- ---- the product by x is additive
pub shift_by_x-xor : (u v : ℕ) → shift_by_x (bit_xor u v) ≡ bit_xor (shift_by_x u) (shift_by_x v)
unfolding shift_by_x
shift_by_x-xor u v =
    let halves : bit_xor u v / 2 ≡ bit_xor (u / 2) (v / 2) = xor_shr u v 1 in
    let lows : bit_xor u v % 2 ≡ bit_xor (u % 2) (v % 2) = xor_mod u v 1 in
    ap (λ (x : ℕ). bit_xor x (when (bit_xor u v % 2) r_number)) halves
    ∙ ap (λ (x : ℕ). bit_xor (bit_xor (u / 2) (v / 2)) (when x r_number)) lows
    ∙ ap (bit_xor (bit_xor (u / 2) (v / 2))) (when_plus (u % 2) (v % 2) r_number (omega arith) (omega arith))
    ∙ swap_middle (u / 2) (v / 2) (when (u % 2) r_number) (when (v % 2) r_number)

pub shift_by_x-when : (b v : ℕ) → shift_by_x (when b v) ≡ when b (shift_by_x v)
unfolding shift_by_x
shift_by_x-when zero v = refl
shift_by_x-when (suc b) v = refl

-- ---- the product is additive in its second argument
pub digits_product-xor : (bs : List ℕ) (u v : ℕ) → digits_product bs (bit_xor u v) ≡ bit_xor (digits_product bs u) (digits_product bs v)
unfolding digits_product
digits_product-xor [] u v = refl
digits_product-xor (b ∷ bs) u v =
    ap (λ (x : ℕ). bit_xor x (digits_product bs (shift_by_x (bit_xor u v)))) (when-xor b u v)
    ∙ ap (λ (x : ℕ). bit_xor (bit_xor (when b u) (when b v)) (digits_product bs x)) (shift_by_x-xor u v)
    ∙ ap (bit_xor (bit_xor (when b u) (when b v))) (digits_product-xor bs (shift_by_x u) (shift_by_x v))
    ∙ swap_middle (when b u) (when b v) (digits_product bs (shift_by_x u)) (digits_product bs (shift_by_x v))

pub digits_product-zero : (bs : List ℕ) → digits_product bs 0 ≡ 0
unfolding digits_product shift_by_x
digits_product-zero [] = refl
digits_product-zero (b ∷ bs) = ap (λ (x : ℕ). bit_xor x (digits_product bs 0)) (when-zero b) ∙ digits_product-zero bs

pub digits_product-when : (bs : List ℕ) (b v : ℕ) → digits_product bs (when b v) ≡ when b (digits_product bs v)
digits_product-when bs zero v = digits_product-zero bs
digits_product-when bs (suc b) v = refl

-- multiplication by x commutes with it
pub digits_product-by_x : (bs : List ℕ) (v : ℕ) → digits_product bs (shift_by_x v) ≡ shift_by_x (digits_product bs v)
unfolding digits_product shift_by_x
digits_product-by_x [] v = refl
digits_product-by_x (b ∷ bs) v =
    ap (bit_xor (when b (shift_by_x v))) (digits_product-by_x bs (shift_by_x v))
    ∙ ap (λ (x : ℕ). bit_xor x (shift_by_x (digits_product bs (shift_by_x v)))) (sym (shift_by_x-when b v))
    ∙ sym (shift_by_x-xor (when b v) (digits_product bs (shift_by_x v)))

-- two products can be taken in either order
pub product_exchange : (cs bs : List ℕ) (v : ℕ) → digits_product cs (digits_product bs v) ≡ digits_product bs (digits_product cs v)
unfolding digits_product
product_exchange [] bs v = sym (digits_product-zero bs)
product_exchange (a ∷ cs) bs v =
    ap (λ (x : ℕ). bit_xor (when a (digits_product bs v)) (digits_product cs x)) (sym (digits_product-by_x bs v))
    ∙ ap (bit_xor (when a (digits_product bs v))) (product_exchange cs bs (shift_by_x v))
    ∙ ap (λ (x : ℕ). bit_xor x (digits_product bs (digits_product cs (shift_by_x v)))) (sym (digits_product-when bs a v))
    ∙ sym (digits_product-xor bs (when a v) (digits_product cs (shift_by_x v)))

-- ---- the product is additive in its first argument
pub digit-xor : (k a b : ℕ) → bit_xor a b / 2 ^ k % 2 ≡ bit_xor (a / 2 ^ k % 2) (b / 2 ^ k % 2)
digit-xor k a b = ap (λ (x : ℕ). x % 2) (xor_shr a b k) ∙ xor_mod (a / 2 ^ k) (b / 2 ^ k) 1

pub digits_product-digits-xor : (k a b v : ℕ) → digits_product (digits k (bit_xor a b)) v ≡ bit_xor (digits_product (digits k a) v) (digits_product (digits k b) v)
unfolding digits_product digits
digits_product-digits-xor zero a b v = refl
digits_product-digits-xor (suc k) a b v =
    ap (λ (x : ℕ). bit_xor (when x v) (digits_product (digits k (bit_xor a b)) (shift_by_x v))) (digit-xor k a b)
    ∙ ap (λ (x : ℕ). bit_xor x (digits_product (digits k (bit_xor a b)) (shift_by_x v))) (when_plus (a / 2 ^ k % 2) (b / 2 ^ k % 2) v (omega arith) (omega arith))
    ∙ ap (bit_xor (bit_xor (when (a / 2 ^ k % 2) v) (when (b / 2 ^ k % 2) v))) (digits_product-digits-xor k a b (shift_by_x v))
    ∙ swap_middle (when (a / 2 ^ k % 2) v) (when (b / 2 ^ k % 2) v) (digits_product (digits k a) (shift_by_x v)) (digits_product (digits k b) (shift_by_x v))

-- ---- the product with x^0
pub shift_by_x-pow : (k : ℕ) → shift_by_x (2 ^ suc k) ≡ 2 ^ k
unfolding shift_by_x
shift_by_x-pow k =
    let p : 2 ^ suc k ≡ 2 ^ k * 2 = pow-suc 2 k in
    let half : 2 ^ suc k / 2 ≡ 2 ^ k = omega arith in
    let low : 2 ^ suc k % 2 ≡ 0 = omega arith in
    ap (λ (x : ℕ). bit_xor x (when (2 ^ suc k % 2) r_number)) half
    ∙ ap (λ (x : ℕ). bit_xor (2 ^ k) (when x r_number)) low
    ∙ xor_zero_r (2 ^ k)

pub when_place : (b k y : ℕ) → b < 2 → y < 2 ^ k → bit_xor (when b (2 ^ k)) y ≡ b * 2 ^ k + y
when_place zero k y h l = omega arith
when_place (suc zero) k y h l = ap (λ (x : ℕ). bit_xor x y) (sym (one-mul (2 ^ k))) ∙ xor_shifted 1 k y l
when_place (suc (suc b)) k y h l = absurd (omega arith)

pub digits_product-unit : (k c : ℕ) → digits_product (digits (suc k) c) (2 ^ k) ≡ c % 2 ^ suc k
unfolding digits_product digits
digits_product-unit zero c = when_place (c / 2 ^ 0 % 2) 0 0 (omega arith) (omega arith) ∙ omega arith
digits_product-unit (suc k) c =
    ap (λ (x : ℕ). bit_xor (when (c / 2 ^ suc k % 2) (2 ^ suc k)) (digits_product (digits (suc k) c) x)) (shift_by_x-pow k)
    ∙ ap (bit_xor (when (c / 2 ^ suc k % 2) (2 ^ suc k))) (digits_product-unit k c)
    ∙ when_place (c / 2 ^ suc k % 2) (suc k) (c % 2 ^ suc k) (omega arith) (mod_below c (2 ^ suc k) (pow_pos (suc k)))
    ∙ sym (mod-pow-add c 1 (suc k))
    ∙ ap (λ (x : ℕ). c % 2 ^ x) (one-add (suc k))

-- ---- it stays below 2 ^ 128
pub when-lt : (b v m : ℕ) → 0 < m → v < m → when b v < m
when-lt zero v m p h = p
when-lt (suc b) v m p h = h

pub shift_by_x-lt : (v : ℕ) → v < 2 ^ 128 → shift_by_x v < 2 ^ 128
unfolding shift_by_x r_number
shift_by_x-lt v h = xor_lt 128 (v / 2) (when (v % 2) r_number) (omega arith) (when-lt (v % 2) r_number (2 ^ 128) (lit< tt) (lit< tt))

pub digits_product-lt : (bs : List ℕ) (v : ℕ) → v < 2 ^ 128 → digits_product bs v < 2 ^ 128
unfolding digits_product
digits_product-lt [] v h = lit< tt
digits_product-lt (b ∷ bs) v h = xor_lt 128 (when b v) (digits_product bs (shift_by_x v)) (when-lt b v (2 ^ 128) (lit< tt) h) (digits_product-lt bs (shift_by_x v) (shift_by_x-lt v h))

pub number_product-lt : (a b : ℕ) → b < 2 ^ 128 → number_product a b < 2 ^ 128
unfolding number_product
number_product-lt a b h = digits_product-lt (digits 128 a) b h

pub number_product-one : (a : ℕ) → a < 2 ^ 128 → number_product a (2 ^ 127) ≡ a
unfolding number_product
number_product-one a h = digits_product-unit 127 a ∙ mod-eq_of_lt h

pub number_product_comm : (a b : ℕ) → a < 2 ^ 128 → b < 2 ^ 128 → number_product a b ≡ number_product b a
unfolding number_product
number_product_comm a b h k =
    ap (digits_product (digits 128 a)) (sym (number_product-one b k))
    ∙ product_exchange (digits 128 a) (digits 128 b) (2 ^ 127)
    ∙ ap (digits_product (digits 128 b)) (number_product-one a h)

pub number_product_assoc : (a b c : ℕ) → b < 2 ^ 128 → c < 2 ^ 128 → number_product (number_product a b) c ≡ number_product a (number_product b c)
unfolding number_product
number_product_assoc a b c h k =
    number_product_comm (number_product a b) c (number_product-lt a b h) k
    ∙ product_exchange (digits 128 c) (digits 128 a) b
    ∙ ap (digits_product (digits 128 a)) (number_product_comm c b k h)

pub number_product-xor_left : (a b c : ℕ) → number_product (bit_xor a b) c ≡ bit_xor (number_product a c) (number_product b c)
unfolding number_product
number_product-xor_left a b c = digits_product-digits-xor 128 a b c

pub number_power-lt : (h n : ℕ) → h < 2 ^ 128 → number_power h n < 2 ^ 128
unfolding number_power
number_power-lt h zero l = lit< tt
number_power-lt h (suc n) l = number_product-lt (number_power h n) h l

pub horner_is_sum : (h acc : ℕ) (xs : List ℕ) → h < 2 ^ 128 → acc < 2 ^ 128 → horner h acc xs ≡ bit_xor (number_product acc (number_power h (length xs))) (number_ghash h xs)
unfolding horner number_ghash number_power
horner_is_sum h acc [] l k = sym (number_product-one acc k) ∙ sym (xor_zero_r (number_product acc (2 ^ 127)))
horner_is_sum h acc (x ∷ xs) l k =
    let p = number_power h (length xs) in
    let q = number_power h (suc (length xs)) in
    horner_is_sum h (number_product (bit_xor acc x) h) xs l (number_product-lt (bit_xor acc x) h l)
    ∙ ap (λ (y : ℕ). bit_xor y (number_ghash h xs))
    (number_product_assoc (bit_xor acc x) h p l (number_power-lt h (length xs) l)
    ∙ ap (number_product (bit_xor acc x)) (number_product_comm h p l (number_power-lt h (length xs) l))
    ∙ number_product-xor_left acc x q)
    ∙ xor_assoc (number_product acc q) (number_product x q) (number_ghash h xs)
