-- Numbers below 2 ^ 128 as blocks of bits.
use Rattle.ghash_core.specs.Block.{bits, plus_bit, plus, zero_block, one_block, reduction, by_x, product, power, ghash}
use Rattle.ghash_core.specs.Number.{r_number, when, shift_by_x, digits, digits_product, number_product, number_power, number_ghash}
use Rattle.ghash_core.proofs.Field.{digit-xor, shift_by_x-lt, number_power-lt}
use Rattle.std.proofs.Common.{◌≡◌, ℕ, zero, suc, ◌/◌, ◌%◌, ◌^◌, ◌<◌, Bool, false, cond, List, [], ◌∷◌, length, take, get_or, nat_eq, bit_xor, map, refl, sym, ap, ◌∙◌, arith, one-add}
use Rattle.std.proofs.lemmas.Nat.{shr-shr}
use Rattle.std.proofs.lemmas.List.{length-map}
use Rattle.std.specs.Int.Bits.{xor_zero_r}

one_xor : (a b : ℕ) → a < 2 → b < 2 → plus_bit (nat_eq a 1) (nat_eq b 1) ≡ nat_eq (bit_xor a b) 1
one_xor zero zero h k = refl
one_xor zero (suc zero) h k = refl
one_xor (suc zero) zero h k = refl
one_xor (suc zero) (suc zero) h k = refl
one_xor (suc (suc a)) b h k = absurd (omega arith)
one_xor zero (suc (suc b)) h k = absurd (omega arith)
one_xor (suc zero) (suc (suc b)) h k = absurd (omega arith)

pub plus-bits : (k a b : ℕ) → plus (bits k a) (bits k b) ≡ bits k (bit_xor a b)
unfolding plus bits
plus-bits zero a b = refl
plus-bits (suc k) a b =
    ap (λ (x : Bool). x ∷ plus (bits k a) (bits k b)) (one_xor (a / 2 ^ k % 2) (b / 2 ^ k % 2) (omega arith) (omega arith) ∙ ap (λ (x : ℕ). nat_eq x 1) (sym (digit-xor k a b)))
    ∙ ap (λ (xs : List Bool). nat_eq (bit_xor a b / 2 ^ k % 2) 1 ∷ xs) (plus-bits k a b)

-- ---- the product by x
take-bits : (k v : ℕ) → take k (bits (suc k) v) ≡ bits k (v / 2)
unfolding bits
take-bits zero v = refl
take-bits (suc k) v =
    let place : v / 2 / 2 ^ k % 2 ≡ v / 2 ^ suc k % 2 = ap (λ (x : ℕ). x % 2) (shr-shr v 1 k ∙ ap (λ (x : ℕ). v / 2 ^ x) (one-add k)) in
    ap (λ (x : ℕ). nat_eq x 1 ∷ take k (bits (suc k) v)) (sym place)
    ∙ ap (λ (xs : List Bool). nat_eq (v / 2 / 2 ^ k % 2) 1 ∷ xs) (take-bits k v)

last-bits : (k v : ℕ) → get_or (bits (suc k) v) k false ≡ nat_eq (v % 2) 1
unfolding bits
last-bits zero v = ap (λ (x : ℕ). nat_eq (x % 2) 1) (omega arith)
last-bits (suc k) v = last-bits k v

halved-bits : (v : ℕ) → v < 2 ^ 128 → false ∷ take 127 (bits 128 v) ≡ bits 128 (v / 2)
unfolding bits
halved-bits v h =
    let top : v / 2 / 2 ^ 127 % 2 ≡ 0 = omega arith in
    ap (λ (xs : List Bool). false ∷ xs) (take-bits 127 v)
    ∙ ap (λ (x : ℕ). nat_eq x 1 ∷ bits 127 (v / 2)) (sym top)

reduction_is : reduction ≡ bits 128 r_number
unfolding reduction bits r_number
reduction_is = refl

by_x_cases : (b v : ℕ) → b < 2 → cond (nat_eq b 1) (plus (bits 128 v) reduction) (bits 128 v) ≡ bits 128 (bit_xor v (when b r_number))
by_x_cases zero v h = ap (bits 128) (sym (xor_zero_r v))
by_x_cases (suc zero) v h = ap (plus (bits 128 v)) reduction_is ∙ plus-bits 128 v r_number
by_x_cases (suc (suc b)) v h = absurd (omega arith)

pub by_x-bits : (v : ℕ) → v < 2 ^ 128 → by_x (bits 128 v) ≡ bits 128 (shift_by_x v)
unfolding by_x shift_by_x
by_x-bits v h =
    ap (λ (b : Bool). cond b (plus (false ∷ take 127 (bits 128 v)) reduction) (false ∷ take 127 (bits 128 v))) (last-bits 127 v)
    ∙ ap (λ (xs : List Bool). cond (nat_eq (v % 2) 1) (plus xs reduction) xs) (halved-bits v h)
    ∙ by_x_cases (v % 2) (v / 2) (omega arith)

-- ---- the product, the powers and the sum
zero_is : zero_block ≡ bits 128 0
unfolding zero_block bits
zero_is = refl

when-bits : (b v : ℕ) → b < 2 → cond (nat_eq b 1) (bits 128 v) zero_block ≡ bits 128 (when b v)
when-bits zero v h = zero_is
when-bits (suc zero) v h = refl
when-bits (suc (suc b)) v h = absurd (omega arith)

pub product-bits : (k x v : ℕ) → v < 2 ^ 128 → product (bits k x) (bits 128 v) ≡ bits 128 (digits_product (digits k x) v)
unfolding product digits_product digits bits zero_block
product-bits zero x v h = zero_is
product-bits (suc k) x v h =
    ap (λ (xs : List Bool). plus (cond (nat_eq (x / 2 ^ k % 2) 1) (bits 128 v) zero_block) (product (bits k x) xs)) (by_x-bits v h)
    ∙ ap (plus (cond (nat_eq (x / 2 ^ k % 2) 1) (bits 128 v) zero_block)) (product-bits k x (shift_by_x v) (shift_by_x-lt v h))
    ∙ ap (λ (xs : List Bool). plus xs (bits 128 (digits_product (digits k x) (shift_by_x v)))) (when-bits (x / 2 ^ k % 2) v (omega arith))
    ∙ plus-bits 128 (when (x / 2 ^ k % 2) v) (digits_product (digits k x) (shift_by_x v))

one_is : (h : ℕ) → power (bits 128 h) 0 ≡ bits 128 (2 ^ 127)
unfolding power bits one_block
one_is h = refl

pub power-bits : (h n : ℕ) → h < 2 ^ 128 → power (bits 128 h) n ≡ bits 128 (number_power h n)
unfolding power number_power number_product
power-bits h zero l = one_is h
power-bits h (suc n) l = ap (λ (p : List Bool). product p (bits 128 h)) (power-bits h n l) ∙ product-bits 128 (number_power h n) h l

pub ghash-bits : (h : ℕ) (xs : List ℕ) → h < 2 ^ 128 → ghash (bits 128 h) (map (bits 128) xs) ≡ bits 128 (number_ghash h xs)
unfolding ghash number_ghash number_product
ghash-bits h [] l = zero_is
ghash-bits h (x ∷ xs) l =
    let n = suc (length xs) in
    ap (λ (m : ℕ). plus (product (bits 128 x) (power (bits 128 h) (suc m))) (ghash (bits 128 h) (map (bits 128) xs))) (length-map xs (bits 128))
    ∙ ap (λ (p : List Bool). plus (product (bits 128 x) p) (ghash (bits 128 h) (map (bits 128) xs))) (power-bits h n l)
    ∙ ap (λ (p : List Bool). plus p (ghash (bits 128 h) (map (bits 128) xs))) (product-bits 128 x (number_power h n) (number_power-lt h n l))
    ∙ ap (plus (bits 128 (digits_product (digits 128 x) (number_power h n)))) (ghash-bits h xs l)
    ∙ plus-bits 128 (digits_product (digits 128 x) (number_power h n)) (number_ghash h xs)
