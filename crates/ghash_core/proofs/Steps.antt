-- What single steps of the code compute.
use Rattle.ghash_core.specs.Number.{r_number, when, shift_by_x, digits, digits_product}
use Rattle.std.proofs.Common.{◌≡◌, ℕ, zero, suc, ◌+◌, ◌-◌, ◌*◌, ◌/◌, ◌%◌, ◌^◌, ◌<◌, ◌≤◌, bit_and, refl, sym, ap, ◌∙◌, arith}
use Rattle.std.proofs.lemmas.Nat.{and_mask}
use Rattle.std.specs.Int.Bits.{bit_xor, xor_assoc, xor_zero_r}

pub low_bit : (v : ℕ) → bit_and v 1 ≡ v % 2
low_bit v = and_mask v 1

when_times : (b : ℕ) → b < 2 → b * 0xe1000000000000000000000000000000 ≡ when b 0xe1000000000000000000000000000000
when_times zero h = refl
when_times (suc zero) h = refl
when_times (suc (suc b)) h = absurd (omega arith)

pub by_x_steps : (v : ℕ) → bit_xor (v / 2) (bit_and v 1 * 0xe1000000000000000000000000000000) ≡ shift_by_x v
unfolding shift_by_x r_number
by_x_steps v = ap (λ (b : ℕ). bit_xor (v / 2) (b * 0xe1000000000000000000000000000000)) (low_bit v) ∙ ap (bit_xor (v / 2)) (when_times (v % 2) (omega arith))

pub when_set : (z v b : ℕ) → bit_and b 1 ≡ 1 → bit_xor z v ≡ bit_xor z (when (b % 2) v)
when_set z v b h = sym (ap (λ (x : ℕ). bit_xor z (when x v)) (sym (low_bit b) ∙ h))

pub when_clear : (z v b : ℕ) → (bit_and b 1 ≡ 1 → ⊥) → z ≡ bit_xor z (when (b % 2) v)
when_clear z v b h =
    let low : b % 2 ≡ 0 = omega (arith, low_bit b, h) in
    sym (ap (λ (x : ℕ). bit_xor z (when x v)) low ∙ xor_zero_r z)

-- one bit more of x
pub product_step : (z x v i t : ℕ) → i < 128 → bit_xor z (digits_product (digits (128 - i) x) v) ≡ t →
    bit_xor (bit_xor z (when (x / 2 ^ (127 - i) % 2) v)) (digits_product (digits (128 - (i + 1)) x) (shift_by_x v)) ≡ t
unfolding digits_product digits
product_step z x v i t h e =
    let k = 127 - i in
    let one : 128 - i ≡ suc (127 - i) = omega arith in
    let two : 128 - (i + 1) ≡ 127 - i = omega arith in
    ap (λ (n : ℕ). bit_xor (bit_xor z (when (x / 2 ^ k % 2) v)) (digits_product (digits n x) (shift_by_x v))) two
    ∙ xor_assoc z (when (x / 2 ^ k % 2) v) (digits_product (digits k x) (shift_by_x v))
    ∙ sym (ap (λ (n : ℕ). bit_xor z (digits_product (digits n x) v)) one)
    ∙ e

pub product_done : (z x v i t : ℕ) → 128 ≤ i → bit_xor z (digits_product (digits (128 - i) x) v) ≡ t → z ≡ t
unfolding digits_product digits
product_done z x v i t h e =
    let none : 128 - i ≡ 0 = omega arith in
    sym (ap (λ (n : ℕ). bit_xor z (digits_product (digits n x) v)) none ∙ xor_zero_r z) ∙ e
