-- The sum of two lists bit by bit, and sums that are zero.
use Rattle.bits_core.specs.ByteList.{xor_bytes}
use Rattle.std.specs.Int.Bits.{xor_self, xor_zero_l, xor_zero_r, xor_assoc}
use Rattle.std.proofs.Common.{◌≡◌, ℕ, zero, suc, ◌<◌, List, [], ◌∷◌, length, get_or, bit_xor, bit_or, refl, sym, ap, ◌∙◌, arith}
use Rattle.std.proofs.lemmas.Nat.{le_or_l, le_or_r}
use Rattle.std.proofs.lemmas.Grind.{same_number_lists}

pub length-xor_bytes : (xs ys : List ℕ) → length ys ≡ length xs → length (xor_bytes xs ys) ≡ length xs
length-xor_bytes [] ys e = refl
length-xor_bytes (x ∷ xs) [] e = absurd (omega arith)
length-xor_bytes (x ∷ xs) (y ∷ ys) e = let shorter : length ys ≡ length xs = omega arith in omega (arith, length-xor_bytes xs ys shorter)

pub get_or-xor_bytes : (xs ys : List ℕ) (k : ℕ) → length ys ≡ length xs → get_or (xor_bytes xs ys) k 0 ≡ bit_xor (get_or xs k 0) (get_or ys k 0)
get_or-xor_bytes [] [] k e = refl
get_or-xor_bytes [] (y ∷ ys) k e = absurd (omega arith)
get_or-xor_bytes (x ∷ xs) [] k e = absurd (omega arith)
get_or-xor_bytes (x ∷ xs) (y ∷ ys) zero e = refl
get_or-xor_bytes (x ∷ xs) (y ∷ ys) (suc k) e = get_or-xor_bytes xs ys k (omega arith)

-- a list is the sum of two others where its places are
pub is_xor_bytes : (zs xs ys : List ℕ) → length zs ≡ length xs → length ys ≡ length xs
    → ((k : ℕ) → k < length xs → get_or zs k 0 ≡ bit_xor (get_or xs k 0) (get_or ys k 0)) → zs ≡ xor_bytes xs ys
is_xor_bytes zs xs ys long alike sums =
    same_number_lists zs (xor_bytes xs ys) (long ∙ sym (length-xor_bytes xs ys alike)) (λ k h.
    sums k (omega arith) ∙ sym (get_or-xor_bytes xs ys k alike))

-- two numbers whose sum bit by bit is zero are equal
pub xor_is_zero : (a b : ℕ) → bit_xor a b ≡ 0 → a ≡ b
xor_is_zero a b none =
    sym (xor_zero_r a) ∙ ap (bit_xor a) (sym (xor_self b)) ∙ sym (xor_assoc a b b) ∙ ap (λ (n : ℕ). bit_xor n b) none ∙ xor_zero_l b

-- numbers whose bits together are none are zero
pub or_is_zero : (a b : ℕ) → bit_or a b ≡ 0 → (a ≡ 0) × (b ≡ 0)
or_is_zero a b none = (omega (arith, le_or_l a b), omega (arith, le_or_r a b))
