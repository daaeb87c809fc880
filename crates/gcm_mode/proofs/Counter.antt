-- The two kinds of J0.
use Rattle.gcm_mode.specs.Gcm.{hashed_iv, initial_counter}
use Rattle.std.proofs.Common.{◌≡◌, ℕ, List, [], ◌∷◌, ◌++◌, length, ap, arith, sym}
use Rattle.std.specs.Prelude.{◌==◌, if◌then◌else◌}

twelve_or_not : (n : ℕ) (a b : List ℕ) → (n ≡ 12 → ⊥) → (if n == 12 then a else b) ≡ b
twelve_or_not n a b h = grind arith

pub short_is : (key iv : List ℕ) → length iv ≡ 12 → iv ++ 0 ∷ 0 ∷ 0 ∷ 1 ∷ [] ≡ initial_counter key iv
unfolding initial_counter
short_is key iv size = sym (ap (λ (n : ℕ). if n == 12 then iv ++ 0 ∷ 0 ∷ 0 ∷ 1 ∷ [] else hashed_iv key iv) size)

pub hashed_is : (key iv : List ℕ) → (length iv ≡ 12 → ⊥) → hashed_iv key iv ≡ initial_counter key iv
unfolding initial_counter
hashed_is key iv other = sym (twelve_or_not (length iv) (iv ++ 0 ∷ 0 ∷ 0 ∷ 1 ∷ []) (hashed_iv key iv) other)
