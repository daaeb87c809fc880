-- Bytes to work in stay zero where a front of them was wiped.
use Rattle.std.proofs.Common.{◌≡◌, ◌≤◌, ◌+◌, ◌-◌, ◌∷◌, ◌++◌, ℕ, zero, suc, List, length, drop, take, refl, ap, ◌∙◌, arith}
use Rattle.std.proofs.lemmas.List.{drop-replicate, length-take-le}
use Rattle.bits_core.specs.ByteList.{zeros}
use Rattle.bits_core.proofs.ZeroPadding.{zeros-append-zeros, take_front, length-zeros}

pub front_wiped : (n m : ℕ) → n ≤ m → zeros n ++ drop n (zeros m) ≡ zeros m
front_wiped n m within =
    ap (λ xs. zeros n ++ xs) (drop-replicate n m 0) ∙ zeros-append-zeros n (m - n) ∙ ap zeros (let e : n + (m - n) ≡ m = omega (arith, within) in e)

-- what a lent vector gives back
pub whole_lent : (n : ℕ) (xs : List ℕ) → take n (zeros n ++ drop (length (zeros n)) xs) ≡ zeros n
whole_lent n xs = take_front n (zeros n) (drop (length (zeros n)) xs) (length-zeros n)

-- a front of zeros is zeros
pub front_of_zeros : (n m : ℕ) → take n (zeros m) ≡ zeros (length (take n (zeros m)))
front_of_zeros zero m = refl
front_of_zeros (suc n) zero = refl
front_of_zeros (suc n) (suc m) = ap (λ (xs : List ℕ). 0 ∷ xs) (front_of_zeros n m)

-- and as long as it is cut
pub length_front_of_zeros : (n m : ℕ) → n ≤ m → length (take n (zeros m)) ≡ n
length_front_of_zeros n m within = length-take-le n (zeros m) (omega (arith, within, length-zeros m))
