-- Lists of bytes stay lists of bytes.
use Rattle.std.proofs.Common.{◌≡◌, ℕ, ◌+◌, ◌-◌, ◌<◌, List, ◌++◌, length, take, drop, get_or, refl, arith, inl, inr, lit<}
use Rattle.std.proofs.lemmas.Bool.{cases_lt}
use Rattle.std.proofs.lemmas.List.{length-take, get_or_append_left, get_or-append_right, get_or-take, get_or-drop, get_or_past}
use Rattle.bits_core.specs.ByteList.{IsBytes, zeros}
use Rattle.bits_core.proofs.ZeroPadding.{get_or-zeros}

pub small_along : (a b : ℕ) → a ≡ b → b < 256 → a < 256
small_along a b e h = omega arith

pub IsBytes-append : (xs ys : List ℕ) → IsBytes xs → IsBytes ys → IsBytes (xs ++ ys)
IsBytes-append xs ys hx hy n =
    elim (cases_lt n (length xs)) [
      | inl below ↦ small_along (get_or (xs ++ ys) n 0) (get_or xs n 0) (get_or_append_left xs ys 0 n below) (hx n)
      | inr above ↦ small_along (get_or (xs ++ ys) n 0) (get_or ys (n - length xs) 0) (get_or-append_right xs ys (length xs) n 0 refl above) (hy (n - length xs))
    ]

pub IsBytes-take : (k : ℕ) (xs : List ℕ) → IsBytes xs → IsBytes (take k xs)
IsBytes-take k xs h n =
    elim (cases_lt n k) [
      | inl below ↦ small_along (get_or (take k xs) n 0) (get_or xs n 0) (get_or-take k xs n 0 below) (h n)
      | inr above ↦ small_along (get_or (take k xs) n 0) 0 (get_or_past (take k xs) n 0 (omega (arith, length-take k xs))) (omega arith)
    ]

pub IsBytes-drop : (k : ℕ) (xs : List ℕ) → IsBytes xs → IsBytes (drop k xs)
IsBytes-drop k xs h n = small_along (get_or (drop k xs) n 0) (get_or xs (k + n) 0) (get_or-drop k xs n 0) (h (k + n))

pub IsBytes-zeros : (n : ℕ) → IsBytes (zeros n)
IsBytes-zeros n k = small_along (get_or (zeros n) k 0) 0 (get_or-zeros n k) (lit< tt)
