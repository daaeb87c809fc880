-- The bytes to work in are zero, and so are those at their front, and those around zeros that were written there.
use Rattle.std.proofs.Common.{◌≡◌, ℕ, ◌+◌, ◌-◌, ◌≤◌, List, length, take, drop, ◌++◌, ap, ◌∙◌, arith}
use Rattle.std.proofs.lemmas.List.{length-take, take-replicate, drop-replicate}
use Rattle.bits_core.specs.ByteList.{zeros}
use Rattle.bits_core.proofs.ZeroPadding.{zeros-append-zeros}

pub front : (n : ℕ) (work : List ℕ) → n ≤ length work → work ≡ zeros (length work) → take n work ≡ zeros (length (take n work))
front n work fits zero =
    ap (take n) zero ∙ take-replicate n (length work) 0 fits
    ∙ ap zeros (let long : n ≡ length (take n work) = omega (arith, length-take n work) in long)

pub whole : (n : ℕ) (work : List ℕ) → n ≤ length work → work ≡ zeros (length work) → zeros n ++ drop n work ≡ zeros (length work)
whole n work fits zero =
    ap (λ (w : List ℕ). zeros n ++ drop n w) zero
    ∙ ap (λ (w : List ℕ). zeros n ++ w) (drop-replicate n (length work) 0)
    ∙ zeros-append-zeros n (length work - n)
    ∙ ap zeros (let e : n + (length work - n) ≡ length work = omega arith in e)
