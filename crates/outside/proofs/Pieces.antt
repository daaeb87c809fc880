use Rattle.std.proofs.Common.{◌≡◌, ◌+◌, ◌≤◌, ◌++◌, ℕ, List, take, drop, length, sym, ◌∙◌, ap, arith, length-drop}
use Rattle.std.proofs.lemmas.List.{take-append-drop, take_at, drop-drop, length-take-le}

-- what was copied to the front of a buffer, and what is left
pub piece_left : (all into copied : List ℕ) (at count : ℕ) → at + count ≤ length all → copied ≡ take count (drop at all)
    → drop at all ≡ take count (copied ++ into) ++ drop (at + count) all
piece_left all into copied at count fits e =
    let long : length copied ≡ count = rw e (length-take-le count (drop at all) (omega (arith, length-drop at all))) in
    rw (take_at copied into count long, e) (sym (take-append-drop count (drop at all)) ∙ ap (λ xs. take count (drop at all) ++ xs) (drop-drop count at all))
