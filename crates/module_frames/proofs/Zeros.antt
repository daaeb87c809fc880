-- Buffers whose bytes past those in use are zero.
use Rattle.std.proofs.Common.{◌≡◌, ◌≤◌, ◌+◌, ◌-◌, ◌++◌, ℕ, List, length, take, drop, replicate, sym, ◌∙◌, ap, arith}
use Rattle.std.proofs.lemmas.List.{drop_at, drop-drop, drop-replicate, replicate-append-replicate, length-take-le, append_assoc, length-append, length-drop}

-- after the bytes in use became zero all are
pub all_zero : (bytes : List ℕ) (used room : ℕ) → used ≤ room → drop used bytes ≡ replicate (room - used) 0
    → replicate used 0 ++ drop used bytes ≡ replicate room 0
all_zero bytes used room h e =
    let whole : used + (room - used) ≡ room = omega arith in
    rw e (replicate-append-replicate used (room - used) 0 ∙ ap (λ n. replicate n 0) whole)

-- after a piece was put behind the bytes in use, those past it are zero
pub rest_zero : (bytes piece : List ℕ) (used room : ℕ) → used ≤ length bytes → drop used bytes ≡ replicate (room - used) 0
    → drop (used + length piece) (take used bytes ++ (piece ++ drop (used + length piece) bytes)) ≡ replicate (room - (used + length piece)) 0
rest_zero bytes piece used room h e =
    let long : length (take used bytes ++ piece) ≡ used + length piece = length-append (take used bytes) piece ∙ ap (λ n. n + length piece) (length-take-le used bytes h) in
    let less : room - used - length piece ≡ room - (used + length piece) = omega arith in
    ap (λ xs. drop (used + length piece) xs) (sym (append_assoc (take used bytes) piece (drop (used + length piece) bytes)))
    ∙ drop_at (take used bytes ++ piece) (drop (used + length piece) bytes) (used + length piece) long
    ∙ sym (drop-drop (length piece) used bytes)
    ∙ ap (λ xs. drop (length piece) xs) e
    ∙ drop-replicate (length piece) (room - used) 0
    ∙ ap (λ n. replicate n 0) less

-- such a put keeps the length
pub put_keeps_length : (bytes piece : List ℕ) (used : ℕ) → used + length piece ≤ length bytes
    → length (take used bytes ++ (piece ++ drop (used + length piece) bytes)) ≡ length bytes
put_keeps_length bytes piece used h =
    simp (length-append, length-drop) (omega (arith, length-take-le used bytes (omega arith)))
