-- A buffer whose bytes past those in use are zero, into which a piece is put behind them, or whose bytes in use become zero.
use Rattle.std.proofs.Common.{◌≡◌, ◌≤◌, ◌+◌, ◌-◌, ◌++◌, ℕ, List, length, take, drop, sym, ◌∙◌, ap, arith}
use Rattle.std.proofs.lemmas.List.{drop_at, take_at, length-take-le, append_assoc, length-append, length-drop, drop-drop, drop-replicate, replicate-append-replicate}
use Rattle.bits_core.specs.ByteList.{zeros}

abbrev pub with_piece : List ℕ → List ℕ → ℕ → List ℕ
with_piece bytes piece used = take used bytes ++ (piece ++ drop (used + length piece) bytes)

pub put_length : (bytes piece : List ℕ) (used : ℕ) → used + length piece ≤ length bytes → length (with_piece bytes piece used) ≡ length bytes
put_length bytes piece used h = simp (length-append, length-drop) (omega (arith, length-take-le used bytes (omega arith)))

front_length : (bytes piece : List ℕ) (used : ℕ) → used ≤ length bytes → length (take used bytes ++ piece) ≡ used + length piece
front_length bytes piece used h = length-append (take used bytes) piece ∙ ap (λ n. n + length piece) (length-take-le used bytes h)

pub put_take : (bytes piece : List ℕ) (used : ℕ) → used ≤ length bytes → take (used + length piece) (with_piece bytes piece used) ≡ take used bytes ++ piece
put_take bytes piece used h =
    ap (take (used + length piece)) (sym (append_assoc (take used bytes) piece (drop (used + length piece) bytes)))
    ∙ take_at (take used bytes ++ piece) (drop (used + length piece) bytes) (used + length piece) (front_length bytes piece used h)

-- what stands behind the piece is still zero
pub put_spare : (bytes piece : List ℕ) (used room : ℕ) → used ≤ length bytes → drop used bytes ≡ zeros (room - used)
    → drop (used + length piece) (with_piece bytes piece used) ≡ zeros (room - (used + length piece))
put_spare bytes piece used room h e =
    let less : room - used - length piece ≡ room - (used + length piece) = omega arith in
    ap (drop (used + length piece)) (sym (append_assoc (take used bytes) piece (drop (used + length piece) bytes)))
    ∙ drop_at (take used bytes ++ piece) (drop (used + length piece) bytes) (used + length piece) (front_length bytes piece used h)
    ∙ sym (drop-drop (length piece) used bytes)
    ∙ ap (drop (length piece)) e
    ∙ drop-replicate (length piece) (room - used) 0
    ∙ ap zeros less

-- after the bytes in use became zero all are
pub all_zero : (bytes : List ℕ) (used room : ℕ) → used ≤ room → drop used bytes ≡ zeros (room - used) → zeros used ++ drop used bytes ≡ zeros room
all_zero bytes used room h e =
    let whole : used + (room - used) ≡ room = omega arith in
    rw e (replicate-append-replicate used (room - used) 0 ∙ ap zeros whole)
