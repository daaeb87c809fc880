-- A line that is too long.
use Rattle.std.proofs.Common.{◌≡◌, ◌≤◌, ◌<◌, ◌+◌, ◌++◌, ℕ, List, length, take, drop, sym, ◌∙◌, ap, append_assoc, take-append-drop, arith}
use Rattle.std.proofs.lemmas.List.{length-take-le, length-append}
use Rattle.line_input.specs.TextLines.{HasNoLineFeed}
use Rattle.line_input.specs.HeldLines.{BeginsTooLong}
use Rattle.line_input.proofs.LineFeeds.{no_feed_both}

-- bytes of a line, and the front of a piece in which no LF stands
pub too_many : (text piece : List ℕ) (count : ℕ) → HasNoLineFeed text → HasNoLineFeed (take count piece) → count ≤ length piece → 131400 < length text + count
    → BeginsTooLong (text ++ piece)
too_many text piece count h k within many = record {
  front = text ++ take count piece;
  more = drop count piece;
  parts = ap (λ xs. text ++ xs) (sym (take-append-drop count piece)) ∙ sym (append_assoc text (take count piece) (drop count piece));
  no_feed = no_feed_both text (take count piece) h k;
  many = omega (arith, length-append text (take count piece), length-take-le count piece within);
}
