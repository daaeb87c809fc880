-- Single lines as units of the grammar.
use Rattle.std.proofs.Common.{◌≡◌, ◌<◌, ◌+◌, inl, inr, ◌++◌, ◌==◌, ℕ, zero, suc, Bool, true, false, List, [], ◌∷◌, length, take, drop, refl, sym, ◌∙◌, ap, subst, append-nil, append_assoc, arith, if◌then◌else◌}
use Rattle.std.specs.List.{flat_map}
use Rattle.std.proofs.lemmas.List.{length-append, take-append-drop}
use Rattle.std.proofs.lemmas.List.Sums.{sum_by-append}
use Rattle.std.proofs.lemmas.Bool.Decides.{Decides-eqb}
use Rattle.line_input.specs.declared.limits.TheConstants.{LINE_FEED}
use Rattle.line_input.specs.TextLines.{HasNoLineFeed, ended_line}
use Rattle.line_input.specs.HeldLines.{IsLineText}
use Rattle.module_frames.specs.CommandFrames.{CommandFrame}
use Rattle.operator_text.specs.Spelling.{Spells, IsComment}
use Rattle.command_lines.specs.CommandLines.{AreCommandLines, Make, BeginsNoGoodLine, BeginsBad, IsBadLine, line_feeds}
use Rattle.command_lines.proofs.FirstLines.{feed_between, first_apart}

-- the line of a command is a unit
pub spelled_unit : (line : List ℕ) (command : CommandFrame) → HasNoLineFeed line → Spells line command → AreCommandLines (ended_line line) (command ∷ [])
spelled_unit line command no_feed spelled =
    record { lines = line ∷ []; ended = sym (append-nil (ended_line line)); lines_whole = (no_feed, tt); make = inr (spelled, tt) }

-- a comment is a unit, and makes no command
pub comment_unit : (line : List ℕ) → HasNoLineFeed line → IsComment line → AreCommandLines (ended_line line) []
comment_unit line no_feed comment = record { lines = line ∷ []; ended = sym (append-nil (ended_line line)); lines_whole = (no_feed, tt); make = (comment, tt) }

-- bytes without an LF have no whole line
no_line_in : (text line rest : List ℕ) → HasNoLineFeed text → text ≡ ended_line line ++ rest → ⊥
no_line_in text line rest none parts = feed_between line rest (subst HasNoLineFeed (parts ∙ first_apart line rest) none)

pub text_begins_no_line : (text : List ℕ) → HasNoLineFeed text → BeginsNoGoodLine text
text_begins_no_line text none line rest no_feed parts = absurd (no_line_in text line rest none parts)

-- a line may go on with them, unless they are too many
pub text_is_not_bad : (text : List ℕ) → IsLineText text → BeginsBad text → ⊥
text_is_not_bad text is (inl long) =
    let whole = ap length long.parts in
    let sum = length-append long.front long.more in
    let many = long.many in
    let within = is.within in
    absurd (omega (arith, whole, sum, many, within))
text_is_not_bad text is (inr bad) = no_line_in text bad.line bad.rest is.no_feed bad.parts

-- they make no command
pub text_makes_none : (text : List ℕ) (command : CommandFrame) → HasNoLineFeed text → AreCommandLines text (command ∷ []) → ⊥
text_makes_none text command none units = by_lines units.lines units.ended units.make
  where
    by_lines : (lines : List (List ℕ)) → text ≡ flat_map ended_line lines → Make lines (command ∷ []) → ⊥
    by_lines [] ended make = make
    by_lines (line ∷ lines) ended make = no_line_in text line (flat_map ended_line lines) none ended

-- a line that spells a command isn't bad
pub good_line_begins : (line : List ℕ) (command : CommandFrame) → HasNoLineFeed line → Spells line command → BeginsNoGoodLine (ended_line line) → ⊥
good_line_begins line command no_feed spelled begins = (begins line [] no_feed (sym (append-nil (ended_line line)))).no_command command spelled

-- the end of a line takes at least one byte
pub end_takes_some : (text piece line : List ℕ) (count : ℕ) → HasNoLineFeed text → text ++ take count piece ≡ ended_line line → 0 < count
end_takes_some text piece line zero none whole = absurd (no_line_in text line [] none (sym (append-nil text) ∙ whole ∙ sym (append-nil (ended_line line))))
end_takes_some text piece line (suc count) none whole = omega arith

-- no line ends in bytes without an LF
pub no_feeds : (text : List ℕ) → HasNoLineFeed text → line_feeds text ≡ 0
no_feeds [] none = refl
no_feeds (byte ∷ text) none = by_test (byte == LINE_FEED) refl (no_feeds text none.1)
  where
    by_test : (test : Bool) → (byte == LINE_FEED) ≡ test → line_feeds text ≡ 0 → line_feeds (byte ∷ text) ≡ 0
    by_test true e later = absurd (none.0 ((Decides-eqb byte LINE_FEED).0 e))
    by_test false e later = rw e later

-- one ends in a line with its LF
pub one_feed : (line : List ℕ) → HasNoLineFeed line → line_feeds (ended_line line) ≡ 1
one_feed line none = sum_by-append (λ byte. if byte == LINE_FEED then 1 else 0) line (LINE_FEED ∷ []) ∙ ap (λ n. n + 1) (no_feeds line none)

-- a bad line that a piece ends is one with which the bytes begin
pub bad_line_shows : (text piece line : List ℕ) (count : ℕ) → HasNoLineFeed line → text ++ take count piece ≡ ended_line line → IsBadLine line → BeginsBad (text ++ piece)
bad_line_shows text piece line count no_feed whole bad = inr (record {
  line = line;
  rest = drop count piece;
  no_feed = no_feed;
  parts = ap (λ xs. text ++ xs) (sym (take-append-drop count piece)) ∙ sym (append_assoc text (take count piece) (drop count piece)) ∙ ap (λ xs. xs ++ drop count piece) whole;
  bad = bad;
})
