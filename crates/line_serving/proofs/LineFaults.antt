-- The faults of lines, and how a stream of lines ends.
use Rattle.std.proofs.Common.{◌≡◌, ◌+◌, inl, inr, ℕ, List, [], ◌∷◌, Option, Some, None, refl, ap}
use Rattle.std.specs.Option.{option_map, option_map_or}
use Rattle.module_frames.specs.CommandFrames.{CommandFrame}
use Rattle.command_serving.specs.declared.serving.Ended.TheVariants as ended
use Rattle.command_serving.specs.Grammars.{IsParse}
use Rattle.command_lines.specs.CommandLines.{BeginsBad}
use Rattle.command_lines.proofs.Faults as faults
use Rattle.line_serving.specs.LineGrammar.{begins_bad, line_grammar}
use Rattle.line_serving.specs.LineLaws.{EndsByItsLines}

pub bad_shows : (bytes : List ℕ) → BeginsBad bytes → line_grammar.first_fault bytes ≡ Some 1
unfolding begins_bad
bad_shows bytes bad = faults.bad_shows bytes bad

pub none_shows : (bytes : List ℕ) → (BeginsBad bytes → ⊥) → line_grammar.first_fault bytes ≡ None
unfolding begins_bad
none_shows bytes none = faults.none_shows bytes none

-- a fault that shows is a bad line, and has the number 1
pub shown_bad : (bytes : List ℕ) (number : ℕ) → line_grammar.first_fault bytes ≡ Some number → (number ≡ 1) × BeginsBad bytes
unfolding begins_bad
shown_bad bytes number shows = faults.shown_bad bytes number shows

pub none_shown : (bytes : List ℕ) → line_grammar.first_fault bytes ≡ None → BeginsBad bytes → ⊥
unfolding begins_bad
none_shown bytes none bad = faults.none_shown bytes none bad

-- what is left at the end of a source is nothing, or shows a fault
pub lines_end : (bytes : List ℕ) (commands : List CommandFrame) (remainder : List ℕ) (start : ℕ) → IsParse line_grammar (line_grammar.at_end bytes) commands remainder
    → EndsByItsLines start remainder
lines_end bytes commands [] start parses = inl (refl, refl)
lines_end bytes commands (byte ∷ remainder) start parses =
    let bad = faults.left_is_bad bytes parses.front byte remainder parses.whole parses.unfinished in
    inr (bad, ap (λ (fault : Option ℕ). option_map_or (λ number. ended.BadFrame number) (option_map (λ number. start + number) fault) ended.Truncated) (bad_shows (byte ∷ remainder) bad))
