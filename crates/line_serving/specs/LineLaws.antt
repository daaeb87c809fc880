-- What the faults of lines are, and how a stream of lines ends.
use Rattle.std.specs.Prelude.{◌≡◌, ◌+◌, ◌⊎◌, ◌↔◌, ℕ, List, [], Some}
use Rattle.module_frames.specs.CommandFrames.{CommandFrame}
use Rattle.command_serving.specs.declared.serving.Ended.TheVariants as ended
use Rattle.command_serving.specs.Grammars.{IsParse}
use Rattle.command_serving.specs.Run.{ending_of}
use Rattle.command_lines.specs.CommandLines.{BeginsBad}
use Rattle.line_serving.specs.LineGrammar.{line_grammar}

-- a fault shows exactly where the bytes begin with a bad line, and is their first
abbrev pub FaultsAreBadLines : Type 0
FaultsAreBadLines = (bytes : List ℕ) (number : ℕ) → (line_grammar.first_fault bytes ≡ Some number) ↔ ((number ≡ 1) × BeginsBad bytes)

-- A stream that leaves this remainder with this start ends well, with nothing left, or by the bad line that begins the remainder.
abbrev pub EndsByItsLines : ℕ → List ℕ → Type 0
EndsByItsLines start remainder =
    ((remainder ≡ []) × (ending_of line_grammar start remainder ≡ ended.End)) ⊎ (BeginsBad remainder × (ending_of line_grammar start remainder ≡ ended.BadFrame (start + 1)))

-- a source that was read to its end never ends inside a line
abbrev pub LinesAreNeverTruncated : Type 0
LinesAreNeverTruncated = (bytes : List ℕ) (commands : List CommandFrame) (remainder : List ℕ) (start : ℕ) → IsParse line_grammar (line_grammar.at_end bytes) commands remainder
    → EndsByItsLines start remainder
