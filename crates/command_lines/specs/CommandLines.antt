-- The lines of a stream, and the commands that they make (a form of this project's own).
use Rattle.std.specs.Prelude.{◌≡◌, ◌⊎◌, ◌++◌, ◌==◌, ℕ, List, [], ◌∷◌}
use Rattle.std.specs.List.{flat_map, AllByRecursion, count_by}
use Rattle.line_input.specs.declared.limits.TheConstants.{LINE_FEED}
use Rattle.line_input.specs.TextLines.{HasNoLineFeed, ended_line}
use Rattle.line_input.specs.HeldLines.{BeginsTooLong}
use Rattle.module_frames.specs.CommandFrames.{CommandFrame}
use Rattle.operator_text.specs.Spelling.{Spells, IsComment}

-- The line is no comment and spells no command.
pub record IsBadLine (line : List ℕ) : Type 0 where
  pub no_comment : IsComment line → ⊥
  pub no_command : (command : CommandFrame) → Spells line command → ⊥

-- each of the lines is a comment, or spells the next of the commands
abbrev pub Make : List (List ℕ) → List CommandFrame → Type 0
Make [] [] = Unit {0}
Make [] (command ∷ commands) = ⊥
Make (line ∷ lines) [] = IsComment line × Make lines []
Make (line ∷ lines) (command ∷ commands) = (IsComment line × Make lines (command ∷ commands)) ⊎ (Spells line command × Make lines commands)

-- the bytes are whole lines, which make these commands
pub record AreCommandLines (bytes : List ℕ) (commands : List CommandFrame) : Type 0 where
  pub lines : List (List ℕ)
  pub ended : bytes ≡ flat_map ended_line lines
  pub lines_whole : AllByRecursion HasNoLineFeed lines
  pub make : Make lines commands

-- the bytes begin with no whole line, or with a bad one
abbrev pub BeginsNoGoodLine : List ℕ → Type 0
BeginsNoGoodLine bytes = (line rest : List ℕ) → HasNoLineFeed line → bytes ≡ ended_line line ++ rest → IsBadLine line

-- The bytes are whole lines that make these commands, and then a remainder that begins with no good line.
pub record ReadsAs (bytes : List ℕ) (commands : List CommandFrame) (remainder : List ℕ) : Type 0 where
  pub front : List ℕ
  pub whole : bytes ≡ front ++ remainder
  pub made : AreCommandLines front commands
  pub unfinished : BeginsNoGoodLine remainder

-- bytes make commands in one way
abbrev pub CommandsInOneWay : Type 0
CommandsInOneWay = (bytes : List ℕ) (ones others : List CommandFrame) (remainder left : List ℕ) → ReadsAs bytes ones remainder → ReadsAs bytes others left
    → (ones ≡ others) × (remainder ≡ left)

-- a whole line stands in front, and is bad
pub record BeginsWithBadLine (bytes : List ℕ) : Type 0 where
  pub line : List ℕ
  pub rest : List ℕ
  pub no_feed : HasNoLineFeed line
  pub parts : bytes ≡ ended_line line ++ rest
  pub bad : IsBadLine line

-- the bytes begin with a bad line: with a whole one, or with more bytes than a line has
abbrev pub BeginsBad : List ℕ → Type 0
BeginsBad bytes = BeginsTooLong bytes ⊎ BeginsWithBadLine bytes

-- how many lines end in the bytes
abbrev pub line_feeds : List ℕ → ℕ
line_feeds bytes = count_by (λ byte. byte == LINE_FEED) bytes
