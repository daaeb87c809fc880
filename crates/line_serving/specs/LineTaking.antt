-- What becomes of a line that is held, as pieces of a stream come.
use Rattle.std.specs.Prelude.{◌≡◌, ◌≤◌, ◌<◌, ◌++◌, ℕ, List, [], false, true, length, take, if◌then◌else◌}
use Rattle.line_input.specs.TextLines.{HasNoLineFeed, ended_line}
use Rattle.line_input.specs.HeldLines.{HeldLine, IsLineText, no_line}
use Rattle.module_frames.specs.CommandFrames.{CommandFrame}
use Rattle.operator_text.specs.Spelling.{Spells, IsComment, cleared_command}
use Rattle.line_serving.specs.declared.taking.Taken.{Taken}
use Rattle.line_serving.specs.declared.taking.Taken.TheVariants as taken
use Rattle.command_lines.specs.CommandLines.{BeginsBad}

-- the bytes that are held: the text of a line, and its LF where the line stands
abbrev pub held_bytes : HeldLine → List ℕ
held_bytes line = if line.whole then ended_line line.text else line.text

-- a line may go on with what is held: none stands, and none was too long
pub record IsUnfinished (line : HeldLine) : Type 0 where
  pub stands : line.whole ≡ false
  pub not_refused : line.too_long ≡ false
  pub no_feed : HasNoLineFeed line.text

-- so many bytes of a piece were taken, at least one, and with them this is a whole line
pub record EndsLine (held piece : List ℕ) (count : ℕ) (line : List ℕ) : Type 0 where
  pub some : 0 < count
  pub within : count ≤ length piece
  pub whole : held ++ take count piece ≡ ended_line line
  pub no_feed : HasNoLineFeed line

-- what is answered to a piece, and what is held then, with the command of a line that stands, or no command
abbrev pub TakesLine : HeldLine → List ℕ → Taken → HeldLine → CommandFrame → Type 0
-- all was taken, and the line may go on
TakesLine old piece taken.More new command = (new ≡ record old { text = old.text ++ piece }) × IsLineText new.text × (command ≡ cleared_command)
-- so many bytes were taken, and the line that stands spells the command
TakesLine old piece (taken.Command count) new command =
    EndsLine old.text piece count new.text × (new ≡ record old { text = new.text; whole = true }) × Spells new.text command
-- so many bytes were taken, and were the end of a comment
TakesLine old piece (taken.Comment count) new command = (line : List ℕ) × EndsLine old.text piece count line × IsComment line × (new ≡ no_line) × (command ≡ cleared_command)
-- the bytes begin with a bad line, and none of it is held
TakesLine old piece taken.Bad new command = BeginsBad (old.text ++ piece) × (new.text ≡ []) × (new.whole ≡ false) × (command ≡ cleared_command)
