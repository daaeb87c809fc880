-- What lines find, one after the other, up to the first bad one.
use Rattle.std.specs.Prelude.{ℕ, nat_lt, Bool, true, false, if◌then◌else◌, List, [], ◌∷◌, length}
use Rattle.engine_core.specs.Calls.{Calls}
use Rattle.line_input.specs.declared.limits.TheConstants.{LARGEST_LINE}
use Rattle.vector_suite.specs.Lines.{Found, line_found}
use Rattle.vector_suite.specs.declared.lines.VectorRead.{VectorRead}
use Rattle.vector_suite.specs.declared.lines.VectorRead.TheVariants.{Pass, Fail, Comment, Bad}

abbrev pub is_too_long : List ℕ → Bool
is_too_long line = nat_lt LARGEST_LINE (length line)

-- what a line finds; one that is too long is bad, whatever it is
abbrev pub read_line : {V : Type 0} → Calls V → V → List ℕ → Found V
read_line calls v line = if is_too_long line then record { read = Bad; engine = v } else line_found calls v line

abbrev pub is_bad : VectorRead → Bool
is_bad Pass = false
is_bad Fail = false
is_bad Comment = false
is_bad Bad = true

-- what lines are found to be, and the engine that they leave
pub record LinesFound (V : Type 0) : Type 0 where
  pub reads : List VectorRead
  pub engine : V

abbrev pub with_read : {V : Type 0} → VectorRead → LinesFound V → LinesFound V
with_read read found = record { reads = read ∷ found.reads; engine = found.engine }

-- Each line's calls are made on the engine that the earlier lines left. No line is read behind a bad one.
unfoldable pub lines_found : {V : Type 0} → Calls V → V → List (List ℕ) → LinesFound V
lines_found calls v [] = record { reads = []; engine = v }
lines_found calls v (line ∷ lines) =
    let first = read_line calls v line in
    with_read first.read (if is_bad first.read then record { reads = []; engine = first.engine } else lines_found calls first.engine lines)
