-- The report of bytes.
use Rattle.std.specs.Prelude.{◌≡◌, ◌==◌, ℕ, Bool, true, false, if◌then◌else◌, List, [], ◌∷◌, ◌++◌, length}
use Rattle.engine_core.specs.Calls.{Calls}
use Rattle.line_input.specs.TextLines.{SplitsInto}
use Rattle.vector_suite.specs.declared.lines.VectorRead.{VectorRead}
use Rattle.vector_reports.specs.Findings.{LinesFound, is_too_long, lines_found}
use Rattle.vector_reports.specs.ReportText.{has_bad, passed_in, checked_in}
use Rattle.vector_reports.specs.declared.reporting.Reported.{Reported}
use Rattle.vector_reports.specs.declared.reporting.Reported.TheVariants.{AllPassed, SomeFailed, BadLine}

-- What is read of the bytes behind the last LF: where the source has ended behind them they are a line, unless there are none; where it
-- may go on, a bad line if they are too many already, and else no line yet.
abbrev pub remainder_lines : Bool → List ℕ → List (List ℕ)
remainder_lines true [] = []
remainder_lines true (byte ∷ remainder) = (byte ∷ remainder) ∷ []
remainder_lines false remainder = if is_too_long remainder then remainder ∷ [] else []

-- Bytes, behind which the source has ended or not, have lines that are found to be these, from one engine to another.
pub record IsVectorReport {V : Type 0} (calls : Calls V) (v : V) (ended : Bool) (bytes : List ℕ) (reads : List VectorRead) (w : V) : Type 0 where
  pub lines : List (List ℕ)
  pub remainder : List ℕ
  pub split : SplitsInto bytes lines remainder
  pub found : lines_found calls v (lines ++ remainder_lines ended remainder) ≡ record { reads = reads; engine = w }

-- a bad line, which is the last that was read and has that number; without one the other end
abbrev pub bad_line_or : List VectorRead → Reported → Reported
bad_line_or reads other = if has_bad reads then BadLine (length reads) else other

-- how a source ends that was read to its end
abbrev pub verdict_of : List VectorRead → Reported
verdict_of reads = bad_line_or reads (if passed_in reads == checked_in reads then AllPassed else SomeFailed)
