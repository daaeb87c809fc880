-- Reporting the lines of a chunk, and those at the source's end.
use Rattle.std.specs.Prelude.{◌≡◌, ◌==◌, ◌+◌, ◌≤◌, ◌++◌, ℕ, true, false, if◌then◌else◌, List, [], ◌∷◌, length, Option}
use Rattle.engine_core.specs.Calls.{Calls}
use Rattle.outside.specs.Contents.{Appends}
use Rattle.stream_calls.specs.PartialWrites.{AppendsPart}
use Rattle.line_input.specs.HeldLines.{HeldLine, IsLineText}
use Rattle.line_input.specs.TextLines.{SplitsInto}
use Rattle.vector_suite.specs.declared.lines.VectorRead.{VectorRead}
use Rattle.vector_suite.specs.declared.lines.VectorRead.TheVariants.{Bad}
use Rattle.vector_reports.specs.declared.tally.Tally.{Tally}
use Rattle.vector_reports.specs.Findings.{read_line, lines_found}
use Rattle.vector_reports.specs.ReportText.{report_lines, last_line, checked_in, passed_in, has_bad}
use Rattle.vector_reports.specs.VectorReports.{remainder_lines}
use Rattle.vector_reports.specs.declared.reporting.Reported.{Reported}
use Rattle.vector_reports.specs.declared.reporting.Reported.TheVariants.{AllPassed, SomeFailed, BadLine}

-- the numbers after more lines
abbrev pub tally_after : Tally → List VectorRead → Tally
tally_after tally reads = record { lines = tally.lines + length reads; checked = tally.checked + checked_in reads; passed = tally.passed + passed_in reads }

-- no more passed than were checked, and no more were checked than there are lines, of which there are at most so many
pub record IsTally (tally : Tally) (most : ℕ) : Type 0 where
  pub passed : tally.passed ≤ tally.checked
  pub checked : tally.checked ≤ tally.lines
  pub within : tally.lines ≤ most

-- what reporting works on: the engine, the numbers, and what the sink gained
pub record ReportState (V : Type 0) : Type 0 where
  pub engine : V
  pub tally : Tally
  pub gained : Option (List ℕ)

-- the beginning of a line is held, and no line was too long
pub record IsLineBegun (held : HeldLine) : Type 0 where
  pub not_whole : held.whole ≡ false
  pub not_refused : held.too_long ≡ false
  pub text : IsLineText held.text

-- with bytes held a chunk was reported, in which no line is bad, and other bytes are held
pub record ChunkReported {V : Type 0} (calls : Calls V) (before : ReportState V) (held chunk : List ℕ) (after : ReportState V) (remainder : List ℕ) : Type 0 where
  pub lines : List (List ℕ)
  pub reads : List VectorRead
  pub split : SplitsInto (held ++ chunk) lines remainder
  pub found : lines_found calls before.engine lines ≡ record { reads = reads; engine = after.engine }
  pub none_bad : has_bad reads ≡ false
  pub tally : after.tally ≡ tally_after before.tally reads
  pub written : Appends before.gained (report_lines before.tally.lines reads) after.gained

-- With bytes held the lines of a chunk were checked up to this one, which was found to be so; these bytes are their report. The source
-- may go on behind the chunk.
pub record CheckedUpTo {V : Type 0} (calls : Calls V) (before : ReportState V) (held chunk : List ℕ) (read : VectorRead) (after : ReportState V) (out : List ℕ) : Type 0 where
  pub lines : List (List ℕ)
  pub line : List ℕ
  pub more : List (List ℕ)
  pub whole_lines : List (List ℕ)
  pub remainder : List ℕ
  pub split : SplitsInto (held ++ chunk) whole_lines remainder
  pub parts : whole_lines ++ remainder_lines false remainder ≡ lines ++ line ∷ more
  pub reads : List VectorRead
  pub engine : V
  pub found : lines_found calls before.engine lines ≡ record { reads = reads; engine = engine }
  pub none_bad : has_bad reads ≡ false
  pub line_found : read_line calls engine line ≡ record { read = read; engine = after.engine }
  pub tally : after.tally ≡ tally_after before.tally (reads ++ read ∷ [])
  pub is_report : out ≡ report_lines before.tally.lines (reads ++ read ∷ [])

-- a chunk was reported up to a bad line
abbrev pub BadLineReported : {V : Type 0} → Calls V → ReportState V → (held chunk : List ℕ) → ReportState V → Type 0
BadLineReported calls before held chunk after = (out : List ℕ) × CheckedUpTo calls before held chunk Bad after out × Appends before.gained out after.gained

-- a chunk was reported up to a failed write
abbrev pub ReportLineCutOff : {V : Type 0} → Calls V → ReportState V → (held chunk : List ℕ) → ReportState V → Type 0
ReportLineCutOff calls before held chunk after = (read : VectorRead) × (out : List ℕ) × CheckedUpTo calls before held chunk read after out × AppendsPart before.gained out after.gained

-- the report's last line by these numbers, which isn't written behind a bad line
abbrev pub closing_line : Tally → List VectorRead → List ℕ
closing_line tally reads = if has_bad reads then [] else last_line tally.passed tally.checked

-- how it ends by these numbers
abbrev pub closing_answer : Tally → List VectorRead → Reported
closing_answer tally reads = if has_bad reads then BadLine tally.lines else if tally.passed == tally.checked then AllPassed else SomeFailed

-- with bytes held the source's end was read, and these bytes are the rest of the report
pub record EndChecked {V : Type 0} (calls : Calls V) (before : ReportState V) (held : List ℕ) (reads : List VectorRead) (engine : V) (out : List ℕ) : Type 0 where
  pub found : lines_found calls before.engine (remainder_lines true held) ≡ record { reads = reads; engine = engine }
  pub is_report : out ≡ report_lines before.tally.lines reads ++ closing_line (tally_after before.tally reads) reads

-- the rest of the report was written
abbrev pub EndReported : {V : Type 0} → Calls V → ReportState V → List ℕ → Reported → V → Option (List ℕ) → Type 0
EndReported calls before held answer engine gained =
    (reads : List VectorRead) × (out : List ℕ) × EndChecked calls before held reads engine out × Appends before.gained out gained × (answer ≡ closing_answer (tally_after before.tally reads) reads)

-- a part of it was written
abbrev pub EndCutOff : {V : Type 0} → Calls V → ReportState V → List ℕ → V → Option (List ℕ) → Type 0
EndCutOff calls before held engine gained = (reads : List VectorRead) × (out : List ℕ) × EndChecked calls before held reads engine out × AppendsPart before.gained out gained
