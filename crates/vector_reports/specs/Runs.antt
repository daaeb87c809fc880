-- The report of a source's content.
use Rattle.std.specs.Prelude.{◌≡◌, ◌≤◌, ◌<◌, ℕ, true, false, List, length, take}
use Rattle.engine_core.specs.Calls.{Calls}
use Rattle.stream_calls.specs.declared.limits.TheConstants.{STREAM_MAX}
use Rattle.vector_suite.specs.declared.lines.VectorRead.{VectorRead}
use Rattle.vector_reports.specs.ReportText.{report_of}
use Rattle.vector_reports.specs.VectorReports.{IsVectorReport, bad_line_or, verdict_of}
use Rattle.vector_reports.specs.declared.reporting.Reported.{Reported}
use Rattle.vector_reports.specs.declared.reporting.Reported.TheVariants.{Limit}

-- The report of bytes from the engine v, how it ends and what is written: of fewer than 2^40 bytes as they are read once the source has
-- ended, of more the first 2^40.
pub record RunsVectors {V : Type 0} (calls : Calls V) (v : V) (bytes : List ℕ) (ending : Reported) (out : List ℕ) : Type 0 where
  pub short : length bytes < STREAM_MAX →
      (reads : List VectorRead) × (w : V) × IsVectorReport calls v true bytes reads w × (out ≡ report_of reads) × (ending ≡ verdict_of reads)
  pub too_long : STREAM_MAX ≤ length bytes →
      (reads : List VectorRead) × (w : V) × IsVectorReport calls v false (take STREAM_MAX bytes) reads w × (out ≡ report_of reads) × (ending ≡ bad_line_or reads Limit)

-- bytes have one report, and it ends in one way
abbrev pub HasOneReport : {V : Type 0} → Calls V → V → Type 0
HasOneReport calls v = (bytes : List ℕ) (one other : Reported) (out out' : List ℕ) → RunsVectors calls v bytes one out → RunsVectors calls v bytes other out' → (one ≡ other) × (out ≡ out')
