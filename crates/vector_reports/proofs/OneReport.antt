-- Bytes have one report.
use Rattle.std.proofs.Common.{◌≡◌, inl, inr, ℕ, Bool, true, false, List, ◌++◌, sym, ◌∙◌, ap, length, take}
use Rattle.std.proofs.lemmas.Bool.{cases_lt}
use Rattle.engine_core.specs.Calls.{Calls}
use Rattle.line_input.proofs.LineFeeds.{one_way}
use Rattle.stream_calls.specs.declared.limits.TheConstants.{STREAM_MAX}
use Rattle.vector_suite.specs.declared.lines.VectorRead.{VectorRead}
use Rattle.vector_reports.specs.declared.reporting.Reported.{Reported}
use Rattle.vector_reports.specs.declared.reporting.Reported.TheVariants.{Limit}
use Rattle.vector_reports.specs.Findings.{LinesFound, lines_found}
use Rattle.vector_reports.specs.ReportText.{report_of}
use Rattle.vector_reports.specs.VectorReports.{IsVectorReport, remainder_lines, bad_line_or, verdict_of}
use Rattle.vector_reports.specs.Runs.{RunsVectors, HasOneReport}

-- the same bytes have the same lines, which find the same from the same engine
pub one_vector_report : {V : Type 0} (calls : Calls V) (v w w' : V) (ended : Bool) (bytes : List ℕ) (reads reads' : List VectorRead) → IsVectorReport calls v ended bytes reads w → IsVectorReport calls v ended bytes reads' w'
    → (reads ≡ reads') × (w ≡ w')
one_vector_report {V} calls v w w' ended bytes reads reads' one other =
    let same =
    one_way one.lines other.lines one.remainder other.remainder one.split.lines_whole other.split.lines_whole one.split.unfinished other.split.unfinished (sym one.split.ended ∙ other.split.ended) in
    let found : lines_found calls v (one.lines ++ remainder_lines ended one.remainder) ≡ lines_found calls v (other.lines ++ remainder_lines ended other.remainder) =
    ap (λ xs. lines_found calls v (xs ++ remainder_lines ended one.remainder)) same.0 ∙ ap (λ xs. lines_found calls v (other.lines ++ remainder_lines ended xs)) same.1 in (
      ap (λ (f : LinesFound V). f.reads) (sym one.found ∙ found ∙ other.found),
      ap (λ (f : LinesFound V). f.engine) (sym one.found ∙ found ∙ other.found),
    )

pub one_report : {V : Type 0} (calls : Calls V) (v : V) → HasOneReport calls v
one_report calls v bytes ending ending' out out' one other =
    elim (cases_lt (length bytes) STREAM_MAX) [
      | inl short ↦ (let a = one.short short in
          let b = other.short short in
          let same = one_vector_report calls v a.1 b.1 true bytes a.0 b.0 a.2 b.2 in
          (a.4 ∙ ap (λ reads. verdict_of reads) same.0 ∙ sym b.4, a.3 ∙ ap (λ reads. report_of reads) same.0 ∙ sym b.3))
      | inr long ↦ (let a = one.too_long long in
          let b = other.too_long long in
          let same = one_vector_report calls v a.1 b.1 false (take STREAM_MAX bytes) a.0 b.0 a.2 b.2 in
          (a.4 ∙ ap (λ reads. bad_line_or reads Limit) same.0 ∙ sym b.4, a.3 ∙ ap (λ reads. report_of reads) same.0 ∙ sym b.3))
    ]
