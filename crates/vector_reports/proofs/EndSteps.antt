-- What is reported at a source's end.
use Rattle.std.proofs.Common.{◌↔◌, ◌==◌, if◌then◌else◌, IsTrue, ◌≡◌, ◌≢◌, ◌+◌, ◌⊎◌, inl, inr, ℕ, Bool, true, false, List, [], ◌∷◌, ◌++◌, append-nil, refl, sym, ◌∙◌, ap, subst, arith}
use Rattle.std.proofs.lemmas.Bool.{cases_Bool}
use Rattle.engine_core.specs.Calls.{Calls}
use Rattle.vector_suite.specs.declared.lines.VectorRead.{VectorRead}
use Rattle.vector_suite.specs.declared.lines.VectorRead.TheVariants.{Bad}
use Rattle.vector_reports.specs.declared.reporting.Reported.TheVariants.{AllPassed, SomeFailed, BadLine}
use Rattle.vector_reports.specs.declared.tally.Tally.{Tally}
use Rattle.vector_reports.specs.Findings.{LinesFound, is_bad, read_line, with_read, lines_found}
use Rattle.vector_reports.specs.ReportText.{report_line, report_lines, last_line, has_bad}
use Rattle.vector_reports.specs.VectorReports.{remainder_lines}
use Rattle.vector_reports.specs.Progress.{ReportState, EndChecked, tally_after, closing_line, closing_answer}
use Rattle.vector_reports.proofs.LineReads.{found_none, found_more, found_bad}
use Rattle.vector_reports.proofs.ReportLines.{report_none, report_one, tally_none}

-- one line
pub found_one : {V : Type 0} (calls : Calls V) (v : V) (line : List ℕ)
    → lines_found calls v (line ∷ []) ≡ record { reads = (read_line calls v line).read ∷ []; engine = (read_line calls v line).engine }
found_one calls v line =
    let found = read_line calls v line in
    elim (cases_Bool (is_bad found.read)) [
      | inl bad ↦ found_bad calls v line [] bad
      | inr good ↦ found_more calls v line [] good ∙ ap (λ f. with_read found.read f) (found_none calls found.engine)
    ]

one_remainder : (held : List ℕ) → held ≢ [] → remainder_lines true held ≡ held ∷ []
one_remainder [] some = absurd (some refl)
one_remainder (byte ∷ held) some = refl

-- nothing is held
pub end_none : {V : Type 0} (calls : Calls V) (before : ReportState V) (held : List ℕ) → held ≡ [] → EndChecked calls before held [] before.engine (last_line before.tally.passed before.tally.checked)
end_none {V} calls before held none = record {
  found = ap (λ xs. lines_found calls before.engine (remainder_lines true xs)) none ∙ found_none calls before.engine;
  is_report = sym (ap (λ xs. xs ++ closing_line (tally_after before.tally []) []) (report_none before.tally.lines) ∙ ap (λ (t : Tally). last_line t.passed t.checked) (tally_none before.tally));
}

-- the last line is held
pub end_line : {V : Type 0} (calls : Calls V) (before : ReportState V) (held : List ℕ) → held ≢ []
    → (let found = read_line calls before.engine held in
    EndChecked calls before held (found.read ∷ []) found.engine (report_line (before.tally.lines + 1) found.read ++ closing_line (tally_after before.tally (found.read ∷ [])) (found.read ∷ [])))
end_line calls before held some =
    let found = read_line calls before.engine held in record {
      found = ap (λ xs. lines_found calls before.engine xs) (one_remainder held some) ∙ found_one calls before.engine held;
      is_report = ap (λ xs. xs ++ closing_line (tally_after before.tally (found.read ∷ [])) (found.read ∷ [])) (sym (report_one before.tally.lines found.read));
    }

-- nothing is held where no line stands at the end
pub nothing_held : (stands too_long : Bool) (held : List ℕ) → IsTrue stands ↔ ((held ≢ []) × (too_long ≡ false)) → stands ≡ false → too_long ≡ false → held ≡ []
nothing_held stands too_long [] h off clear = refl
nothing_held stands too_long (byte ∷ held) h off clear =
    absurd (let on : IsTrue stands = h.1 ((λ e. cc), clear) in let never : IsTrue false = rw off at on in cc)

-- behind a good line the last line is written by the numbers
pub closing_good : (tally now : Tally) (read : VectorRead) → is_bad read ≡ false → now ≡ tally_after tally (read ∷ []) → closing_line (tally_after tally (read ∷ [])) (read ∷ []) ≡ last_line now.passed now.checked
closing_good tally now read good is = rw (good, is) refl

pub answer_good : (tally now : Tally) (read : VectorRead) → is_bad read ≡ false → now ≡ tally_after tally (read ∷ [])
    → (if now.passed == now.checked then AllPassed else SomeFailed) ≡ closing_answer (tally_after tally (read ∷ [])) (read ∷ [])
answer_good tally now read good is = rw (good, is) refl

pub answer_none : (tally : Tally) → (if tally.passed == tally.checked then AllPassed else SomeFailed) ≡ closing_answer (tally_after tally []) []
answer_none tally = ap (λ (t : Tally). if t.passed == t.checked then AllPassed else SomeFailed) (sym (tally_none tally))

-- and none behind a bad one
pub closing_bad : (tally : Tally) (read : VectorRead) → read ≡ Bad → closing_line (tally_after tally (read ∷ [])) (read ∷ []) ≡ []
closing_bad tally read bad = rw bad refl

pub answer_bad : (tally now : Tally) (read : VectorRead) → read ≡ Bad → now ≡ tally_after tally (read ∷ []) → BadLine now.lines ≡ closing_answer (tally_after tally (read ∷ [])) (read ∷ [])
answer_bad tally now read bad is = rw (bad, ap (λ (t : Tally). t.lines) is) refl
