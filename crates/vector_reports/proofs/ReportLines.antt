-- The text and the numbers of reads in two parts.
use Rattle.std.proofs.Common.{◌≡◌, ◌+◌, ℕ, Bool, List, [], ◌∷◌, ◌++◌, append_assoc, append-nil, refl, sym, ◌∙◌, ap, length, length-append, arith}
use Rattle.std.proofs.lemmas.List.Sums.{sum_by-append, sum_by-cons, count_by-le-length}
use Rattle.std.specs.Prelude.{count_by, ◌≤◌}
use Rattle.std.specs.Prelude.{cond}
use Rattle.vector_suite.specs.declared.lines.VectorRead.{VectorRead}
use Rattle.vector_suite.specs.declared.lines.VectorRead.TheVariants.{Pass, Fail, Comment, Bad}
use Rattle.vector_reports.specs.declared.tally.Tally.{Tally}
use Rattle.vector_reports.specs.Progress.{IsTally, tally_after}
use Rattle.vector_reports.specs.ReportText.{report_line, report_lines, is_pass, is_vector, checked_in, passed_in}

pub report_none : (before : ℕ) → report_lines before [] ≡ []
unfolding report_lines
report_none before = refl

report_more : (before : ℕ) (read : VectorRead) (reads : List VectorRead) → report_lines before (read ∷ reads) ≡ report_line (before + 1) read ++ report_lines (before + 1) reads
unfolding report_lines
report_more before read reads = refl

pub report_one : (before : ℕ) (read : VectorRead) → report_lines before (read ∷ []) ≡ report_line (before + 1) read
report_one before read = report_more before read [] ∙ ap (λ xs. report_line (before + 1) read ++ xs) (report_none (before + 1)) ∙ append-nil (report_line (before + 1) read)

pub report_both : (before : ℕ) (a b : List VectorRead) → report_lines before (a ++ b) ≡ report_lines before a ++ report_lines (before + length a) b
report_both before [] b =
    let none : before + 0 ≡ before = omega arith in
    rw (none, report_none before) refl
report_both before (read ∷ a) b =
    let next : (before + 1) + length a ≡ before + length (read ∷ a) = omega arith in
    report_more before read (a ++ b)
    ∙ ap (λ xs. report_line (before + 1) read ++ xs) (report_both (before + 1) a b ∙ ap (λ n. report_lines (before + 1) a ++ report_lines n b) next)
    ∙ sym (append_assoc (report_line (before + 1) read) (report_lines (before + 1) a) (report_lines (before + length (read ∷ a)) b))
    ∙ ap (λ xs. xs ++ report_lines (before + length (read ∷ a)) b) (sym (report_more before read a))

abbrev pub tally_of : (lines checked passed : ℕ) → Tally
tally_of lines checked passed = record { lines = lines; checked = checked; passed = passed }

same_tally : (lines lines' checked checked' passed passed' : ℕ) → lines ≡ lines' → checked ≡ checked' → passed ≡ passed'
    → tally_of lines checked passed ≡ tally_of lines' checked' passed'
same_tally lines lines' checked checked' passed passed' l c p = rw (l, c, p) refl

count_both : (p : VectorRead → Bool) (a b : List VectorRead) → count_by p (a ++ b) ≡ count_by p a + count_by p b
count_both p a b = sum_by-append (λ read. cond (p read) 1 0) a b

pub tally_none : (tally : Tally) → tally_after tally [] ≡ tally
tally_none tally = same_tally (tally.lines + 0) tally.lines (tally.checked + 0) tally.checked (tally.passed + 0) tally.passed (omega arith) (omega arith) (omega arith)

-- at a report's beginning
abbrev pub no_lines : Tally
no_lines = record { lines = 0; checked = 0; passed = 0 }

pub tally_from_none : (reads : List VectorRead) → tally_after no_lines reads ≡ tally_of (length reads) (checked_in reads) (passed_in reads)
tally_from_none reads = same_tally _ _ _ _ _ _ (omega arith) (omega arith) (omega arith)

pub tally_both : (tally : Tally) (a b : List VectorRead) → tally_after (tally_after tally a) b ≡ tally_after tally (a ++ b)
tally_both tally a b = same_tally _ _ _ _ _ _
    (omega (arith, length-append a b)) (omega (arith, count_both is_vector a b)) (omega (arith, count_both is_pass a b))

count_more : (p : VectorRead → Bool) (read : VectorRead) (reads : List VectorRead) → count_by p (read ∷ reads) ≡ cond (p read) 1 0 + count_by p reads
count_more p read reads = sum_by-cons (λ r. cond (p r) 1 0) read reads

pass_is_vector : (read : VectorRead) → cond (is_pass read) 1 0 ≤ cond (is_vector read) 1 0
pass_is_vector Pass = omega arith
pass_is_vector Fail = omega arith
pass_is_vector Comment = omega arith
pass_is_vector Bad = omega arith

passed_within : (reads : List VectorRead) → passed_in reads ≤ checked_in reads
passed_within [] = omega arith
passed_within (read ∷ reads) = omega (arith, count_more is_pass read reads, count_more is_vector read reads, pass_is_vector read, passed_within reads)

-- the numbers after more lines
pub tally_within : (old new : Tally) (reads : List VectorRead) (most : ℕ) → new ≡ tally_after old reads → IsTally old old.lines → old.lines + length reads ≤ most → IsTally new most
tally_within old new reads most is counted within =
    let lines : new.lines ≡ old.lines + length reads = ap (λ (t : Tally). t.lines) is in
    let checked : new.checked ≡ old.checked + checked_in reads = ap (λ (t : Tally). t.checked) is in
    let passed : new.passed ≡ old.passed + passed_in reads = ap (λ (t : Tally). t.passed) is in
    record {
      passed = omega (arith, checked, passed, counted.passed, passed_within reads);
      checked = omega (arith, checked, lines, counted.checked, count_by-le-length is_vector reads);
      within = omega (arith, lines, within);
    }
