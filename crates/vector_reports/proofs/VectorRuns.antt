-- From what reporting leaves to the report of the source's content.
use Rattle.std.proofs.Common.{◌≡◌, ◌≢◌, ◌<◌, ◌≤◌, ◌+◌, ◌-◌, ◌==◌, if◌then◌else◌, inl, inr, ℕ, Bool, true, false, List, [], ◌∷◌, ◌++◌, Some, append_assoc, append-nil, refl, sym, ◌∙◌, ap, subst, length, length-append, take, drop, arith, rules}
use Rattle.std.proofs.lemmas.Bool.{cases_Bool}
use Rattle.std.proofs.lemmas.List.{take_at, drop_at}
use Rattle.std.proofs.Math.Seq.{take-add}
use Rattle.engine_core.specs.Calls.{Calls}
use Rattle.line_input.specs.declared.limits.TheConstants.{LARGEST_LINE}
use Rattle.line_input.specs.HeldLines.{BeginsTooLong}
use Rattle.line_input.specs.TextLines.{SplitsInto}
use Rattle.stream_calls.specs.declared.limits.TheConstants.{STREAM_MAX}
use Rattle.vector_suite.specs.declared.lines.VectorRead.{VectorRead}
use Rattle.vector_suite.specs.declared.lines.VectorRead.TheVariants.{Bad}
use Rattle.vector_reports.specs.declared.reporting.Reported.{Reported}
use Rattle.vector_reports.specs.declared.reporting.Reported.TheVariants as reported
use Rattle.vector_reports.specs.Findings.{LinesFound, is_too_long, lines_found}
use Rattle.vector_reports.specs.ReportText.{report_of, has_bad, passed_in, checked_in}
use Rattle.vector_reports.specs.VectorReports.{IsVectorReport, remainder_lines, bad_line_or, verdict_of}
use Rattle.stream_calls.specs.Streams.{Streams}
use Rattle.vector_reports.specs.Reporting.{Reports, ReportWritten, IsReadToEnd}
use Rattle.vector_reports.specs.Runs.{RunsVectors}
use Rattle.vector_reports.proofs.LineReads.{with_reads, found_as, found_long, found_both, found_stays}
use Rattle.vector_reports.proofs.LineSplits.{split_both, split_of, FirstTooLong, too_long_first}

-- bytes that are behind a bad line aren't read
behind_bad : {V : Type 0} (calls : Calls V) (v : V) (lines more rest : List (List ℕ)) → has_bad (lines_found calls v lines).reads ≡ true
    → lines_found calls v ((lines ++ more) ++ rest) ≡ lines_found calls v lines
behind_bad calls v lines more rest bad = ap (λ xs. lines_found calls v xs) (append_assoc lines more rest) ∙ found_stays calls v lines (more ++ rest) bad

-- lines, and one that is too long
found_to_long : {V : Type 0} (calls : Calls V) (v : V) (lines more : List (List ℕ)) (line : List ℕ) → has_bad (lines_found calls v lines).reads ≡ false → is_too_long line ≡ true
    → lines_found calls v (lines ++ line ∷ more) ≡ with_reads (lines_found calls v lines).reads (found_as (Bad ∷ []) (lines_found calls v lines).engine)
found_to_long calls v lines more line none long =
    let found = lines_found calls v lines in
    found_both calls v lines (line ∷ more) none ∙ ap (λ f. with_reads found.reads f) (found_long calls found.engine line more long)

many_of : (line : List ℕ) → is_too_long line ≡ true → LARGEST_LINE < length line
many_of line long = search rules

-- a bad line was read in whole lines
stays_in_lines : {V : Type 0} (calls : Calls V) (v w : V) (taken more : List ℕ) (ended : Bool) (reads : List VectorRead) (lines : List (List ℕ)) (remainder : List ℕ) → SplitsInto taken lines remainder
    → has_bad (lines_found calls v lines).reads ≡ true → lines_found calls v lines ≡ record { reads = reads; engine = w } → IsVectorReport calls v ended (taken ++ more) reads w
stays_in_lines calls v w taken more ended reads lines remainder split bad found =
    let behind = split_of (remainder ++ more) in record {
      lines = lines ++ behind.lines;
      remainder = behind.remainder;
      split = split_both [] taken remainder more behind.remainder lines behind.lines split behind.splits;
      found = behind_bad calls v lines behind.lines (remainder_lines ended behind.remainder) bad ∙ found;
    }

-- what is behind the whole lines is too long already
stays_in_remainder : {V : Type 0} (calls : Calls V) (v w : V) (taken more : List ℕ) (ended : Bool) (reads : List VectorRead) (lines : List (List ℕ)) (remainder : List ℕ) → SplitsInto taken lines remainder
    → has_bad (lines_found calls v lines).reads ≡ false → is_too_long remainder ≡ true → lines_found calls v (lines ++ remainder ∷ []) ≡ record { reads = reads; engine = w } → IsVectorReport calls v ended (taken ++ more) reads w
stays_in_remainder calls v w taken more ended reads lines remainder split none long found =
    let begins : BeginsTooLong (remainder ++ more) = record { front = remainder; more = more; parts = refl; no_feed = split.unfinished; many = many_of remainder long } in
    let behind = too_long_first ended (remainder ++ more) begins in record {
      lines = lines ++ behind.whole_lines;
      remainder = behind.remainder;
      split = split_both [] taken remainder more behind.remainder lines behind.whole_lines split behind.split;
      found = ap (λ xs. lines_found calls v xs) (append_assoc lines behind.whole_lines (remainder_lines ended behind.remainder) ∙ ap (λ xs. lines ++ xs) behind.parts)
          ∙ found_to_long calls v lines behind.more behind.line none behind.too_long ∙ sym (found_to_long calls v lines [] remainder none long) ∙ found;
    }

-- once a bad line shows, the report is what it is, whatever follows
bad_stays : {V : Type 0} (calls : Calls V) (v w : V) (taken more : List ℕ) (ended : Bool) (reads : List VectorRead) → IsVectorReport calls v false taken reads w → has_bad reads ≡ true
    → IsVectorReport calls v ended (taken ++ more) reads w
bad_stays {V} calls v w taken more ended reads report bad =
    let lines = report.lines in
    let found = lines_found calls v lines in
    elim (cases_Bool (has_bad found.reads)) [
      | inl in_lines ↦ stays_in_lines calls v w taken more ended reads lines report.remainder report.split in_lines
          (sym (found_stays calls v lines (remainder_lines false report.remainder) in_lines) ∙ report.found)
      | inr none ↦ elim (cases_Bool (is_too_long report.remainder)) [
        | inl long ↦ stays_in_remainder calls v w taken more ended reads lines report.remainder report.split none long
            (rw long at report.found)
        | inr short ↦ absurd (let open_lines : lines_found calls v (lines ++ []) ≡ record { reads = reads; engine = w } = (rw short at report.found) in
            let all : has_bad found.reads ≡ true = ap (λ xs. has_bad (lines_found calls v xs).reads) (sym (append-nil lines)) ∙ ap (λ (f : LinesFound V). has_bad f.reads) open_lines ∙ bad in
            cc)
      ]
    ]

-- the first bytes of two parts, past the first part
take_past : (n : ℕ) (first more : List ℕ) → length first ≤ n → take n (first ++ more) ≡ first ++ take (n - length first) more
take_past n first more h =
    let sum : length first + (n - length first) ≡ n = omega arith in
    ap (λ k. take k (first ++ more)) (sym sum)
    ∙ take-add (length first) (n - length first) (first ++ more)
    ∙ ap (λ xs. xs ++ take (n - length first) (drop (length first) (first ++ more))) (take_at first more (length first) refl)
    ∙ ap (λ xs. first ++ take (n - length first) xs) (drop_at first more (length first) refl)

bad_chosen : (bad same : Bool) (count number : ℕ) → (if bad then reported.BadLine count else if same then reported.AllPassed else reported.SomeFailed) ≡ reported.BadLine number → bad ≡ true
bad_chosen true same count number is = refl
bad_chosen false true count number is = cc
bad_chosen false false count number is = cc

-- a source that was read to its end
run_at_end : {V : Type 0} (calls : Calls V) (answer : Reported) (chunk : ℕ) (v w : V) (bytes before : List ℕ) (after : Streams) → (written : ReportWritten calls answer chunk v w (record { left = Some bytes; gained = Some before }) after)
    → verdict_of written.reads ≡ answer → written.ended ≡ true → (out : List ℕ) × RunsVectors calls v bytes answer out × (after.gained ≡ Some (before ++ out))
run_at_end {V} calls answer chunk v w bytes before after written verdict ended =
    let to_end = written.of_taken.at_end ended in
    let At_end : Bool → Type 0 = λ e. IsVectorReport calls v e written.taken written.reads w in
    let All : List ℕ → Type 0 = λ xs. IsVectorReport calls v true xs written.reads w in (
      report_of written.reads,
      record {
        short = λ _. (written.reads, w, subst All (sym to_end.1) (subst At_end ended written.of_taken.report), refl, sym verdict);
        too_long = λ long. absurd (omega (arith, ap length to_end.1, to_end.0, long));
      },
      written.written,
    )

-- a source that showed a bad line
run_at_bad : {V : Type 0} (calls : Calls V) (number chunk : ℕ) (v w : V) (bytes before : List ℕ) (after : Streams) → (written : ReportWritten calls (reported.BadLine number) chunk v w (record { left = Some bytes; gained = Some before }) after)
    → written.ended ≡ false → (out : List ℕ) × RunsVectors calls v bytes (reported.BadLine number) out × (after.gained ≡ Some (before ++ out))
run_at_bad {V} calls number chunk v w bytes before after written open_end =
    let reads = written.reads in
    let taken = written.taken in
    let rest = written.consumes.0 in
    let cut = take (STREAM_MAX - length taken) rest in
    let within = written.asked.within in
    let At_end : Bool → Type 0 = λ e. IsVectorReport calls v e taken reads w in
    let report = subst At_end open_end written.of_taken.report in
    let bad : has_bad reads ≡ true = bad_chosen (has_bad reads) (passed_in reads == checked_in reads) (length reads) number written.why in
    let first : take STREAM_MAX bytes ≡ taken ++ cut = ap (λ xs. take STREAM_MAX xs) written.consumes.1 ∙ take_past STREAM_MAX taken rest within in
    let Whole : List ℕ → Type 0 = λ xs. IsVectorReport calls v true xs reads w in
    let Cut : List ℕ → Type 0 = λ xs. IsVectorReport calls v false xs reads w in
    let cut_ends : bad_line_or reads reported.Limit ≡ verdict_of reads = rw bad refl in (
      report_of reads,
      record {
        short = λ _. (reads, w, subst Whole (sym written.consumes.1) (bad_stays calls v w taken rest true reads report bad), refl, sym written.why);
        too_long = λ _. (reads, w, subst Cut (sym first) (bad_stays calls v w taken cut false reads report bad), refl, sym (cut_ends ∙ written.why));
      },
      written.written,
    )

-- a source of which as many bytes were taken as may be
run_at_limit : {V : Type 0} (calls : Calls V) (chunk : ℕ) (v w : V) (bytes before : List ℕ) (after : Streams) → ReportWritten calls reported.Limit chunk v w (record { left = Some bytes; gained = Some before }) after
    → (out : List ℕ) × RunsVectors calls v bytes reported.Limit out × (after.gained ≡ Some (before ++ out))
run_at_limit {V} calls chunk v w bytes before after written =
    let reads = written.reads in
    let taken = written.taken in
    let rest = written.consumes.0 in
    let At_end : Bool → Type 0 = λ e. IsVectorReport calls v e taken reads w in
    let Cut : List ℕ → Type 0 = λ xs. IsVectorReport calls v false xs reads w in
    let first : take STREAM_MAX bytes ≡ taken = ap (λ xs. take STREAM_MAX xs) written.consumes.1 ∙ take_at taken rest STREAM_MAX written.why.2 in
    let ends : bad_line_or reads reported.Limit ≡ reported.Limit = rw written.why.0 refl in (
      report_of reads,
      record {
        short = λ less. absurd (omega (arith, ap length written.consumes.1, length-append taken rest, written.why.2, less));
        too_long = λ _. (reads, w, subst Cut (sym first) (subst At_end written.why.1 written.of_taken.report), refl, sym ends);
      },
      written.written,
    )

-- where no call failed, what reporting leaves is the report of the content
pub vectors_of : {V : Type 0} (calls : Calls V) (answer : Reported) (chunk : ℕ) (v w : V) (bytes before : List ℕ) (after : Streams) → Reports calls answer chunk v w (record { left = Some bytes; gained = Some before }) after
    → answer ≢ reported.ReadFault → answer ≢ reported.WriteFault → (out : List ℕ) × RunsVectors calls v bytes answer out × (after.gained ≡ Some (before ++ out))
vectors_of calls reported.AllPassed chunk v w bytes before after written no_read no_write = run_at_end calls reported.AllPassed chunk v w bytes before after written written.why.0 written.why.1
vectors_of calls reported.SomeFailed chunk v w bytes before after written no_read no_write = run_at_end calls reported.SomeFailed chunk v w bytes before after written written.why.0 written.why.1
vectors_of calls (reported.BadLine number) chunk v w bytes before after written no_read no_write =
    elim (cases_Bool written.ended) [
      | inl ended ↦ run_at_end calls (reported.BadLine number) chunk v w bytes before after written written.why ended
      | inr open_end ↦ run_at_bad calls number chunk v w bytes before after written open_end
    ]
vectors_of calls reported.Limit chunk v w bytes before after written no_read no_write = run_at_limit calls chunk v w bytes before after written
vectors_of calls reported.ReadFault chunk v w bytes before after written no_read no_write = absurd (no_read refl)
vectors_of calls reported.WriteFault chunk v w bytes before after written no_read no_write = absurd (no_write refl)
