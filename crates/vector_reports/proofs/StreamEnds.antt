-- How the report of a stream ends.
use Rattle.std.proofs.Common.{◌≡◌, ◌≢◌, ◌==◌, ◌<◌, ◌≤◌, ◌+◌, ◌⊎◌, if◌then◌else◌, inl, inr, ℕ, Bool, true, false, List, [], ◌∷◌, ◌++◌, Option, Some, None, append_assoc, append-nil, refl, sym, ◌∙◌, ap, subst, length, length-append, take, arith}
use Rattle.std.proofs.lemmas.List.{take_at}
use Rattle.engine_core.specs.Calls.{Calls}
use Rattle.outside.specs.Contents.{Consumes, Appends, IsAtEnd}
use Rattle.outside.proofs.ConsecutiveCalls.{appends_both}
use Rattle.stream_calls.specs.PartialWrites.{AppendsPart}
use Rattle.stream_calls.specs.declared.limits.TheConstants.{STREAM_MAX}
use Rattle.stream_calls.proofs.PartialWrites.{part_in_front, part_behind}
use Rattle.line_input.specs.HeldLines.{IsLineText}
use Rattle.vector_suite.specs.Lines.{Found}
use Rattle.vector_suite.specs.declared.lines.VectorRead.{VectorRead}
use Rattle.vector_suite.specs.declared.lines.VectorRead.TheVariants.{Bad}
use Rattle.vector_reports.specs.declared.reporting.Reported.{Reported}
use Rattle.vector_reports.specs.declared.reporting.Reported.TheVariants as reported
use Rattle.vector_reports.specs.declared.tally.Tally.{Tally}
use Rattle.vector_reports.specs.Findings.{LinesFound, read_line, with_read, lines_found}
use Rattle.vector_reports.specs.ReportText.{report_lines, last_line, ending_line, report_of, has_bad, passed_in, checked_in}
use Rattle.vector_reports.specs.VectorReports.{IsVectorReport, remainder_lines, verdict_of}
use Rattle.vector_reports.specs.Progress.{ReportState, ChunkReported, CheckedUpTo, EndChecked, tally_after, closing_line, closing_answer}
use Rattle.stream_calls.specs.Streams.{Streams, IsAllOf}
use Rattle.vector_reports.specs.Reporting.{IsReadToEnd, AskedNoFurther, EndsBy, ReportOfTaken, ReportCutOff, ReportWritten, Reports}
use Rattle.vector_reports.proofs.EndSteps.{found_one}
use Rattle.vector_reports.proofs.LineReads.{with_reads, found_next, found_first, found_behind, has_bad_behind}
use Rattle.vector_reports.proofs.LineSplits.{no_remainder_line}
use Rattle.vector_reports.proofs.ReportLines.{no_lines, tally_of, tally_from_none, tally_both, report_both}

-- nothing was reported yet
abbrev pub beginning : {V : Type 0} → V → Option (List ℕ) → ReportState V
beginning v gained = record { engine = v; tally = no_lines; gained = gained }

-- where the source may go on, what is held of a line isn't read
pub report_so_far : {V : Type 0} (calls : Calls V) (v : V) (gained : Option (List ℕ)) (now : ReportState V) (taken held : List ℕ) → IsLineText held → (done : ChunkReported calls (beginning v gained) [] taken now held)
    → IsVectorReport calls v false taken done.reads now.engine
report_so_far calls v gained now taken held text done = record {
  lines = done.lines;
  remainder = held;
  split = done.split;
  found = ap (λ xs. lines_found calls v (done.lines ++ xs)) (no_remainder_line held text) ∙ ap (λ xs. lines_found calls v xs) (append-nil done.lines) ∙ done.found;
}

-- nothing was asked for once a bad line showed
pub asked_no_further : {V : Type 0} (calls : Calls V) (v : V) (gained : Option (List ℕ)) (now : ReportState V) (earlier last held : List ℕ) (chunk : ℕ) → IsLineText held
    → ChunkReported calls (beginning v gained) [] earlier now held → length last ≤ chunk → length (earlier ++ last) ≤ STREAM_MAX → AskedNoFurther calls v chunk (earlier ++ last)
asked_no_further calls v gained now earlier last held chunk text done short within = record {
  earlier = earlier;
  last = last;
  whole = refl;
  chunk_length = short;
  reads = done.reads;
  engine = now.engine;
  report = report_so_far calls v gained now earlier held text done;
  none_bad = done.none_bad;
  within = within;
}

-- nor once a read failed or answered that the source is at its end
asked_all : {V : Type 0} (calls : Calls V) (v : V) (gained : Option (List ℕ)) (now : ReportState V) (taken held : List ℕ) (chunk : ℕ) → IsLineText held
    → ChunkReported calls (beginning v gained) [] taken now held → length taken ≤ STREAM_MAX → AskedNoFurther calls v chunk taken
asked_all {V} calls v gained now taken held chunk text done within =
    let Asked : List ℕ → Type 0 = λ xs. AskedNoFurther calls v chunk xs in
    subst Asked (append-nil taken) (asked_no_further calls v gained now taken [] held chunk text done (omega arith) (omega (arith, within, length-append taken [])))

-- the last line by the numbers is that of the reads
ending_text : (tally : Tally) (reads : List VectorRead) → has_bad reads ≡ false → tally ≡ tally_after no_lines reads → last_line tally.passed tally.checked ≡ ending_line reads
ending_text tally reads none is = rw none (ap (λ (t : Tally). last_line t.passed t.checked) (is ∙ tally_from_none reads))

-- the source may go on, and the last line was written
pub open_written : {V : Type 0} (calls : Calls V) (answer : Reported) (chunk : ℕ) (v : V) (now : ReportState V) (taken held : List ℕ) (left left' gained gained' : Option (List ℕ)) → IsLineText held
    → (done : ChunkReported calls (beginning v gained) [] taken now held) → Consumes left taken left' → Appends now.gained (last_line now.tally.passed now.tally.checked) gained'
    → length taken ≤ STREAM_MAX → EndsBy answer taken done.reads false
    → ReportWritten calls answer chunk v now.engine (record { left = left; gained = gained }) (record { left = left'; gained = gained' })
open_written {V} calls answer chunk v now taken held left left' gained gained' text done consumes written within why =
    let Written : List ℕ → Type 0 = λ xs. Appends gained (report_lines 0 done.reads ++ xs) gained' in record {
      taken = taken;
      ended = false;
      reads = done.reads;
      consumes = consumes;
      asked = asked_all calls v gained now taken held chunk text done within;
      of_taken = record { report = report_so_far calls v gained now taken held text done; at_end = λ e. absurd (cc) };
      written = subst Written (ending_text now.tally done.reads done.none_bad done.tally)
          (appends_both gained now.gained gained' (report_lines 0 done.reads) (last_line now.tally.passed now.tally.checked) done.written written);
      why = why;
    }

-- all lines leave the engine
all_lines : {V : Type 0} (calls : Calls V) (v w : V) (lines : List (List ℕ)) (reads : List VectorRead) → lines_found calls v lines ≡ record { reads = reads; engine = w }
    → w ≡ (lines_found calls v (take (length lines) lines)).engine
all_lines {V} calls v w lines reads is =
    let Engine : List (List ℕ) → Type 0 = λ xs. w ≡ (lines_found calls v xs).engine in
    subst Engine (sym (ap (λ xs. take (length lines) xs) (sym (append-nil lines)) ∙ take_at lines [] (length lines) refl)) (sym (ap (λ (f : LinesFound V). f.engine) is))

-- and a part of it was written
pub open_cut : {V : Type 0} (calls : Calls V) (chunk : ℕ) (v : V) (now : ReportState V) (taken held : List ℕ) (left left' gained gained' : Option (List ℕ)) → IsLineText held
    → ChunkReported calls (beginning v gained) [] taken now held → Consumes left taken left' → AppendsPart now.gained (last_line now.tally.passed now.tally.checked) gained'
    → length taken ≤ STREAM_MAX → ReportCutOff calls chunk v now.engine (record { left = left; gained = gained }) (record { left = left'; gained = gained' })
unfolding report_so_far
open_cut {V} calls chunk v now taken held left left' gained gained' text done consumes part within =
    let report = report_so_far calls v gained now taken held text done in
    let Part : List ℕ → Type 0 = λ xs. AppendsPart gained (report_lines 0 done.reads ++ xs) gained' in record {
      taken = taken;
      ended = false;
      reads = done.reads;
      last = now.engine;
      consumes = consumes;
      asked = asked_all calls v gained now taken held chunk text done within;
      of_taken = record { report = report; at_end = λ e. absurd (cc) };
      part = subst Part (ending_text now.tally done.reads done.none_bad done.tally)
          (part_behind gained now.gained gained' (report_lines 0 done.reads) (last_line now.tally.passed now.tally.checked) done.written part);
      count = length (done.lines ++ remainder_lines false held);
      engine = all_lines calls v now.engine (done.lines ++ remainder_lines false held) done.reads report.found;
    }

-- what was taken up to the end is all
pub all_of : (before mid : Option (List ℕ)) (taken : List ℕ) → Consumes before taken mid → IsAtEnd mid → IsAllOf taken before
all_of None mid taken consumes over = tt
all_of (Some all) mid taken consumes over =
    let none = rw consumes.2 at over in
    consumes.1 ∙ ap (λ xs. taken ++ xs) none ∙ append-nil taken

-- at the source's end what is held is read too
report_at_end : {V : Type 0} (calls : Calls V) (v w : V) (gained : Option (List ℕ)) (now : ReportState V) (taken held out : List ℕ) (reads : List VectorRead)
    → (done : ChunkReported calls (beginning v gained) [] taken now held) → EndChecked calls now held reads w out → IsVectorReport calls v true taken (done.reads ++ reads) w
report_at_end calls v w gained now taken held out reads done last = record {
  lines = done.lines;
  remainder = held;
  split = done.split;
  found = found_behind calls v now.engine done.lines (remainder_lines true held) done.reads done.found done.none_bad ∙ ap (λ f. with_reads done.reads f) last.found;
}

closing_text : (tally : Tally) (reads all : List VectorRead) → has_bad all ≡ has_bad reads → tally ≡ tally_after no_lines all → closing_line tally reads ≡ ending_line all
closing_text tally reads all same is =
    ap (λ (t : Tally). closing_line t reads) (is ∙ tally_from_none all) ∙ ap (λ b. if b then [] else last_line (passed_in all) (checked_in all)) (sym same)

closing_verdict : (tally : Tally) (reads all : List VectorRead) → has_bad all ≡ has_bad reads → tally ≡ tally_after no_lines all → closing_answer tally reads ≡ verdict_of all
closing_verdict tally reads all same is =
    ap (λ (t : Tally). closing_answer t reads) (is ∙ tally_from_none all)
    ∙ ap (λ b. if b then reported.BadLine (length all) else if passed_in all == checked_in all then reported.AllPassed else reported.SomeFailed) (sym same)

-- the numbers after all lines
end_tally : {V : Type 0} (calls : Calls V) (v : V) (gained : Option (List ℕ)) (now : ReportState V) (taken held : List ℕ) (reads : List VectorRead)
    → (done : ChunkReported calls (beginning v gained) [] taken now held) → tally_after now.tally reads ≡ tally_after no_lines (done.reads ++ reads)
end_tally calls v gained now taken held reads done = ap (λ t. tally_after t reads) done.tally ∙ tally_both no_lines done.reads reads

-- the text of all lines and of the last one
end_text : {V : Type 0} (calls : Calls V) (v w : V) (gained : Option (List ℕ)) (now : ReportState V) (taken held out : List ℕ) (reads : List VectorRead)
    → (done : ChunkReported calls (beginning v gained) [] taken now held) → EndChecked calls now held reads w out → report_lines 0 done.reads ++ out ≡ report_of (done.reads ++ reads)
end_text calls v w gained now taken held out reads done last =
    let lines : now.tally.lines ≡ 0 + length done.reads = ap (λ (t : Tally). t.lines) done.tally in
    let closing = closing_text (tally_after now.tally reads) reads (done.reads ++ reads) (has_bad_behind done.reads reads done.none_bad) (end_tally calls v gained now taken held reads done) in
    ap (λ xs. report_lines 0 done.reads ++ xs) (last.is_report ∙ ap (λ xs. report_lines now.tally.lines reads ++ xs) closing
    ∙ ap (λ n. report_lines n reads ++ ending_line (done.reads ++ reads)) lines)
    ∙ sym (append_assoc (report_lines 0 done.reads) (report_lines (0 + length done.reads) reads) (ending_line (done.reads ++ reads)))
    ∙ ap (λ xs. xs ++ ending_line (done.reads ++ reads)) (sym (report_both 0 done.reads reads))

chosen : (bad same : Bool) (number : ℕ) (answer : Reported) → (if bad then reported.BadLine number else if same then reported.AllPassed else reported.SomeFailed) ≡ answer
    → (answer ≢ reported.ReadFault) × (answer ≢ reported.WriteFault) × (answer ≢ reported.Limit)
chosen true same number answer is = (λ e. cc, λ e. cc, λ e. cc)
chosen false true number answer is = (λ e. cc, λ e. cc, λ e. cc)
chosen false false number answer is = (λ e. cc, λ e. cc, λ e. cc)

-- a source that was read to its end, by its answer
by_answer : {V : Type 0} (calls : Calls V) (answer : Reported) (chunk : ℕ) (v w : V) (taken : List ℕ) (reads : List VectorRead) (before after : Streams) → IsVectorReport calls v true taken reads w → verdict_of reads ≡ answer
    → IsReadToEnd taken before.left → AskedNoFurther calls v chunk taken → Consumes before.left taken after.left → Appends before.gained (report_of reads) after.gained → Reports calls answer chunk v w before after
by_answer calls reported.AllPassed chunk v w taken reads before after report verdict to_end asked consumes written =
    record { taken = taken; ended = true; reads = reads; consumes = consumes; asked = asked; of_taken = record { report = report; at_end = λ e. to_end }; written = written; why = (verdict, refl) }
by_answer calls reported.SomeFailed chunk v w taken reads before after report verdict to_end asked consumes written =
    record { taken = taken; ended = true; reads = reads; consumes = consumes; asked = asked; of_taken = record { report = report; at_end = λ e. to_end }; written = written; why = (verdict, refl) }
by_answer calls (reported.BadLine number) chunk v w taken reads before after report verdict to_end asked consumes written =
    record { taken = taken; ended = true; reads = reads; consumes = consumes; asked = asked; of_taken = record { report = report; at_end = λ e. to_end }; written = written; why = verdict }
by_answer calls reported.ReadFault chunk v w taken reads before after report verdict to_end asked consumes written =
    absurd ((chosen (has_bad reads) (passed_in reads == checked_in reads) (length reads) reported.ReadFault verdict).0 refl)
by_answer calls reported.WriteFault chunk v w taken reads before after report verdict to_end asked consumes written =
    absurd ((chosen (has_bad reads) (passed_in reads == checked_in reads) (length reads) reported.WriteFault verdict).1 refl)
by_answer calls reported.Limit chunk v w taken reads before after report verdict to_end asked consumes written =
    absurd ((chosen (has_bad reads) (passed_in reads == checked_in reads) (length reads) reported.Limit verdict).2 refl)

-- the source was read to its end, and the rest of the report was written
pub end_written : {V : Type 0} (calls : Calls V) (answer : Reported) (chunk : ℕ) (v w : V) (now : ReportState V) (taken held out : List ℕ) (reads : List VectorRead) (left left' gained gained' : Option (List ℕ)) → IsLineText held
    → ChunkReported calls (beginning v gained) [] taken now held → EndChecked calls now held reads w out → answer ≡ closing_answer (tally_after now.tally reads) reads
    → Consumes left taken left' → IsReadToEnd taken left → Appends now.gained out gained'
    → Reports calls answer chunk v w (record { left = left; gained = gained }) (record { left = left'; gained = gained' })
end_written {V} calls answer chunk v w now taken held out reads left left' gained gained' text done last is consumes to_end written =
    let Written : List ℕ → Type 0 = λ xs. Appends gained xs gained' in
    let below = to_end.0 in
    let verdict : verdict_of (done.reads ++ reads) ≡ answer =
    sym (is ∙ closing_verdict (tally_after now.tally reads) reads (done.reads ++ reads) (has_bad_behind done.reads reads done.none_bad) (end_tally calls v gained now taken held reads done)) in
    by_answer calls answer chunk v w taken (done.reads ++ reads) (record { left = left; gained = gained }) (record { left = left'; gained = gained' })
    (report_at_end calls v w gained now taken held out reads done last) verdict to_end
    (asked_all calls v gained now taken held chunk text done (omega (arith, below))) consumes
    (subst Written (end_text calls v w gained now taken held out reads done last) (appends_both gained now.gained gained' (report_lines 0 done.reads) out done.written written))

-- and a part of it was written
pub end_cut : {V : Type 0} (calls : Calls V) (chunk : ℕ) (v w : V) (now : ReportState V) (taken held out : List ℕ) (reads : List VectorRead) (left left' gained gained' : Option (List ℕ)) → IsLineText held
    → ChunkReported calls (beginning v gained) [] taken now held → EndChecked calls now held reads w out → Consumes left taken left' → IsReadToEnd taken left → AppendsPart now.gained out gained'
    → ReportCutOff calls chunk v w (record { left = left; gained = gained }) (record { left = left'; gained = gained' })
unfolding report_at_end
end_cut {V} calls chunk v w now taken held out reads left left' gained gained' text done last consumes to_end part =
    let below = to_end.0 in
    let Part : List ℕ → Type 0 = λ xs. AppendsPart gained xs gained' in
    let report = report_at_end calls v w gained now taken held out reads done last in record {
      taken = taken;
      ended = true;
      reads = done.reads ++ reads;
      last = w;
      consumes = consumes;
      asked = asked_all calls v gained now taken held chunk text done (omega (arith, below));
      of_taken = record { report = report; at_end = λ e. to_end };
      part = subst Part (end_text calls v w gained now taken held out reads done last) (part_behind gained now.gained gained' (report_lines 0 done.reads) out done.written part);
      count = length (done.lines ++ remainder_lines true held);
      engine = all_lines calls v w (done.lines ++ remainder_lines true held) (done.reads ++ reads) report.found;
    }

-- what is found behind the line up to which was checked
abbrev behind : {V : Type 0} → Calls V → VectorRead → V → List (List ℕ) → LinesFound V
behind calls read w more = found_next calls (record { read = read; engine = w }) more

-- the report of bytes that were checked up to a line
report_up_to : {V : Type 0} (calls : Calls V) (v : V) (gained : Option (List ℕ)) (after : ReportState V) (taken out : List ℕ) (read : VectorRead) → (checked : CheckedUpTo calls (beginning v gained) [] taken read after out)
    → (let more = behind calls read after.engine checked.more in IsVectorReport calls v false taken (checked.reads ++ read ∷ more.reads) more.engine)
report_up_to {V} calls v gained after taken out read checked =
    let first : lines_found calls checked.engine (checked.line ∷ checked.more) ≡ with_read read (behind calls read after.engine checked.more) =
    found_first calls checked.engine checked.line checked.more ∙ ap (λ (f : Found V). with_read f.read (found_next calls f checked.more)) checked.line_found in record {
      lines = checked.whole_lines;
      remainder = checked.remainder;
      split = checked.split;
      found = ap (λ xs. lines_found calls v xs) checked.parts
          ∙ found_behind calls v checked.engine checked.lines (checked.line ∷ checked.more) checked.reads checked.found checked.none_bad
          ∙ ap (λ f. with_reads checked.reads f) first;
    }

-- its text begins with what was written
text_up_to : (out : List ℕ) (reads more : List VectorRead) (read : VectorRead) → out ≡ report_lines 0 (reads ++ read ∷ [])
    → out ++ (report_lines (0 + length (reads ++ read ∷ [])) more ++ ending_line (reads ++ read ∷ more)) ≡ report_of (reads ++ read ∷ more)
text_up_to out reads more read is =
    ap (λ xs. xs ++ (report_lines (0 + length (reads ++ read ∷ [])) more ++ ending_line (reads ++ read ∷ more))) is
    ∙ sym (append_assoc (report_lines 0 (reads ++ read ∷ [])) (report_lines (0 + length (reads ++ read ∷ [])) more) (ending_line (reads ++ read ∷ more)))
    ∙ ap (λ xs. xs ++ ending_line (reads ++ read ∷ more)) (sym (report_both 0 (reads ++ read ∷ []) more) ∙ ap (λ xs. report_lines 0 xs) (append_assoc reads (read ∷ []) more))

-- a write failed in what is reported of a line
pub line_cut : {V : Type 0} (calls : Calls V) (chunk : ℕ) (v : V) (after : ReportState V) (taken out : List ℕ) (read : VectorRead) (left left' gained : Option (List ℕ)) → CheckedUpTo calls (beginning v gained) [] taken read after out
    → Consumes left taken left' → AppendsPart gained out after.gained → AskedNoFurther calls v chunk taken → ReportCutOff calls chunk v after.engine (record { left = left; gained = gained }) (record { left = left'; gained = after.gained })
unfolding report_up_to
line_cut {V} calls chunk v after taken out read left left' gained checked consumes part asked =
    let more = behind calls read after.engine checked.more in
    let Part : List ℕ → Type 0 = λ xs. AppendsPart gained xs after.gained in
    let to_line : (checked.lines ++ checked.line ∷ []) ++ checked.more ≡ checked.whole_lines ++ remainder_lines false checked.remainder =
    append_assoc checked.lines (checked.line ∷ []) checked.more ∙ sym checked.parts in
    let cut : take (length (checked.lines ++ checked.line ∷ [])) (checked.whole_lines ++ remainder_lines false checked.remainder) ≡ checked.lines ++ checked.line ∷ [] =
    ap (λ xs. take (length (checked.lines ++ checked.line ∷ [])) xs) (sym to_line) ∙ take_at (checked.lines ++ checked.line ∷ []) checked.more (length (checked.lines ++ checked.line ∷ [])) refl in
    let left_by : (lines_found calls v (checked.lines ++ checked.line ∷ [])).engine ≡ after.engine =
    ap (λ (f : LinesFound V). f.engine) (found_behind calls v checked.engine checked.lines (checked.line ∷ []) checked.reads checked.found checked.none_bad)
    ∙ ap (λ (f : LinesFound V). f.engine) (found_one calls checked.engine checked.line) ∙ ap (λ (f : Found V). f.engine) checked.line_found in record {
      taken = taken;
      ended = false;
      reads = checked.reads ++ read ∷ more.reads;
      last = more.engine;
      consumes = consumes;
      asked = asked;
      of_taken = record { report = report_up_to calls v gained after taken out read checked; at_end = λ e. absurd (cc) };
      part = subst Part (text_up_to out checked.reads more.reads read checked.is_report)
          (part_in_front gained after.gained out (report_lines (0 + length (checked.reads ++ read ∷ [])) more.reads ++ ending_line (checked.reads ++ read ∷ more.reads)) part);
      count = length (checked.lines ++ checked.line ∷ []);
      engine = sym (ap (λ xs. (lines_found calls v xs).engine) cut ∙ left_by);
    }

-- reads that end with a bad line
pub ends_bad : (reads : List VectorRead) → has_bad reads ≡ false → has_bad (reads ++ Bad ∷ []) ≡ true
ends_bad reads none = has_bad_behind reads (Bad ∷ []) none

-- a chunk ended with a bad line
pub bad_written : {V : Type 0} (calls : Calls V) (chunk : ℕ) (v : V) (after : ReportState V) (taken out : List ℕ) (left left' gained : Option (List ℕ)) → CheckedUpTo calls (beginning v gained) [] taken Bad after out
    → Consumes left taken left' → Appends gained out after.gained → AskedNoFurther calls v chunk taken
    → Reports calls (reported.BadLine after.tally.lines) chunk v after.engine (record { left = left; gained = gained }) (record { left = left'; gained = after.gained })
bad_written {V} calls chunk v after taken out left left' gained checked consumes written asked =
    let Written : List ℕ → Type 0 = λ xs. Appends gained xs after.gained in
    let reads = checked.reads ++ Bad ∷ [] in
    let bad = ends_bad checked.reads checked.none_bad in
    let number : after.tally.lines ≡ length reads = ap (λ (t : Tally). t.lines) (checked.tally ∙ tally_from_none reads) in
    let text : out ≡ report_of reads = checked.is_report ∙ rw bad (sym (append-nil (report_lines 0 reads))) in
    let verdict : verdict_of reads ≡ reported.BadLine after.tally.lines = rw bad (ap reported.BadLine (sym number)) in record {
      taken = taken;
      ended = false;
      reads = reads;
      consumes = consumes;
      asked = asked;
      of_taken = record { report = report_up_to calls v gained after taken out Bad checked; at_end = λ e. absurd (cc) };
      written = subst Written text written;
      why = verdict;
    }

-- a write failed, or none did
pub write_failed_or_not : (answer : Reported) → (answer ≡ reported.WriteFault) ⊎ (answer ≢ reported.WriteFault)
write_failed_or_not reported.AllPassed = inr (λ e. cc)
write_failed_or_not reported.SomeFailed = inr (λ e. cc)
write_failed_or_not (reported.BadLine number) = inr (λ e. cc)
write_failed_or_not reported.ReadFault = inr (λ e. cc)
write_failed_or_not reported.WriteFault = inl refl
write_failed_or_not reported.Limit = inr (λ e. cc)
