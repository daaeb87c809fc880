use Rattle.std.proofs.Common.{◌≡◌, ◌<◌, ◌≤◌, ◌+◌, ◌++◌, inl, inr, List, ℕ, [], length, take, refl, sym, ◌∙◌, ap, subst, arith, length-append, append-nil}
use Rattle.std.proofs.lemmas.List.{length-take-le}
use Rattle.outside.specs.Contents.{Consumes}
use Rattle.outside.proofs.ConsecutiveCalls.{consumes_none, consumes_both, appends_both}
use Rattle.stream_calls.specs.declared.limits.TheConstants.{STREAM_MAX}
use Rattle.stream_calls.proofs.PartialWrites.{part_behind}
use Rattle.vector_reports.specs.declared.reporting.Reported.{Reported}
use Rattle.stream_calls.specs.Streams.{Streams}
use Rattle.vector_reports.specs.Reporting.{Reports}
use Rattle.vector_reports.specs.Progress.{ReportState, IsLineBegun}
use Rattle.vector_reports.specs.ReportText.{report_lines}
use Rattle.vector_reports.proofs.ChunkSteps.{chunk_none, chunk_both, up_to_both}
use Rattle.vector_reports.proofs.StreamEnds.{beginning, open_written, open_cut, end_written, end_cut, line_cut, bad_written, asked_no_further, all_of, write_failed_or_not}
use Rattle.vector_reports.proofs.reporting.report_stream.Goals as goal

pub loop-taken-init : goal.loop-taken-init
loop-taken-init g c = record {
  reported = ([], consumes_none _, refl, rw c.requires.new (chunk_none g.E.Engine.calls (beginning c.args.engine.now (g.K.Sink.gained c.args.report.now)) [] tt));
  begun = rw c.requires.new (record { not_whole = refl; not_refused = refl; text = record { no_feed = tt; within = omega arith } });
  tally = record { passed = omega arith; checked = omega arith; within = omega arith };
  within = omega arith;
  chunk = refl;
  work = refl;
  reads = refl;
  writes = refl;
}

-- a read failed
pub returns-in-Err-clause-reported : goal.returns-in-Err-clause-reported
returns-in-Err-clause-reported g c =
    let calls = g.E.Engine.calls in
    let i = c.loop-taken.invariant in
    let so_far = i.reported in
    let v = c.args.engine.now in
    let now : ReportState g.row.E.Denot = record { engine = c.loop-taken.engine; tally = c.loop-taken.tally; gained = g.K.Sink.gained c.loop-taken.report } in
    let left = g.S.Source.left c.args.vectors.now in
    let left' = g.S.Source.left c.read_some.new.source in
    let gained = g.K.Sink.gained c.args.report.now in
    let gained' = g.K.Sink.gained c.close_report.new.report in
    let consumes : Consumes left so_far.0 left' = subst (λ xs. Consumes left so_far.0 xs) (sym c.in-Err.ensures.kept) so_far.1 in
    let Ends : Reported → Type 0 = λ answer. Reports calls answer (length c.args.chunk.now) v c.loop-taken.engine (record { left = left; gained = gained }) (record { left = left'; gained = gained' }) in
    elim (write_failed_or_not c.close_report.result) [
      | inl failed ↦ subst Ends (sym failed) (open_cut calls (length c.args.chunk.now) v now so_far.0 c.loop-taken.lines.text left left' gained gained' i.begun.text so_far.3 consumes (c.close_report.ensures.part failed) (omega (arith, so_far.2, c.loop-taken-test.true)))
      | inr whole ↦ subst Ends (sym (c.close_report.ensures.answer whole))
          (open_written calls _ (length c.args.chunk.now) v now so_far.0 c.loop-taken.lines.text left left' gained gained' i.begun.text so_far.3 consumes (c.close_report.ensures.whole whole) (omega (arith, so_far.2, c.loop-taken-test.true))
          (so_far.3.none_bad, refl, omega (arith, so_far.2, c.loop-taken-test.true)))
    ]

-- the source ended
pub returns-in-Ok-eq0-clause-reported : goal.returns-in-Ok-eq0-clause-reported
returns-in-Ok-eq0-clause-reported g c =
    let calls = g.E.Engine.calls in
    let i = c.loop-taken.invariant in
    let so_far = i.reported in
    let v = c.args.engine.now in
    let now : ReportState g.row.E.Denot = record { engine = c.loop-taken.engine; tally = c.loop-taken.tally; gained = g.K.Sink.gained c.loop-taken.report } in
    let left = g.S.Source.left c.args.vectors.now in
    let left' = g.S.Source.left c.read_some.new.source in
    let gained = g.K.Sink.gained c.args.report.now in
    let gained' = g.K.Sink.gained c.report_end.new.report in
    let zero : c.in-Ok-eq0.field-0 ≡ 0 = omega (arith, c.in-Ok-eq0.field-0-test) in
    let none = rw zero at c.in-Ok-eq0.ensures.taken in
    let over = c.in-Ok-eq0.ensures.end zero in
    let consumes : Consumes left so_far.0 left' = subst (λ taken. Consumes left taken left') (append-nil so_far.0) (consumes_both _ _ _ so_far.0 [] so_far.1 none) in
    let below : length so_far.0 < STREAM_MAX = omega (arith, so_far.2, c.loop-taken-test.true) in
    let all = all_of _ _ so_far.0 so_far.1 over in
    let Ends : Reported → Type 0 = λ answer. Reports calls answer (length c.args.chunk.now) v c.report_end.new.engine (record { left = left; gained = gained }) (record { left = left'; gained = gained' }) in
    elim (write_failed_or_not c.report_end.result) [
      | inl failed ↦ (let cut = c.report_end.ensures.write_fault failed in
          subst Ends (sym failed) (end_cut calls (length c.args.chunk.now) v c.report_end.new.engine now so_far.0 c.loop-taken.lines.text cut.1 cut.0 left left' gained gained' i.begun.text so_far.3 cut.2 consumes (below, all) cut.3))
      | inr whole ↦ (let (reads, out, checked, written, is) = c.report_end.ensures.ended whole in
          end_written calls c.report_end.result (length c.args.chunk.now) v c.report_end.new.engine now so_far.0 c.loop-taken.lines.text out reads left left' gained gained' i.begun.text so_far.3 checked is consumes (below, all) written)
    ]

-- a chunk showed a bad line
pub returns-in-Bad-clause-reported : goal.returns-in-Bad-clause-reported
returns-in-Bad-clause-reported g c =
    let calls = g.E.Engine.calls in
    let i = c.loop-taken.invariant in
    let so_far = i.reported in
    let v = c.args.engine.now in
    let gained = g.K.Sink.gained c.args.report.now in
    let start = beginning v gained in
    let now : ReportState g.row.E.Denot = record { engine = c.loop-taken.engine; tally = c.loop-taken.tally; gained = g.K.Sink.gained c.loop-taken.report } in
    let after : ReportState g.row.E.Denot = record { engine = c.report_chunk.new.engine; tally = c.report_chunk.new.tally; gained = g.K.Sink.gained c.report_chunk.new.report } in
    let piece = take c.in-Ok.count c.read_some.new.chunk in
    let long : length piece ≡ c.in-Ok.count = length-take-le c.in-Ok.count c.read_some.new.chunk (omega (arith, c.in-Ok.ensures.size.0)) in
    let (out, checked, written) = c.in-Bad.ensures.bad refl in
    bad_written calls (length c.args.chunk.now) v after (so_far.0 ++ piece) (report_lines 0 so_far.3.reads ++ out) (g.S.Source.left c.args.vectors.now) (g.S.Source.left c.read_some.new.source) gained
    (up_to_both calls start now after [] so_far.0 c.loop-taken.lines.text piece out _ so_far.3 checked)
    (consumes_both _ _ _ _ _ so_far.1 c.in-Ok.ensures.taken)
    (appends_both _ _ _ (report_lines 0 so_far.3.reads) out so_far.3.written written)
    (asked_no_further calls v gained now so_far.0 piece c.loop-taken.lines.text (length c.args.chunk.now) i.begun.text so_far.3 (omega (arith, long, c.in-Ok.ensures.size.0, c.in-Ok.ensures.room, i.chunk))
    (omega (arith, so_far.2, long, length-append so_far.0 piece, c.in-Ok.ensures.size.1, c.loop-taken-test.true)))

pub returns-in-WriteFault-clause-reported : goal.returns-in-WriteFault-clause-reported
returns-in-WriteFault-clause-reported g c =
    let calls = g.E.Engine.calls in
    let i = c.loop-taken.invariant in
    let so_far = i.reported in
    let v = c.args.engine.now in
    let gained = g.K.Sink.gained c.args.report.now in
    let now : ReportState g.row.E.Denot = record { engine = c.loop-taken.engine; tally = c.loop-taken.tally; gained = g.K.Sink.gained c.loop-taken.report } in
    let after : ReportState g.row.E.Denot = record { engine = c.report_chunk.new.engine; tally = c.report_chunk.new.tally; gained = g.K.Sink.gained c.report_chunk.new.report } in
    let piece = take c.in-Ok.count c.read_some.new.chunk in
    let long : length piece ≡ c.in-Ok.count = length-take-le c.in-Ok.count c.read_some.new.chunk (omega (arith, c.in-Ok.ensures.size.0)) in
    let (read, out, checked, part) = c.in-WriteFault.ensures.write_fault refl in
    line_cut calls (length c.args.chunk.now) v after (so_far.0 ++ piece) (report_lines 0 so_far.3.reads ++ out) read (g.S.Source.left c.args.vectors.now) (g.S.Source.left c.read_some.new.source) gained
    (up_to_both calls (beginning v gained) now after [] so_far.0 c.loop-taken.lines.text piece out read so_far.3 checked)
    (consumes_both _ _ _ _ _ so_far.1 c.in-Ok.ensures.taken)
    (part_behind _ _ _ (report_lines 0 so_far.3.reads) out so_far.3.written part)
    (asked_no_further calls v gained now so_far.0 piece c.loop-taken.lines.text (length c.args.chunk.now) i.begun.text so_far.3 (omega (arith, long, c.in-Ok.ensures.size.0, c.in-Ok.ensures.room, i.chunk))
    (omega (arith, so_far.2, long, length-append so_far.0 piece, c.in-Ok.ensures.size.1, c.loop-taken-test.true)))

pub loop-taken-preserved : goal.loop-taken-preserved
loop-taken-preserved g c =
    let calls = g.E.Engine.calls in
    let i = c.loop-taken.invariant in
    let so_far = i.reported in
    let start = beginning c.args.engine.now (g.K.Sink.gained c.args.report.now) in
    let now : ReportState g.row.E.Denot = record { engine = c.loop-taken.engine; tally = c.loop-taken.tally; gained = g.K.Sink.gained c.loop-taken.report } in
    let after : ReportState g.row.E.Denot = record { engine = c.report_chunk.new.engine; tally = c.report_chunk.new.tally; gained = g.K.Sink.gained c.report_chunk.new.report } in
    let piece = take c.in-Ok.count c.read_some.new.chunk in
    let long : length piece ≡ c.in-Ok.count = length-take-le c.in-Ok.count c.read_some.new.chunk (omega (arith, c.in-Ok.ensures.size.0)) in
    let tally = c.in-Good.ensures.tally refl in
    record {
      reported = (
        so_far.0 ++ piece,
        consumes_both _ _ _ _ _ so_far.1 c.in-Ok.ensures.taken,
        omega (arith, so_far.2, long, length-append so_far.0 piece),
        chunk_both calls start now after [] so_far.0 c.loop-taken.lines.text piece c.report_chunk.new.lines.text so_far.3 (c.in-Good.ensures.good refl),
      );
      begun = c.in-Good.ensures.begun refl;
      tally = record { passed = tally.passed; checked = tally.checked; within = omega (arith, tally.within, i.tally.within, long) };
      within = omega (arith, c.in-Ok.ensures.size.1, c.loop-taken-test.true);
      chunk = c.in-Ok.ensures.room ∙ i.chunk;
      work = c.in-Good.ensures.work ∙ i.work;
      reads = c.in-Ok.ensures.faults_unchanged ∙ i.reads;
      writes = c.in-Good.ensures.faults_unchanged (λ e. cc) ∙ i.writes;
    }

-- as many bytes were taken as may be
pub returns-clause-reported : goal.returns-clause-reported
returns-clause-reported g c =
    let calls = g.E.Engine.calls in
    let i = c.loop-taken.invariant in
    let so_far = i.reported in
    let v = c.args.engine.now in
    let now : ReportState g.row.E.Denot = record { engine = c.loop-taken.engine; tally = c.loop-taken.tally; gained = g.K.Sink.gained c.loop-taken.report } in
    let left = g.S.Source.left c.args.vectors.now in
    let left' = g.S.Source.left c.loop-taken.vectors in
    let gained = g.K.Sink.gained c.args.report.now in
    let gained' = g.K.Sink.gained c.close_report-2.new.report in
    let Ends : Reported → Type 0 = λ answer. Reports calls answer (length c.args.chunk.now) v c.loop-taken.engine (record { left = left; gained = gained }) (record { left = left'; gained = gained' }) in
    elim (write_failed_or_not c.close_report-2.result) [
      | inl failed ↦ subst Ends (sym failed) (open_cut calls (length c.args.chunk.now) v now so_far.0 c.loop-taken.lines.text left left' gained gained' i.begun.text so_far.3 so_far.1 (c.close_report-2.ensures.part failed) (omega (arith, so_far.2, i.within)))
      | inr whole ↦ subst Ends (sym (c.close_report-2.ensures.answer whole))
          (open_written calls _ (length c.args.chunk.now) v now so_far.0 c.loop-taken.lines.text left left' gained gained' i.begun.text so_far.3 so_far.1 (c.close_report-2.ensures.whole whole) (omega (arith, so_far.2, i.within))
          (so_far.3.none_bad, refl, omega (arith, so_far.2, i.within, c.loop-taken-test.false)))
    ]
