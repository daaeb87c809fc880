use Rattle.std.proofs.Common.{false, ◌≡◌, ◌<◌, ◌+◌, ◌++◌, [], ◌∷◌, take, drop, length, refl, sym, ◌∙◌, ap, subst, arith, length-drop, take-append-drop}
use Rattle.std.proofs.Math.Seq.{take-add}
use Rattle.std.proofs.lemmas.List.{take_rest, length-take-le}
use Rattle.outside.specs.Contents.{Appends}
use Rattle.outside.proofs.ConsecutiveCalls.{appends_both}
use Rattle.stream_calls.proofs.PartialWrites.{part_behind}
use Rattle.line_input.specs.HeldLines.{HeldLine}
use Rattle.line_input.specs.TextLines.{HasNoLineFeed, ended_line}
use Rattle.vector_suite.specs.declared.lines.VectorRead.TheVariants.{Bad}
use Rattle.vector_reports.specs.Findings.{read_line}
use Rattle.vector_reports.specs.Progress.{ReportState, ChunkReported, CheckedUpTo}
use Rattle.vector_reports.specs.ReportText.{report_line, report_lines}
use Rattle.vector_reports.proofs.ChunkSteps.{chunk_held, chunk_none, chunk_line, chunk_both, up_to_long, rest_up_to, piece_up_to}
use Rattle.vector_reports.proofs.LineSplits.{too_long_first, some_taken}
use Rattle.vector_reports.proofs.ReportLines.{tally_within}
use Rattle.vector_reports.proofs.chunks.report_chunk.Goals as goal

pub loop-done-init : goal.loop-done-init
loop-done-init g c = record {
  within = omega arith;
  begun = c.requires.begun;
  tally = record { passed = c.requires.tally.passed; checked = c.requires.tally.checked; within = omega arith };
  reported = chunk_none g.E.Engine.calls _ c.args.lines.now.text c.requires.begun.text.no_feed;
  faults_unchanged = refl;
  work = refl;
}

-- the rest of the chunk is held
pub returns-in-More-clause-good : goal.returns-in-More-clause-good
returns-in-More-clause-good g c _ =
    let i = c.loop-done.invariant in
    let calls = g.E.Engine.calls in
    let rest = drop c.loop-done.done c.args.chunk.now in
    let mid = c.loop-done.lines.text in
    let fed = (rw (take_rest c.args.chunk.now c.loop-done.done) at c.in-More.ensures.fed).before i.begun.not_refused in
    let text : c.feed.new.self.text ≡ mid ++ rest = ap (λ (l : HeldLine). l.text) fed.0 in
    let start : ReportState g.row.E.Denot = record { engine = c.args.engine.now; tally = c.args.tally.now; gained = g.K.Sink.gained c.args.report.now } in
    let now : ReportState g.row.E.Denot = record { engine = c.loop-done.engine; tally = c.loop-done.tally; gained = g.K.Sink.gained c.loop-done.report } in
    let held : ChunkReported calls now mid rest now (mid ++ rest) = chunk_held calls now mid rest (rw text at fed.1.no_feed) in
    let both = chunk_both calls start now now c.args.lines.now.text (take c.loop-done.done c.args.chunk.now) mid rest (mid ++ rest) i.reported held in
    subst (λ xs. ChunkReported calls start c.args.lines.now.text c.args.chunk.now now xs) (sym text)
    (subst (λ xs. ChunkReported calls start c.args.lines.now.text xs now (mid ++ rest)) (take-append-drop c.loop-done.done c.args.chunk.now) both)

-- the rest of the chunk shows that the line is too long
pub returns-in-TooLong-clause-bad : goal.returns-in-TooLong-clause-bad
returns-in-TooLong-clause-bad g c is =
    let i = c.loop-done.invariant in
    let calls = g.E.Engine.calls in
    let rest = drop c.loop-done.done c.args.chunk.now in
    let mid = c.loop-done.lines.text in
    let fed = (rw (take_rest c.args.chunk.now c.loop-done.done) at c.in-TooLong.ensures.fed).before i.begun.not_refused in
    let start : ReportState g.row.E.Denot = record { engine = c.args.engine.now; tally = c.args.tally.now; gained = g.K.Sink.gained c.args.report.now } in
    let now : ReportState g.row.E.Denot = record { engine = c.loop-done.engine; tally = c.loop-done.tally; gained = g.K.Sink.gained c.loop-done.report } in
    let next : ReportState g.row.E.Denot = record { engine = c.loop-done.engine; tally = c.report_too_long.new.tally; gained = g.K.Sink.gained c.report_too_long.new.report } in
    let second : CheckedUpTo calls now mid rest Bad next (report_line (c.loop-done.tally.lines + 1) Bad) = up_to_long calls now next mid rest (too_long_first false (mid ++ rest) fed.0) refl c.report_too_long.ensures.counted in (
      report_lines c.args.tally.now.lines i.reported.reads ++ report_line (c.loop-done.tally.lines + 1) Bad,
      rest_up_to calls start now next c.args.lines.now.text mid c.args.chunk.now (report_line (c.loop-done.tally.lines + 1) Bad) c.loop-done.done Bad i.reported second,
      appends_both _ _ _ _ _ i.reported.written (c.report_too_long.ensures.whole (λ e. cc)),
    )

pub returns-in-TooLong-clause-write_fault : goal.returns-in-TooLong-clause-write_fault
returns-in-TooLong-clause-write_fault g c is =
    let i = c.loop-done.invariant in
    let calls = g.E.Engine.calls in
    let rest = drop c.loop-done.done c.args.chunk.now in
    let mid = c.loop-done.lines.text in
    let fed = (rw (take_rest c.args.chunk.now c.loop-done.done) at c.in-TooLong.ensures.fed).before i.begun.not_refused in
    let start : ReportState g.row.E.Denot = record { engine = c.args.engine.now; tally = c.args.tally.now; gained = g.K.Sink.gained c.args.report.now } in
    let now : ReportState g.row.E.Denot = record { engine = c.loop-done.engine; tally = c.loop-done.tally; gained = g.K.Sink.gained c.loop-done.report } in
    let next : ReportState g.row.E.Denot = record { engine = c.loop-done.engine; tally = c.report_too_long.new.tally; gained = g.K.Sink.gained c.report_too_long.new.report } in
    let second : CheckedUpTo calls now mid rest Bad next (report_line (c.loop-done.tally.lines + 1) Bad) = up_to_long calls now next mid rest (too_long_first false (mid ++ rest) fed.0) refl c.report_too_long.ensures.counted in (
      Bad,
      report_lines c.args.tally.now.lines i.reported.reads ++ report_line (c.loop-done.tally.lines + 1) Bad,
      rest_up_to calls start now next c.args.lines.now.text mid c.args.chunk.now (report_line (c.loop-done.tally.lines + 1) Bad) c.loop-done.done Bad i.reported second,
      part_behind _ _ _ _ _ i.reported.written (c.report_too_long.ensures.part is),
    )

-- a line became whole, and is bad
pub returns-in-Bad-clause-bad : goal.returns-in-Bad-clause-bad
returns-in-Bad-clause-bad g c _ =
    let i = c.loop-done.invariant in
    let calls = g.E.Engine.calls in
    let rest = drop c.loop-done.done c.args.chunk.now in
    let mid = c.loop-done.lines.text in
    let fed = (rw (take_rest c.args.chunk.now c.loop-done.done) at c.in-Whole.ensures.fed).before i.begun.not_refused in
    let line = c.line.result.now in
    let whole : mid ++ take c.in-Whole.count rest ≡ ended_line line = fed.1 ∙ ap ended_line (sym c.line.ensures.line) in
    let no_feed : HasNoLineFeed line = subst (λ xs. HasNoLineFeed xs) (sym c.line.ensures.line) c.line.ensures.one_line in
    let found = read_line calls c.loop-done.engine line in
    let start : ReportState g.row.E.Denot = record { engine = c.args.engine.now; tally = c.args.tally.now; gained = g.K.Sink.gained c.args.report.now } in
    let now : ReportState g.row.E.Denot = record { engine = c.loop-done.engine; tally = c.loop-done.tally; gained = g.K.Sink.gained c.loop-done.report } in
    let next : ReportState g.row.E.Denot = record { engine = c.report_line.new.engine; tally = c.report_line.new.tally; gained = g.K.Sink.gained c.report_line.new.report } in
    let second : CheckedUpTo calls now mid rest found.read next (report_line (c.loop-done.tally.lines + 1) found.read) =
    piece_up_to calls now next mid rest line c.in-Whole.count whole no_feed c.in-Bad.ensures.engine c.in-Bad.ensures.counted in
    let out = report_lines c.args.tally.now.lines i.reported.reads ++ report_line (c.loop-done.tally.lines + 1) found.read in (
      out,
      subst (λ r. CheckedUpTo calls start c.args.lines.now.text c.args.chunk.now r next out) (c.in-Bad.ensures.bad refl)
          (rest_up_to calls start now next c.args.lines.now.text mid c.args.chunk.now (report_line (c.loop-done.tally.lines + 1) found.read) c.loop-done.done found.read i.reported second),
      appends_both _ _ _ _ _ i.reported.written (c.in-Bad.ensures.whole (λ e. cc)),
    )

pub returns-in-WriteFault-clause-write_fault : goal.returns-in-WriteFault-clause-write_fault
returns-in-WriteFault-clause-write_fault g c _ =
    let i = c.loop-done.invariant in
    let calls = g.E.Engine.calls in
    let rest = drop c.loop-done.done c.args.chunk.now in
    let mid = c.loop-done.lines.text in
    let fed = (rw (take_rest c.args.chunk.now c.loop-done.done) at c.in-Whole.ensures.fed).before i.begun.not_refused in
    let line = c.line.result.now in
    let whole : mid ++ take c.in-Whole.count rest ≡ ended_line line = fed.1 ∙ ap ended_line (sym c.line.ensures.line) in
    let no_feed : HasNoLineFeed line = subst (λ xs. HasNoLineFeed xs) (sym c.line.ensures.line) c.line.ensures.one_line in
    let found = read_line calls c.loop-done.engine line in
    let start : ReportState g.row.E.Denot = record { engine = c.args.engine.now; tally = c.args.tally.now; gained = g.K.Sink.gained c.args.report.now } in
    let now : ReportState g.row.E.Denot = record { engine = c.loop-done.engine; tally = c.loop-done.tally; gained = g.K.Sink.gained c.loop-done.report } in
    let next : ReportState g.row.E.Denot = record { engine = c.report_line.new.engine; tally = c.report_line.new.tally; gained = g.K.Sink.gained c.report_line.new.report } in
    let second : CheckedUpTo calls now mid rest found.read next (report_line (c.loop-done.tally.lines + 1) found.read) =
    piece_up_to calls now next mid rest line c.in-Whole.count whole no_feed c.in-WriteFault.ensures.engine c.in-WriteFault.ensures.counted in (
      found.read,
      report_lines c.args.tally.now.lines i.reported.reads ++ report_line (c.loop-done.tally.lines + 1) found.read,
      rest_up_to calls start now next c.args.lines.now.text mid c.args.chunk.now (report_line (c.loop-done.tally.lines + 1) found.read) c.loop-done.done found.read i.reported second,
      part_behind _ _ _ _ _ i.reported.written (c.in-WriteFault.ensures.part refl),
    )

pub loop-done-smaller : goal.loop-done-smaller
loop-done-smaller g c =
    let i = c.loop-done.invariant in
    let rest = drop c.loop-done.done c.args.chunk.now in
    let fed = (rw (take_rest c.args.chunk.now c.loop-done.done) at c.in-Whole.ensures.fed).before i.begun.not_refused in
    let some : 0 < length (take c.in-Whole.count rest) = some_taken c.loop-done.lines.text c.feed.new.self.text (take c.in-Whole.count rest) i.begun.text.no_feed fed.1 in
    omega (arith, some, length-take-le c.in-Whole.count rest fed.0, fed.0, length-drop c.loop-done.done c.args.chunk.now, c.loop-done-test.true)

-- a line became whole, and is good
pub loop-done-preserved : goal.loop-done-preserved
loop-done-preserved g c =
    let i = c.loop-done.invariant in
    let calls = g.E.Engine.calls in
    let rest = drop c.loop-done.done c.args.chunk.now in
    let mid = c.loop-done.lines.text in
    let fed = (rw (take_rest c.args.chunk.now c.loop-done.done) at c.in-Whole.ensures.fed).before i.begun.not_refused in
    let line = c.line.result.now in
    let piece = take c.in-Whole.count rest in
    let some : 0 < length piece = some_taken mid c.feed.new.self.text piece i.begun.text.no_feed fed.1 in
    let count : length piece ≡ c.in-Whole.count = length-take-le c.in-Whole.count rest fed.0 in
    let whole : mid ++ piece ≡ ended_line line = fed.1 ∙ ap ended_line (sym c.line.ensures.line) in
    let no_feed : HasNoLineFeed line = subst (λ xs. HasNoLineFeed xs) (sym c.line.ensures.line) c.line.ensures.one_line in
    let found = read_line calls c.loop-done.engine line in
    let start : ReportState g.row.E.Denot = record { engine = c.args.engine.now; tally = c.args.tally.now; gained = g.K.Sink.gained c.args.report.now } in
    let now : ReportState g.row.E.Denot = record { engine = c.loop-done.engine; tally = c.loop-done.tally; gained = g.K.Sink.gained c.loop-done.report } in
    let next : ReportState g.row.E.Denot = record { engine = c.report_line.new.engine; tally = c.report_line.new.tally; gained = g.K.Sink.gained c.report_line.new.report } in
    let second : ChunkReported calls now mid piece next [] =
    chunk_line calls now next mid piece line whole no_feed (c.in-Good.ensures.good refl) c.in-Good.ensures.engine c.in-Good.ensures.counted (c.in-Good.ensures.whole (λ e. cc)) in
    let both = chunk_both calls start now next c.args.lines.now.text (take c.loop-done.done c.args.chunk.now) mid piece [] i.reported second in
    let refused : c.feed.new.self.too_long ≡ c.loop-done.lines.too_long = ap (λ (l : HeldLine). l.too_long) fed.3 in
    let text : c.clear.new.self.text ≡ [] = ap (λ (l : HeldLine). l.text) c.clear.ensures in
    record {
      within = omega (arith, fed.0, length-drop c.loop-done.done c.args.chunk.now, c.loop-done-test.true);
      begun = rw c.clear.ensures (record { not_whole = refl; not_refused = refused ∙ i.begun.not_refused; text = record { no_feed = tt; within = omega arith } });
      tally = tally_within c.loop-done.tally c.report_line.new.tally (found.read ∷ []) _ c.in-Good.ensures.counted
          (record { passed = i.tally.passed; checked = i.tally.checked; within = omega arith }) (omega (arith, i.tally.within, some, count));
      reported = rw (text, take-add c.loop-done.done c.in-Whole.count c.args.chunk.now) both;
      faults_unchanged = c.in-Good.ensures.faults_unchanged (λ e. cc) ∙ i.faults_unchanged;
      work = c.in-Good.ensures.work ∙ i.work;
    }
