use Rattle.std.proofs.Common.{◌≡◌, ◌≢◌, ◌+◌, ◌++◌, [], ◌∷◌, true, false, append-nil, refl, sym, ◌∙◌, ap, subst}
use Rattle.outside.specs.Contents.{Appends}
use Rattle.outside.proofs.ConsecutiveCalls.{appends_both}
use Rattle.stream_calls.specs.PartialWrites.{AppendsPart}
use Rattle.stream_calls.proofs.PartialWrites.{part_in_front, part_behind}
use Rattle.line_input.specs.HeldLines.{HeldLine}
use Rattle.vector_reports.specs.Findings.{read_line}
use Rattle.vector_reports.specs.Progress.{ReportState, EndChecked, tally_after, closing_line}
use Rattle.vector_reports.specs.ReportText.{report_line, last_line}
use Rattle.vector_reports.proofs.EndSteps.{end_none, end_line, nothing_held, closing_good, answer_good, answer_none, closing_bad, answer_bad}
use Rattle.vector_reports.proofs.reporting.report_end.Goals as goal

-- no byte is held
pub returns-then-not-rest-clause-ended : goal.returns-then-not-rest-clause-ended
returns-then-not-rest-clause-ended g c whole =
    let before : ReportState g.row.E.Denot = record { engine = c.args.engine.now; tally = c.args.tally.now; gained = g.K.Sink.gained c.args.report.now } in
    let off : c.rest.result ≡ false = cc in
    let none : c.args.lines.now.text ≡ [] = nothing_held c.rest.result c.args.lines.now.too_long c.args.lines.now.text c.rest.ensures.held off c.requires.begun.not_refused in (
      [],
      last_line c.args.tally.now.passed c.args.tally.now.checked,
      end_none g.E.Engine.calls before c.args.lines.now.text none,
      c.conclude.ensures.whole whole,
      c.conclude.ensures.answer whole ∙ answer_none c.args.tally.now,
    )

pub returns-then-not-rest-clause-write_fault : goal.returns-then-not-rest-clause-write_fault
returns-then-not-rest-clause-write_fault g c failed =
    let before : ReportState g.row.E.Denot = record { engine = c.args.engine.now; tally = c.args.tally.now; gained = g.K.Sink.gained c.args.report.now } in
    let off : c.rest.result ≡ false = cc in
    let none : c.args.lines.now.text ≡ [] = nothing_held c.rest.result c.args.lines.now.too_long c.args.lines.now.text c.rest.ensures.held off c.requires.begun.not_refused in (
      [],
      last_line c.args.tally.now.passed c.args.tally.now.checked,
      end_none g.E.Engine.calls before c.args.lines.now.text none,
      c.conclude.ensures.part failed,
    )

-- the last line is good
pub returns-in-Good-clause-ended : goal.returns-in-Good-clause-ended
returns-in-Good-clause-ended g c whole =
    let calls = g.E.Engine.calls in
    let before : ReportState g.row.E.Denot = record { engine = c.args.engine.now; tally = c.args.tally.now; gained = g.K.Sink.gained c.args.report.now } in
    let held = c.args.lines.now.text in
    let same : c.line.result.now ≡ held = c.line.ensures.line ∙ ap (λ (l : HeldLine). l.text) c.rest.ensures.stands in
    let found = read_line calls c.args.engine.now c.line.result.now in
    let first = report_line (c.args.tally.now.lines + 1) found.read in
    let last = last_line c.report_line.new.tally.passed c.report_line.new.tally.checked in
    let closing = closing_good c.args.tally.now c.report_line.new.tally found.read (c.in-Good.ensures.good refl) c.in-Good.ensures.counted in
    let some : held ≢ [] = (c.rest.ensures.held.0 (cc)).0 in
    let line : EndChecked calls before c.line.result.now (found.read ∷ []) found.engine (first ++ closing_line (tally_after c.args.tally.now (found.read ∷ [])) (found.read ∷ [])) =
    end_line calls before c.line.result.now (λ e. some (sym same ∙ e)) in
    let checked : EndChecked calls before held (found.read ∷ []) c.report_line.new.engine (first ++ last) =
    subst (λ v. EndChecked calls before held (found.read ∷ []) v (first ++ last)) (sym c.in-Good.ensures.engine)
    (subst (λ xs. EndChecked calls before held (found.read ∷ []) found.engine (first ++ xs)) closing
    (subst (λ xs. EndChecked calls before xs (found.read ∷ []) found.engine (first ++ closing_line (tally_after c.args.tally.now (found.read ∷ [])) (found.read ∷ []))) same line)) in (
      found.read ∷ [],
      first ++ last,
      checked,
      appends_both _ _ _ first last (c.in-Good.ensures.whole (λ e. cc)) (c.conclude-in-Good.ensures.whole whole),
      c.conclude-in-Good.ensures.answer whole ∙ answer_good c.args.tally.now c.report_line.new.tally found.read (c.in-Good.ensures.good refl) c.in-Good.ensures.counted,
    )

pub returns-in-Good-clause-write_fault : goal.returns-in-Good-clause-write_fault
returns-in-Good-clause-write_fault g c failed =
    let calls = g.E.Engine.calls in
    let before : ReportState g.row.E.Denot = record { engine = c.args.engine.now; tally = c.args.tally.now; gained = g.K.Sink.gained c.args.report.now } in
    let held = c.args.lines.now.text in
    let same : c.line.result.now ≡ held = c.line.ensures.line ∙ ap (λ (l : HeldLine). l.text) c.rest.ensures.stands in
    let found = read_line calls c.args.engine.now c.line.result.now in
    let first = report_line (c.args.tally.now.lines + 1) found.read in
    let last = last_line c.report_line.new.tally.passed c.report_line.new.tally.checked in
    let closing = closing_good c.args.tally.now c.report_line.new.tally found.read (c.in-Good.ensures.good refl) c.in-Good.ensures.counted in
    let some : held ≢ [] = (c.rest.ensures.held.0 (cc)).0 in
    let line : EndChecked calls before c.line.result.now (found.read ∷ []) found.engine (first ++ closing_line (tally_after c.args.tally.now (found.read ∷ [])) (found.read ∷ [])) =
    end_line calls before c.line.result.now (λ e. some (sym same ∙ e)) in
    let checked : EndChecked calls before held (found.read ∷ []) c.report_line.new.engine (first ++ last) =
    subst (λ v. EndChecked calls before held (found.read ∷ []) v (first ++ last)) (sym c.in-Good.ensures.engine)
    (subst (λ xs. EndChecked calls before held (found.read ∷ []) found.engine (first ++ xs)) closing
    (subst (λ xs. EndChecked calls before xs (found.read ∷ []) found.engine (first ++ closing_line (tally_after c.args.tally.now (found.read ∷ [])) (found.read ∷ []))) same line)) in (
      found.read ∷ [],
      first ++ last,
      checked,
      part_behind _ _ _ first last (c.in-Good.ensures.whole (λ e. cc)) (c.conclude-in-Good.ensures.part failed),
    )

-- the last line is bad
pub returns-in-Bad-clause-ended : goal.returns-in-Bad-clause-ended
returns-in-Bad-clause-ended g c _ =
    let calls = g.E.Engine.calls in
    let before : ReportState g.row.E.Denot = record { engine = c.args.engine.now; tally = c.args.tally.now; gained = g.K.Sink.gained c.args.report.now } in
    let held = c.args.lines.now.text in
    let same : c.line.result.now ≡ held = c.line.ensures.line ∙ ap (λ (l : HeldLine). l.text) c.rest.ensures.stands in
    let found = read_line calls c.args.engine.now c.line.result.now in
    let first = report_line (c.args.tally.now.lines + 1) found.read in
    let closing = closing_bad c.args.tally.now found.read (c.in-Bad.ensures.bad refl) in
    let some : held ≢ [] = (c.rest.ensures.held.0 (cc)).0 in
    let line : EndChecked calls before c.line.result.now (found.read ∷ []) found.engine (first ++ closing_line (tally_after c.args.tally.now (found.read ∷ [])) (found.read ∷ [])) =
    end_line calls before c.line.result.now (λ e. some (sym same ∙ e)) in
    let checked : EndChecked calls before held (found.read ∷ []) c.report_line.new.engine first =
    subst (λ v. EndChecked calls before held (found.read ∷ []) v first) (sym c.in-Bad.ensures.engine)
    (subst (λ xs. EndChecked calls before held (found.read ∷ []) found.engine xs) (ap (λ xs. first ++ xs) closing ∙ append-nil first)
    (subst (λ xs. EndChecked calls before xs (found.read ∷ []) found.engine (first ++ closing_line (tally_after c.args.tally.now (found.read ∷ [])) (found.read ∷ []))) same line)) in (
      found.read ∷ [],
      first,
      checked,
      c.in-Bad.ensures.whole (λ e. cc),
      answer_bad c.args.tally.now c.report_line.new.tally found.read (c.in-Bad.ensures.bad refl) c.in-Bad.ensures.counted,
    )

pub returns-in-WriteFault-clause-write_fault : goal.returns-in-WriteFault-clause-write_fault
returns-in-WriteFault-clause-write_fault g c _ =
    let calls = g.E.Engine.calls in
    let before : ReportState g.row.E.Denot = record { engine = c.args.engine.now; tally = c.args.tally.now; gained = g.K.Sink.gained c.args.report.now } in
    let held = c.args.lines.now.text in
    let same : c.line.result.now ≡ held = c.line.ensures.line ∙ ap (λ (l : HeldLine). l.text) c.rest.ensures.stands in
    let found = read_line calls c.args.engine.now c.line.result.now in
    let first = report_line (c.args.tally.now.lines + 1) found.read in
    let last = closing_line (tally_after c.args.tally.now (found.read ∷ [])) (found.read ∷ []) in
    let some : held ≢ [] = (c.rest.ensures.held.0 (cc)).0 in
    let line : EndChecked calls before c.line.result.now (found.read ∷ []) found.engine (first ++ last) = end_line calls before c.line.result.now (λ e. some (sym same ∙ e)) in
    let checked : EndChecked calls before held (found.read ∷ []) c.report_line.new.engine (first ++ last) =
    subst (λ v. EndChecked calls before held (found.read ∷ []) v (first ++ last)) (sym c.in-WriteFault.ensures.engine)
    (subst (λ xs. EndChecked calls before xs (found.read ∷ []) found.engine (first ++ last)) same line) in (
      found.read ∷ [],
      first ++ last,
      checked,
      part_in_front _ _ first last (c.in-WriteFault.ensures.part refl),
    )
