use Rattle.std.proofs.Common.{◌≡◌, List, ℕ, subst, ◌∙◌}
use Rattle.outside.specs.Contents.{Appends}
use Rattle.outside.proofs.Explanations.{explained_by}
use Rattle.stream_calls.specs.PartialWrites.{AppendsPart}
use Rattle.session_runs.specs.SessionRuns.{Answers}
use Rattle.session_runs.specs.Summaries.{summary}
use Rattle.session_runs.proofs.CommandSteps.{tells, on_ok_then, on_err_then}
use Rattle.session_runs.proofs.running.run_session.Goals as goal

pub returns-clause-whole : goal.returns-clause-whole
returns-clause-whole g c =
    let (replies, is, answers) = c.count_replies-tally.ensures.answered in
    let before = g.K.Sink.gained c.args.out.now in
    let now = g.K.Sink.gained c.write_all-written.new.sink in
    let text : c.bytes.result.now ≡ summary replies c.state.result = c.bytes.ensures.bytes ∙ c.write_summary.ensures.written replies is in
    on_ok_then _ c.write_all-written.ensures.whole (λ whole.
    let told : Appends before (summary replies c.state.result) now = subst (λ (xs : List ℕ). Appends before xs now) text whole in
    explained_by (Answers g.E.Engine.calls c.args.session.now c.args.module.now c.count_replies-tally.new.module replies) _ answers (λ events left first.
    tells g.E.Engine.calls c.args.session.now c.args.module.now c.count_replies-tally.new.module replies c.state.result
    (λ told last. Appends before (summary told last) now) events left c.state.ensures.state told first))

pub returns-clause-part : goal.returns-clause-part
returns-clause-part g c =
    let (replies, is, answers) = c.count_replies-tally.ensures.answered in
    let before = g.K.Sink.gained c.args.out.now in
    let now = g.K.Sink.gained c.write_all-written.new.sink in
    let text : c.bytes.result.now ≡ summary replies c.state.result = c.bytes.ensures.bytes ∙ c.write_summary.ensures.written replies is in
    on_err_then _ c.write_all-written.ensures.part (λ part.
    let told : AppendsPart before (summary replies c.state.result) now = subst (λ (xs : List ℕ). AppendsPart before xs now) text part in
    explained_by (Answers g.E.Engine.calls c.args.session.now c.args.module.now c.count_replies-tally.new.module replies) _ answers (λ events left first.
    tells g.E.Engine.calls c.args.session.now c.args.module.now c.count_replies-tally.new.module replies c.state.result
    (λ told last. AppendsPart before (summary told last) now) events left c.state.ensures.state told first))
