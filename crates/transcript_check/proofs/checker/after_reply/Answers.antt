use Rattle.std.proofs.Common.{◌≡◌, true, sym, ap, subst, ◌∙◌}
use Rattle.service_table.specs.Services.{is_permitted}
use Rattle.service_table.specs.declared.state.State.{State}
use Rattle.module_frames.specs.Requests.{request_value, service_for}
use Rattle.module_frames.specs.declared.public_state.PublicState.{PublicState}
use Rattle.transcript_check.proofs.Countable.{found_state, found_countable}
use Rattle.transcript_check.proofs.Leading.{begun_at, refused_at}
use Rattle.transcript_check.proofs.checker.after_reply.Goals as goal

pub answered-requires-clause-countable : goal.answered-requires-clause-countable
answered-requires-clause-countable c = rw c.found-found.ensures (found_countable c.args.command.now c.args.before c.requires)

pub answered-requires-clause-permitted : goal.answered-requires-clause-permitted
answered-requires-clause-permitted c =
    let at_state = ap (λ (p : PublicState). p.state) c.found-found.ensures ∙ found_state c.args.command.now c.args.before in
    let P : State → Type 0 = λ s. is_permitted (service_for (request_value c.in-Ok.request)) s ≡ true in
    subst P (sym at_state) c.in-Ok.ensures.2

pub returns-in-Ok : goal.returns-in-Ok
returns-in-Ok c =
    let at_state = ap (λ (p : PublicState). p.state) c.found-found.ensures ∙ found_state c.args.command.now c.args.before in
    let P : State → Type 0 = λ s. is_permitted (service_for (request_value c.in-Ok.request)) s ≡ true in
    begun_at c.args.before c.args.command.now c.args.head.now (request_value c.in-Ok.request) c.found-found.result c.answered.result c.in-Ok.ensures.0 c.in-Ok.ensures.1 (subst P (sym at_state) c.in-Ok.ensures.2)
    (rw c.found-found.ensures (found_countable c.args.command.now c.args.before c.requires)) c.found-found.ensures c.answered.ensures

pub returns-in-Err : goal.returns-in-Err
returns-in-Err c = rw c.then_some.ensures (refused_at c.args.before c.args.command.now c.args.head.now c.in-Err.reason c.found-found.result c.is_refused_at_once.result c.requires c.in-Err.ensures c.found-found.ensures
    c.is_refused_at_once.ensures.0 c.is_refused_at_once.ensures.1)
