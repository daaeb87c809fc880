use Rattle.std.proofs.Common.{true, false, refl, sym, ap, ◌∙◌}
use Rattle.outside.proofs.Explanations.{explained_none, explained_by}
use Rattle.bits_core.specs.OutboxContents.{OutboxContents}
use Rattle.service_table.specs.declared.status.Status.TheVariants as status
use Rattle.service_table.specs.Numbers.{service_numbered}
use Rattle.module_frames.specs.PublicState.{sequence_block}
use Rattle.state_model.specs.ModuleView.{ModuleView}
use Rattle.state_model.specs.Step.{request_at, number_taken}
use Rattle.state_model.proofs.Sequences.{step_in_order, step_out_of_order, same_expected, told_order, late_leaves}
use Rattle.state_model.proofs.Statuses.{not_indicated}
use Rattle.state_model.proofs.module.Module.step.Goals as goal

pub returns-then-not-take_number-clause-answer : goal.returns-then-not-take_number-clause-answer
returns-then-not-take_number-clause-answer g c = explained_none _ _ (λ events s represents.
    let late = told_order c.args.self.now.public.next_sequence s.shared.public.next_sequence c.args.command.now.sequence c.sequence.result false c.if-not-take_number.ensures.in_order c.sequence.ensures (same_expected represents) in
    rw (step_out_of_order g.E.Engine.calls s events c.args.command.now late, c.management_outcome.ensures) (
      late_leaves events _ _ represents (c.if-not-take_number.ensures.stays refl)
          (c.sequence_block.ensures ∙ ap (λ (m : ModuleView g.row.E.Denot). sequence_block m.public) c.self.view_is) (ap (λ (contents : OutboxContents). contents.bytes) c.requires.payload),
      refl,
    ))

pub returns-then-not-take_number-clause-approved : goal.returns-then-not-take_number-clause-approved
returns-then-not-take_number-clause-approved g c = rw c.management_outcome.ensures
    (sym (not_indicated (request_at (service_numbered c.args.command.now.service) c.args.command.now.body) status.OutOfOrder _ refl))

pub returns-clause-answer : goal.returns-clause-answer
returns-clause-answer g c = explained_by _ _ c.dispatch.ensures.answer (λ events left answer s represents.
    let order = told_order c.args.self.now.public.next_sequence s.shared.public.next_sequence c.args.command.now.sequence c.sequence.result true c.if-not-take_number.ensures.in_order c.sequence.ensures (same_expected represents) in
    let there = c.if-not-take_number.ensures.taken refl s represents in
    let numbered = rw c.sequence.ensures at there in
    rw (step_in_order g.E.Engine.calls s events c.args.command.now order)
    (answer (number_taken s c.args.command.now.sequence) numbered))
