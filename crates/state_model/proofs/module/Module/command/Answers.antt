use Rattle.std.proofs.Common.{[], sym, subst, ap, ◌∙◌}
use Rattle.bits_core.specs.ByteList.{IsBytes}
use Rattle.outside.proofs.Explanations.{explained_by}
use Rattle.state_model.specs.ModuleView.{ModuleView}
use Rattle.state_model.specs.Represents.{Represents, IsRepresented}
use Rattle.state_model.specs.Step.{step}
use Rattle.state_model.proofs.Lawfulness.{told_lawful}
use Rattle.state_model.proofs.Meanings.{answer_means}
use Rattle.state_model.proofs.Replying.{replied}
use Rattle.state_model.proofs.Residues.{clean_of}
use Rattle.state_model.proofs.module.Module.command.Goals as goal

pub returns-clause-step : goal.returns-clause-step
returns-clause-step g c =
    explained_by _ _ c.step-outcome.ensures.answer (λ events left answer s represents.
    let result = answer s represents in
    let public = ap (λ (m : ModuleView g.row.E.Denot). m.public) c.self-2.view_is in (
      record {
        represents = result.0.represents;
        answer = rw (c.service-reply.ensures, c.sequence-number.ensures, public)
            (replied c.args.command.now (step g.E.Engine.calls s events c.args.command.now) c.step-outcome.new.self c.step-outcome.result.approved c.step-outcome.result.status
            c.step-outcome.new.block c.step-outcome.new.payload.bytes result.0 c.step-outcome.ensures.approved);
      },
      result.1,
    ))

pub returns-clause-noise_failed : goal.returns-clause-noise_failed
returns-clause-noise_failed g c fault code =
    c.step-outcome.ensures.noise_failed fault (sym (ap (λ (m : ModuleView g.row.E.Denot). m.public.error_code) c.self-2.view_is) ∙ code)

pub returns-clause-represented : goal.returns-clause-represented
returns-clause-represented g c =
    let Held : ModuleView g.row.E.Denot → Type 0 = λ m. IsRepresented m in
    subst Held c.self-2.view_is c.self-2.invariant

pub returns-clause-clean : goal.returns-clause-clean
returns-clause-clean g c = clean_of (returns-clause-represented g c)

pub returns-clause-meaning : goal.returns-clause-meaning
returns-clause-meaning g c standard =
    let held = c.self.invariant in
    let At : ModuleView g.row.E.Denot → Type 0 = λ m. Represents m held.0 in
    let represents : Represents c.args.self.now held.0 = subst At c.self.view_is held.1 in
    let answer = c.step-outcome.ensures.answer.some in
    let result = answer.1 [] held.0 represents in
    answer_means g.E.Engine.calls standard c.args.self.now c.step-outcome.new.self held.0 _ c.args.command.now c.step-outcome.result.status
    c.step-outcome.new.block c.step-outcome.new.payload.bytes represents result.0

pub returns-clause-lawful : goal.returns-clause-lawful
returns-clause-lawful g c =
    let held = c.self.invariant in
    let At : ModuleView g.row.E.Denot → Type 0 = λ m. Represents m held.0 in
    let represents : Represents c.args.self.now held.0 = subst At c.self.view_is held.1 in
    let explained = returns-clause-step g c in
    let are_bytes : IsBytes c.args.command.now.body = subst (λ body. IsBytes body) c.body.ensures.body c.known_bytes.ensures in
    told_lawful g.E.Engine.calls g.met.E.Engine.keeps c.args.self.now _ held.0 _ c.args.command.now _ are_bytes represents (explained.some.1 [] held.0 represents).0
