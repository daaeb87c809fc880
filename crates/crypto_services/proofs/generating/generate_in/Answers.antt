use Rattle.std.proofs.Common.{◌∷◌, ◌∙◌, [], None, refl, ap}
use Rattle.service_table.specs.declared.service.Service.TheVariants as service
use Rattle.service_table.specs.declared.status.Status.{Status}
use Rattle.crypto_services.specs.declared.outcome.Outcome.{Outcome}
use Rattle.crypto_services.specs.Drawing.{generate_result}
use Rattle.crypto_services.specs.Indicator.{indicator}
use Rattle.outside.proofs.Explanations.{explained_by}
use Rattle.crypto_services.proofs.DrawServed.{draw_failed, draw_settled}
use Rattle.crypto_services.proofs.Generated.{generated, not_generated}
use Rattle.crypto_services.proofs.generating.generate_in.Goals as goal

pub returns-in-Err-clause-serves : goal.returns-in-Err-clause-serves
returns-in-Err-clause-serves g c =
    explained_by _ _ c.in-Err.ensures.drawn
    (λ events left drawn samples counts.
    draw_failed _ _ (generate_result c.args.target c.args.header.now) c.args.parts.now _ c.in-Err.failure c.noise_failed.result _ left (drawn samples counts).0 refl c.noise_failed.ensures refl)

pub returns-in-Ok-clause-serves : goal.returns-in-Ok-clause-serves
returns-in-Ok-clause-serves g c =
    explained_by _ _ c.in_default.ensures.drawn
    (λ events left drawn samples counts.
    let one = drawn samples counts in
    draw_settled _ _ (generate_result c.args.target c.args.header.now) c.args.parts.now _ c.draw_into-drawn.new.out c.with_indicator.result _ left one.0 one.1
    (generated _ c.args.parts.now _ c.args.target c.args.header.now c.draw_into-drawn.new.out c.with_indicator.result c.in-Ok.ensures.answer c.in-Ok.ensures.filled c.with_indicator.ensures))

pub returns-in-Err-answer-clause-serves : goal.returns-in-Err-answer-clause-serves
returns-in-Err-answer-clause-serves g c =
    let Told : Status → Outcome = λ (s : Status). record {
      status = s;
      failure = None;
      approved = indicator (record { service = service.Generate; mac_length = 0; named = c.args.target ∷ [] }) s c.put-answer.new.self.slots;
    } in
    explained_by _ _ c.in_default.ensures.drawn
    (λ events left drawn samples counts.
    let one = drawn samples counts in
    draw_settled _ _ (generate_result c.args.target c.args.header.now) c.args.parts.now _ c.draw_into-drawn.new.out c.with_indicator-in-Err-answer.result _ left one.0 one.1
    (not_generated _ c.args.parts.now _ c.args.target c.args.header.now c.draw_into-drawn.new.out c.in-Err-answer.fault c.with_indicator-in-Err-answer.result c.in-Err-answer.ensures.answer
    c.in-Err-answer.ensures.refused_unchanged (c.with_indicator-in-Err-answer.ensures ∙ ap Told c.status_of.ensures)))
