use Rattle.std.proofs.Common.{true, false, refl, ap}
use Rattle.outside.proofs.Explanations.{explained_none, explained_by}
use Rattle.module_frames.specs.Requests.{request_value}
use Rattle.module_frames.specs.Requests as request
use Rattle.state_model.proofs.Performing.{performed, performed_undrawn}
use Rattle.state_model.proofs.cryptographic.perform_without_data.Goals as goal

pub returns-in-MacVerify-clause-performs : goal.returns-in-MacVerify-clause-performs
returns-in-MacVerify-clause-performs g c =
    explained_none _ _ (performed_undrawn g.E.Engine.calls (request.MacVerify c.in-MacVerify.slot c.in-MacVerify.alg c.in-MacVerify.tag.now c.in-MacVerify.text.now) (request_value c.args.request.now) c.args.parts.now c.mac_verify.new.parts c.mac_verify.result c.mac_verify.new.port.outbox.now.bytes
    (ap request_value c.in-MacVerify.is) (λ samples events. refl) c.mac_verify.ensures.serves)

pub returns-in-Unwrap-clause-performs : goal.returns-in-Unwrap-clause-performs
returns-in-Unwrap-clause-performs g c =
    explained_none _ _ (performed_undrawn g.E.Engine.calls (request.Unwrap false c.in-Unwrap.kek c.in-Unwrap.target c.in-Unwrap.kind c.in-Unwrap.export c.in-Unwrap.uses c.in-Unwrap.wrapped.now) (request_value c.args.request.now) c.args.parts.now c.unwrap.new.parts c.unwrap.result c.unwrap.new.port.outbox.now.bytes
    (ap request_value c.in-Unwrap.is) (λ samples events. refl) c.unwrap.ensures.serves)

pub returns-in-UnwrapPad-clause-performs : goal.returns-in-UnwrapPad-clause-performs
returns-in-UnwrapPad-clause-performs g c =
    explained_none _ _ (performed_undrawn g.E.Engine.calls (request.Unwrap true c.in-UnwrapPad.kek c.in-UnwrapPad.target c.in-UnwrapPad.kind c.in-UnwrapPad.export c.in-UnwrapPad.uses c.in-UnwrapPad.wrapped.now) (request_value c.args.request.now) c.args.parts.now c.unwrap-in-UnwrapPad.new.parts c.unwrap-in-UnwrapPad.result c.unwrap-in-UnwrapPad.new.port.outbox.now.bytes
    (ap request_value c.in-UnwrapPad.is) (λ samples events. refl) c.unwrap-in-UnwrapPad.ensures.serves)

pub returns-in-Derive-clause-performs : goal.returns-in-Derive-clause-performs
returns-in-Derive-clause-performs g c =
    explained_none _ _ (performed_undrawn g.E.Engine.calls (request.Derive c.in-Derive.source c.in-Derive.target c.in-Derive.kind c.in-Derive.export c.in-Derive.uses c.in-Derive.length c.in-Derive.label.now c.in-Derive.context.now) (request_value c.args.request.now) c.args.parts.now c.derive.new.parts c.derive.result c.derive.new.port.outbox.now.bytes
    (ap request_value c.in-Derive.is) (λ samples events. refl) c.derive.ensures.serves)

pub returns-in-Generate-clause-performs : goal.returns-in-Generate-clause-performs
returns-in-Generate-clause-performs g c =
    explained_by _ _ c.generate.ensures.serves (λ events left serves samples what counts same.
    performed g.E.Engine.calls (request.Generate c.in-Generate.target c.in-Generate.header c.in-Generate.length) (request_value c.args.request.now) c.args.parts.now c.generate.new.parts c.generate.result c.generate.new.port.outbox.now.bytes samples events left
    (ap request_value c.in-Generate.is) (serves samples counts) what same)

pub returns-in-Reseed-clause-performs : goal.returns-in-Reseed-clause-performs
returns-in-Reseed-clause-performs g c =
    explained_by _ _ c.reseed.ensures.serves (λ events left serves samples what counts same.
    performed g.E.Engine.calls (request.Reseed c.in-Reseed.additional.now) (request_value c.args.request.now) c.args.parts.now c.reseed.new.parts c.reseed.result c.reseed.new.port.outbox.now.bytes samples events left
    (ap request_value c.in-Reseed.is) (serves samples counts) what same)
