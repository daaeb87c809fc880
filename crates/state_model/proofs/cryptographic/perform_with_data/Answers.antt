use Rattle.std.proofs.Common.{true, false, refl, ap}
use Rattle.outside.proofs.Explanations.{explained_none, explained_by}
use Rattle.module_frames.specs.Requests.{request_value}
use Rattle.module_frames.specs.Requests as request
use Rattle.state_model.proofs.Performing.{performed, performed_undrawn}
use Rattle.state_model.proofs.cryptographic.perform_with_data.Goals as goal

pub returns-in-Hash-clause-performs : goal.returns-in-Hash-clause-performs
returns-in-Hash-clause-performs g c =
    explained_none _ _ (performed_undrawn g.E.Engine.calls (request.Hash c.in-Hash.alg c.in-Hash.text.now) (request_value c.args.request.now) c.args.parts.now c.hash.new.parts c.hash.result c.hash.new.port.outbox.now.bytes
    (ap request_value c.in-Hash.is) (λ samples events. refl) c.hash.ensures.serves)

pub returns-in-Mac-clause-performs : goal.returns-in-Mac-clause-performs
returns-in-Mac-clause-performs g c =
    explained_none _ _ (performed_undrawn g.E.Engine.calls (request.Mac c.in-Mac.slot c.in-Mac.alg c.in-Mac.length c.in-Mac.text.now) (request_value c.args.request.now) c.args.parts.now c.mac.new.parts c.mac.result c.mac.new.port.outbox.now.bytes
    (ap request_value c.in-Mac.is) (λ samples events. refl) c.mac.ensures.serves)

pub returns-in-Seal-clause-performs : goal.returns-in-Seal-clause-performs
returns-in-Seal-clause-performs g c =
    explained_by _ _ c.seal.ensures.serves (λ events left serves samples what counts same.
    performed g.E.Engine.calls (request.Seal c.in-Seal.slot c.in-Seal.length c.in-Seal.aad.now c.in-Seal.text.now) (request_value c.args.request.now) c.args.parts.now c.seal.new.parts c.seal.result c.seal.new.port.outbox.now.bytes samples events left
    (ap request_value c.in-Seal.is) (serves samples counts) what same)

pub returns-in-SealIv-clause-performs : goal.returns-in-SealIv-clause-performs
returns-in-SealIv-clause-performs g c =
    explained_none _ _ (performed_undrawn g.E.Engine.calls (request.SealIv c.in-SealIv.slot c.in-SealIv.length c.in-SealIv.iv.now c.in-SealIv.aad.now c.in-SealIv.text.now) (request_value c.args.request.now) c.args.parts.now c.seal_iv.new.parts c.seal_iv.result c.seal_iv.new.port.outbox.now.bytes
    (ap request_value c.in-SealIv.is) (λ samples events. refl) c.seal_iv.ensures.serves)

pub returns-in-Open-clause-performs : goal.returns-in-Open-clause-performs
returns-in-Open-clause-performs g c =
    explained_none _ _ (performed_undrawn g.E.Engine.calls (request.Open c.in-Open.slot c.in-Open.iv.now c.in-Open.aad.now c.in-Open.text.now c.in-Open.tag.now) (request_value c.args.request.now) c.args.parts.now c.open.new.parts c.open.result c.open.new.port.outbox.now.bytes
    (ap request_value c.in-Open.is) (λ samples events. refl) c.open.ensures.serves)

pub returns-in-Wrap-clause-performs : goal.returns-in-Wrap-clause-performs
returns-in-Wrap-clause-performs g c =
    explained_none _ _ (performed_undrawn g.E.Engine.calls (request.Wrap false c.in-Wrap.kek c.in-Wrap.second) (request_value c.args.request.now) c.args.parts.now c.wrap.new.parts c.wrap.result c.wrap.new.port.outbox.now.bytes
    (ap request_value c.in-Wrap.is) (λ samples events. refl) c.wrap.ensures.serves)

pub returns-in-WrapPad-clause-performs : goal.returns-in-WrapPad-clause-performs
returns-in-WrapPad-clause-performs g c =
    explained_none _ _ (performed_undrawn g.E.Engine.calls (request.Wrap true c.in-WrapPad.kek c.in-WrapPad.second) (request_value c.args.request.now) c.args.parts.now c.wrap-in-WrapPad.new.parts c.wrap-in-WrapPad.result c.wrap-in-WrapPad.new.port.outbox.now.bytes
    (ap request_value c.in-WrapPad.is) (λ samples events. refl) c.wrap-in-WrapPad.ensures.serves)

pub returns-in-Random-clause-performs : goal.returns-in-Random-clause-performs
returns-in-Random-clause-performs g c =
    explained_by _ _ c.random.ensures.serves (λ events left serves samples what counts same.
    performed g.E.Engine.calls (request.Random c.in-Random.length c.in-Random.additional.now) (request_value c.args.request.now) c.args.parts.now c.random.new.parts c.random.result c.random.new.port.outbox.now.bytes samples events left
    (ap request_value c.in-Random.is) (serves samples counts) what same)
