use Rattle.std.proofs.Common.{◌≡◌, ◌∙◌, ◌++◌, ℕ, Bool, List, None, ap, refl, subst}
use Rattle.bits_core.specs.OutboxContents.{OutboxContents}
use Rattle.crypto_services.specs.Sealing.{with_tag}
use Rattle.service_table.specs.declared.service.Service.TheVariants as service
use Rattle.bits_core.specs.declared.parameter.Kind.TheVariants as kind
use Rattle.service_table.specs.Services.{is_approved}
use Rattle.gcm_mode.specs.Filled.{IsFilled}
use Rattle.ssp_slots.specs.Slots.{parameter}
use Rattle.ssp_slots.specs.Refusals.{source_fault}
use Rattle.crypto_services.specs.AtSlots.{slot_at, success}
use Rattle.crypto_services.proofs.UnderKey.{source_is_filled, source_served}
use Rattle.crypto_services.proofs.sealing.seal_iv.Goals as goal

pub returns-clause-serves : goal.returns-clause-serves
returns-clause-serves g c =
    let calls = g.E.Engine.calls in
    let engine = c.args.parts.now.engine in
    let key : List ℕ = parameter (slot_at c.args.parts.now.vault.slots c.args.slot) in
    let given : source_fault (slot_at c.args.parts.now.vault.slots c.args.slot).header kind.Aes (is_approved service.SealIv 0) ≡ None =
    subst (λ (approved : Bool). source_fault (slot_at c.args.parts.now.vault.slots c.args.slot).header kind.Aes approved ≡ None) c.approved-is_approved.ensures c.in_default.ensures.answer in
    let filled : IsFilled c.prepared-prepared.result.now key =
    source_is_filled c.args.parts.now.vault c.source.new.self c.args.slot (is_approved service.SealIv 0) _ given c.in_default.ensures.spent c.prepared-prepared.ensures.prepared in
    source_served _ c.args.parts.now _ c.args.slot kind.Aes (is_approved service.SealIv 0)
    (λ key. calls.seal_after engine key c.args.iv.now c.args.aad.now c.args.text.now)
    (λ key. success (with_tag c.args.tag_length (calls.seal engine key c.args.iv.now c.args.aad.now c.args.text.now)))
    _ _ given c.in_default.ensures.spent (c.seal.ensures.engine key filled) refl refl c.with_indicator-2.ensures
    (ap (λ (outbox : OutboxContents). outbox.bytes) (c.seal.ensures.put key filled) ∙ ap (λ (front : List ℕ). front ++ with_tag c.args.tag_length (calls.seal engine key c.args.iv.now c.args.aad.now c.args.text.now)) c.requires.empty)
