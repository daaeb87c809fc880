use Rattle.std.proofs.Common.{◌≡◌, ◌∙◌, ◌∷◌, [], ℕ, Bool, List, None, ap, subst}
use Rattle.bits_core.specs.declared.parameter.Kind.TheVariants as kinds
use Rattle.service_table.specs.declared.service.Service.{Service}
use Rattle.service_table.specs.Services.{is_approved, wrapping_service}
use Rattle.ssp_slots.specs.Refusals.{source_fault}
use Rattle.crypto_services.specs.declared.outcome.Outcome.{Outcome}
use Rattle.crypto_services.specs.AtSlots.{slot_at}
use Rattle.crypto_services.specs.Indicator.{ServiceUse, indicator}
use Rattle.crypto_services.specs.Wrapping.{wrap_at}
use Rattle.crypto_services.proofs.TwoSlots.{serves_second, source_within}
use Rattle.crypto_services.proofs.wrapping.wrap.Goals as goal

pub returns-clause-serves : goal.returns-clause-serves
returns-clause-serves g c =
    let named : List ℕ = c.args.kek ∷ c.args.second ∷ [] in
    let Use : Service → ServiceUse = λ (s : Service). record { service = s; mac_length = 0; named = named } in
    let approved : Bool = is_approved (wrapping_service c.args.pad) 0 in
    let is_approved_is : c.approved.result ≡ approved = c.approved.ensures ∙ ap (λ (s : Service). is_approved s 0) c.wrapping-service.ensures in
    let given : source_fault (slot_at c.args.parts.now.vault.slots c.args.kek).header kinds.Kek approved ≡ None =
    subst (λ (b : Bool). source_fault (slot_at c.args.parts.now.vault.slots c.args.kek).header kinds.Kek b ≡ None) is_approved_is c.in_default.ensures.answer in
    let Told : Service → Outcome =
    λ (s : Service). record { status = c.wrap_second-status.result; failure = None; approved = indicator (Use s) c.wrap_second-status.result c.wrap_second-status.new.parts.vault.slots } in
    let told : c.with_indicator-2.result ≡ Told (wrapping_service c.args.pad) = c.with_indicator-2.ensures ∙ ap Told c.wrapping-service.ensures in
    serves_second (Use (wrapping_service c.args.pad)) c.args.parts.now c.wrap_second-status.new.parts c.source.new.self c.args.kek c.args.second kinds.Kek approved
    (wrap_at g.E.Engine.calls c.args.parts.now.engine c.args.pad) c.wrap_second-status.result c.with_indicator-2.result c.wrap_second-status.new.port.outbox.now.bytes
    (source_within c.args.parts.now.vault.slots c.args.kek kinds.Kek approved given) given c.in_default.ensures.spent c.wrap_second-status.ensures.serves told
