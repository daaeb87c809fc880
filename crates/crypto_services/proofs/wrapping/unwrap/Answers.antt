use Rattle.std.proofs.Common.{◌≡◌, ◌∙◌, ◌∷◌, [], ℕ, Bool, List, None, ap, subst}
use Rattle.bits_core.specs.declared.parameter.Kind.TheVariants as kinds
use Rattle.service_table.specs.declared.service.Service.{Service}
use Rattle.service_table.specs.Services.{is_approved, unwrapping_service}
use Rattle.ssp_slots.specs.Refusals.{source_fault}
use Rattle.crypto_services.specs.declared.outcome.Outcome.{Outcome}
use Rattle.crypto_services.specs.AtSlots.{slot_at}
use Rattle.crypto_services.specs.Indicator.{ServiceUse, indicator}
use Rattle.crypto_services.specs.Wrapping.{unwrap_at}
use Rattle.crypto_services.proofs.TwoSlots.{serves_second, serves_silently, source_within}
use Rattle.crypto_services.proofs.wrapping.unwrap.Goals as goal

pub returns-clause-serves : goal.returns-clause-serves
returns-clause-serves g c =
    let named : List ℕ = c.args.kek ∷ c.args.target ∷ [] in
    let Use : Service → ServiceUse = λ (s : Service). record { service = s; mac_length = 0; named = named } in
    let approved : Bool = is_approved (unwrapping_service c.args.pad) 0 in
    let is_approved_is : c.approved.result ≡ approved = c.approved.ensures ∙ ap (λ (s : Service). is_approved s 0) c.unwrapping-service.ensures in
    let given : source_fault (slot_at c.args.parts.now.vault.slots c.args.kek).header kinds.Kek approved ≡ None =
    subst (λ (b : Bool). source_fault (slot_at c.args.parts.now.vault.slots c.args.kek).header kinds.Kek b ≡ None) is_approved_is c.in_default.ensures.answer in
    let Told : Service → Outcome =
    λ (s : Service). record { status = c.unwrap_into-status.result; failure = None; approved = indicator (Use s) c.unwrap_into-status.result c.unwrap_into-status.new.parts.vault.slots } in
    let told : c.with_indicator-2.result ≡ Told (unwrapping_service c.args.pad) = c.with_indicator-2.ensures ∙ ap Told c.unwrapping-service.ensures in
    serves_silently _ _ _ _ _ _ c.requires.empty
    (serves_second (Use (unwrapping_service c.args.pad)) c.args.parts.now c.unwrap_into-status.new.parts c.source.new.self c.args.kek c.args.target kinds.Kek approved
    (unwrap_at g.E.Engine.calls c.args.parts.now.engine c.args.pad c.args.kind c.args.export c.args.uses c.args.wrapped.now) c.unwrap_into-status.result c.with_indicator-2.result []
    (source_within c.args.parts.now.vault.slots c.args.kek kinds.Kek approved given) given c.in_default.ensures.spent c.unwrap_into-status.ensures.serves told)
