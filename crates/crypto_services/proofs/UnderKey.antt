-- A service that gives data under the AES key of one slot, by what is prepared of the key.
use Rattle.std.proofs.Common.{◌≡◌, ◌∙◌, ℕ, Bool, List, None, refl, sym, ap, subst}
use Rattle.bits_core.specs.declared.parameter.Kind.{Kind}
use Rattle.bits_core.specs.declared.parameter.Kind.TheVariants as kind
use Rattle.gcm_mode.specs.declared.prepared_key.Prepared.{Prepared}
use Rattle.gcm_mode.specs.Filled.{IsFilled}
use Rattle.service_table.specs.declared.status.Status.{Status}
use Rattle.ssp_slots.specs.declared.slot.Slot.{Slot}
use Rattle.ssp_slots.specs.PreparedKeys.{IsPreparedFor, IsFilledOrWiped}
use Rattle.ssp_slots.specs.Refusals.{source_fault}
use Rattle.ssp_slots.specs.Slots.{Contents, parameter, spent_slot, spent_in}
use Rattle.crypto_services.specs.declared.outcome.Outcome.{Outcome}
use Rattle.crypto_services.specs.declared.parts.Parts.{Parts}
use Rattle.crypto_services.specs.AtSlots.{Answer, SlotsResult, slot_at, on_slot, on_source, source}
use Rattle.crypto_services.specs.Indicator.{ServiceUse, indicator}
use Rattle.crypto_services.specs.Serves.{Serves}
use Rattle.crypto_services.proofs.Sourcing.{source_given}
use Rattle.crypto_services.proofs.TwoSlots.{source_is_prepared, source_within, spent_at}

-- what is prepared of an AES key stays filled with it where a use was spent
pub source_is_filled : (before after : Contents) (id : ℕ) (approved : Bool) (prepared : Prepared)
    → source_fault (slot_at before.slots id).header kind.Aes approved ≡ None → after ≡ spent_in before id → IsPreparedFor (slot_at after.slots id) prepared
    → IsFilled prepared (parameter (slot_at before.slots id))
source_is_filled before after id approved prepared given spent is =
    let slot : Slot = slot_at before.slots id in
    let same : slot_at after.slots id ≡ spent_slot slot =
    ap (λ (vault : Contents). slot_at vault.slots id) spent ∙ spent_at before.slots id (source_within before.slots id kind.Aes approved given) in
    let of_spent : IsPreparedFor (spent_slot slot) prepared = subst (λ (one : Slot). IsPreparedFor one prepared) same is in
    subst (λ (has : Bool). IsFilledOrWiped has (parameter slot) prepared) (source_is_prepared slot kind.Aes approved refl given) of_spent

-- a service whose source was given
pub source_served : {V : Type 0} (use' : ServiceUse) (old new : Parts V) (id : ℕ) (sort : Kind) (approved : Bool) (after : List ℕ → V) (answer : List ℕ → Answer)
    (outcome : Outcome) (payload : List ℕ)
    → source_fault (slot_at old.vault.slots id).header sort approved ≡ None → new.vault ≡ spent_in old.vault id
    → (let key = parameter (slot_at old.vault.slots id) in
    new.engine ≡ after key → new.drbg ≡ old.drbg → new.health ≡ old.health
    → outcome ≡ record { status = (answer key).status; failure = None; approved = indicator use' (answer key).status new.vault.slots }
    → payload ≡ (answer key).payload
    → Serves use' (on_slot old.vault.slots id (λ slot. on_source old.engine (source sort approved slot) after answer)) old new outcome payload)
source_served {V} use' old new id sort approved after answer outcome payload given spent engine generator health told put =
    let status : Status = (answer (parameter (slot_at old.vault.slots id))).status in
    let Told : Contents → Outcome = λ (vault : Contents). record { status = status; failure = None; approved = indicator use' status vault.slots } in
    subst (λ (result : SlotsResult V). Serves use' result old new outcome payload) (sym (source_given old.engine old.vault.slots id sort approved after answer given))
    (record {
      leaves = record { engine = engine; vault = spent; generator = generator; health = health };
      same_outcome = told ∙ ap Told spent;
      same_payload = put;
    })
