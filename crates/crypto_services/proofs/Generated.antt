-- A slot that is to be filled with drawn bytes: what is served where it is empty, and where it is full.
use Rattle.std.proofs.Common.{◌≡◌, ℕ, List, [], Some, None, refl, sym, subst, ap, ◌∙◌}
use Rattle.bits_core.specs.declared.parameter.Header.{Header}
use Rattle.service_table.specs.declared.status.Status.{Status}
use Rattle.service_table.specs.declared.status.Status.TheVariants as status
use Rattle.ssp_slots.specs.declared.slot.Slot.{Slot}
use Rattle.ssp_slots.specs.declared.slot_fault.SlotFault.{SlotFault}
use Rattle.ssp_slots.specs.Refusals.{vacancy_fault}
use Rattle.ssp_slots.specs.Slots.{Contents, filled_in}
use Rattle.crypto_services.specs.declared.outcome.Outcome.{Outcome}
use Rattle.crypto_services.specs.declared.parts.Parts.{Parts}
use Rattle.crypto_services.specs.AtSlots.{SlotsResult, slot_at, filled_at, fault_status}
use Rattle.crypto_services.specs.Drawing.{generate_result}
use Rattle.crypto_services.specs.Indicator.{ServiceUse, indicator}
use Rattle.crypto_services.specs.Serves.{Serves}
use Rattle.crypto_services.proofs.FaultRefused.{fault_refused, no_fault_served}

abbrev indicated : ServiceUse → Status → Contents → Outcome
indicated use' outcome vault = record { status = outcome; failure = None; approved = indicator use' outcome vault.slots }

-- an empty slot is filled
pub generated : {V : Type 0} (use' : ServiceUse) (old new : Parts V) (target : ℕ) (header : Header) (bytes : List ℕ) (outcome : Outcome)
    → vacancy_fault (slot_at old.vault.slots target).header ≡ None → new.vault ≡ filled_in old.vault target header bytes → outcome ≡ indicated use' status.Ok new.vault
    → Serves use' (generate_result target header new.engine bytes old.vault.slots) (record new { vault = old.vault }) new outcome []
generated {V} use' old new target header bytes outcome vacant filled told =
    subst (λ (result : SlotsResult V). Serves use' result (record new { vault = old.vault }) new outcome [])
    (sym (no_fault_served new.engine old.vault.slots target (λ (slot : Slot). vacancy_fault slot.header) (λ (slot : Slot). filled_at new.engine header bytes) vacant))
    (record {
      leaves = record { engine = refl; vault = filled; generator = refl; health = refl };
      same_outcome = told ∙ ap (indicated use' status.Ok) filled;
      same_payload = refl;
    })

-- a full one stays
pub not_generated : {V : Type 0} (use' : ServiceUse) (old new : Parts V) (target : ℕ) (header : Header) (bytes : List ℕ) (reason : SlotFault) (outcome : Outcome)
    → vacancy_fault (slot_at old.vault.slots target).header ≡ Some reason → new.vault ≡ old.vault → outcome ≡ indicated use' (fault_status reason) new.vault
    → Serves use' (generate_result target header new.engine bytes old.vault.slots) (record new { vault = old.vault }) new outcome []
not_generated {V} use' old new target header bytes reason outcome full stays told =
    subst (λ (result : SlotsResult V). Serves use' result (record new { vault = old.vault }) new outcome [])
    (sym (fault_refused new.engine old.vault.slots target (λ (slot : Slot). vacancy_fault slot.header) (λ (slot : Slot). filled_at new.engine header bytes) reason full))
    (record {
      leaves = record { engine = refl; vault = stays; generator = refl; health = refl };
      same_outcome = told ∙ ap (indicated use' (fault_status reason)) stays;
      same_payload = refl;
    })
