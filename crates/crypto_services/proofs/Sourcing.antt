-- A slot as a source: what is laid back where it is refused, and what is spent where it isn't.
use Rattle.std.proofs.Common.{◌≡◌, ℕ, Bool, List, Some, None, refl, ap}
use Rattle.std.proofs.lemmas.List.{set-get_or}
use Rattle.bits_core.specs.declared.parameter.Kind.{Kind}
use Rattle.ssp_slots.specs.declared.slot.Slot.{Slot}
use Rattle.ssp_slots.specs.declared.slot_fault.SlotFault.{SlotFault}
use Rattle.ssp_slots.specs.Refusals.{source_fault}
use Rattle.ssp_slots.specs.Slots.{empty_slot, parameter, spent_slot}
use Rattle.crypto_services.specs.AtSlots.{Answer, slot_at, with_slot_at, on_slot, on_no_slot, on_source, source, refusal, fault_status}

-- laying back what stands at a number changes nothing
pub laid_back_at : (slots : List Slot) (id : ℕ) → with_slot_at slots id (slot_at slots id) ≡ slots
laid_back_at slots id = set-get_or slots id empty_slot

-- where the source is refused, engine and slots are as they were
pub source_refused : {V : Type 0} (engine : V) (slots : List Slot) (id : ℕ) (kind : Kind) (approved : Bool) (reason : SlotFault) (after : List ℕ → V) (answer : List ℕ → Answer)
    → source_fault (slot_at slots id).header kind approved ≡ Some reason
    → on_slot slots id (λ slot. on_source engine (source kind approved slot) after answer) ≡ on_no_slot engine slots (refusal (fault_status reason))
source_refused {V} engine slots id kind approved reason after answer is =
    rw is (ap (λ (laid : List Slot). on_no_slot engine laid (refusal (fault_status reason))) (laid_back_at slots id))

-- and else one use is spent, and the key goes on
pub source_given : {V : Type 0} (engine : V) (slots : List Slot) (id : ℕ) (kind : Kind) (approved : Bool) (after : List ℕ → V) (answer : List ℕ → Answer)
    → source_fault (slot_at slots id).header kind approved ≡ None
    → (let key = parameter (slot_at slots id) in
    on_slot slots id (λ slot. on_source engine (source kind approved slot) after answer)
    ≡ on_no_slot (after key) (with_slot_at slots id (spent_slot (slot_at slots id))) (answer key))
source_given {V} engine slots id kind approved after answer is = rw is refl
