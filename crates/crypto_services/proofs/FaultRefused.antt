-- A service at one slot that is refused where there is a fault of the slot.
use Rattle.std.proofs.Common.{◌≡◌, List, ℕ, Option, Some, None, refl, ap}
use Rattle.ssp_slots.specs.declared.slot.Slot.{Slot}
use Rattle.ssp_slots.specs.declared.slot_fault.SlotFault.{SlotFault}
use Rattle.crypto_services.specs.AtSlots.{SlotResult, slot_at, on_slot, on_no_slot, unless_fault, refusal, fault_status}
use Rattle.crypto_services.proofs.Sourcing.{laid_back_at}

-- where there is a fault, engine and slots are as they were
pub fault_refused : {V : Type 0} (engine : V) (slots : List Slot) (id : ℕ) (fault : Slot → Option SlotFault) (served : Slot → SlotResult V) (reason : SlotFault)
    → fault (slot_at slots id) ≡ Some reason
    → on_slot slots id (λ slot. unless_fault engine slot (fault slot) (served slot)) ≡ on_no_slot engine slots (refusal (fault_status reason))
fault_refused engine slots id fault served reason is =
    rw is (ap (λ (laid : List Slot). on_no_slot engine laid (refusal (fault_status reason))) (laid_back_at slots id))

-- and else the slot is served
pub no_fault_served : {V : Type 0} (engine : V) (slots : List Slot) (id : ℕ) (fault : Slot → Option SlotFault) (served : Slot → SlotResult V)
    → fault (slot_at slots id) ≡ None → on_slot slots id (λ slot. unless_fault engine slot (fault slot) (served slot)) ≡ on_slot slots id served
no_fault_served engine slots id fault served is = rw is refl
