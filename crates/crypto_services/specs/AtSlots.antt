-- What a service does at its slots, and how that is laid into all of them. The rules on slots are this project's own.
use Rattle.std.specs.Prelude.{ℕ, Bool, List, [], Option, Some, None, slice_index_or, slice_set}
use Rattle.bits_core.specs.declared.parameter.Domain.{Domain}
use Rattle.bits_core.specs.declared.parameter.Domain.TheVariants.{Other}
use Rattle.bits_core.specs.declared.parameter.Header.{Header}
use Rattle.bits_core.specs.declared.parameter.Kind.{Kind}
use Rattle.service_table.specs.declared.status.Status.{Status}
use Rattle.service_table.specs.declared.status.Status.TheVariants as status
use Rattle.ssp_slots.specs.declared.slot.Slot.{Slot}
use Rattle.ssp_slots.specs.declared.slot_fault.SlotFault.{SlotFault}
use Rattle.ssp_slots.specs.declared.slot_fault.SlotFault.TheVariants as fault
use Rattle.ssp_slots.specs.Refusals.{source_fault}
use Rattle.ssp_slots.specs.Slots.{empty_slot, filled_slot, spent_slot, parameter}

-- the slot with a number
abbrev pub slot_at : List Slot → ℕ → Slot
slot_at slots id = slice_index_or slots id empty_slot

-- the slots with this one at a number, and all others as they were
abbrev pub with_slot_at : List Slot → ℕ → Slot → List Slot
with_slot_at slots id slot = slice_set slots id slot

-- what a service answers
pub record Answer : Type 0 where
  pub status : Status
  pub payload : List ℕ

abbrev pub refusal : Status → Answer
refusal reason = record { status = reason; payload = [] }

abbrev pub success : List ℕ → Answer
success payload = record { status = status.Ok; payload = payload }

-- the status of a command that a slot refused
abbrev pub fault_status : SlotFault → Status
fault_status fault.EmptySlot = status.EmptySlot
fault_status fault.WrongKind = status.WrongKind
fault_status fault.WrongDomain = status.WrongDomain
fault_status fault.Spent = status.Spent
fault_status fault.OccupiedSlot = status.OccupiedSlot
fault_status fault.NotExportable = status.NotExportable

-- what a service makes of one slot: the engine and the slot after it, and its answer
pub record SlotResult (V : Type 0) : Type 0 where
  pub engine : V
  pub slot : Slot
  pub answer : Answer

-- what a service makes of all slots
pub record SlotsResult (V : Type 0) : Type 0 where
  pub engine : V
  pub slots : List Slot
  pub answer : Answer

-- a service that uses no slot
abbrev pub on_no_slot : {V : Type 0} → V → List Slot → Answer → SlotsResult V
on_no_slot engine slots answer = record { engine = engine; slots = slots; answer = answer }

-- a service on one slot, laid into all of them: it sees no other, and no other changes
abbrev pub on_slot : {V : Type 0} → List Slot → ℕ → (Slot → SlotResult V) → SlotsResult V
on_slot slots id service =
    let result = service (slot_at slots id) in
    record { engine = result.engine; slots = with_slot_at slots id result.slot; answer = result.answer }

-- nothing is done at the slot for this reason
abbrev pub refused_at : {V : Type 0} → V → Slot → Status → SlotResult V
refused_at engine slot reason = record { engine = engine; slot = slot; answer = refusal reason }

-- refused where there is a fault of the slot, and else served
abbrev pub unless_fault : {V : Type 0} → V → Slot → Option SlotFault → SlotResult V → SlotResult V
unless_fault engine slot None served = served
unless_fault engine slot (Some reason) served = refused_at engine slot (fault_status reason)

-- the slot is filled with a parameter
abbrev pub filled_at : {V : Type 0} → V → Header → List ℕ → SlotResult V
filled_at engine header bytes = record { engine = engine; slot = filled_slot header bytes; answer = success [] }

-- the domain of a slot's parameter; that of an empty slot is looked at by no service
abbrev pub domain_at : Option Header → Domain
domain_at None = Other
domain_at (Some header) = header.domain

-- A slot as the source of a key: the slot after it, the key with its domain, and the reason where it is refused.
pub record Source : Type 0 where
  pub slot : Slot
  pub key : List ℕ
  pub domain : Domain
  pub refused : Option Status

abbrev pub source_by : Slot → Option SlotFault → Source
source_by slot None = record { slot = spent_slot slot; key = parameter slot; domain = domain_at slot.header; refused = None }
source_by slot (Some reason) = record { slot = slot; key = []; domain = domain_at slot.header; refused = Some (fault_status reason) }

-- one use is spent, and the key goes on; a refusal spends none
abbrev pub source : Kind → Bool → Slot → Source
source kind approved slot = source_by slot (source_fault slot.header kind approved)

-- a service under the key of a source: the engine after it and its answer, by the key
abbrev pub under_key : {V : Type 0} → V → Slot → List ℕ → Option Status → (List ℕ → V) → (List ℕ → Answer) → SlotResult V
under_key engine slot key None after answer = record { engine = after key; slot = slot; answer = answer key }
under_key engine slot key (Some reason) after answer = refused_at engine slot reason

abbrev pub on_source : {V : Type 0} → V → Source → (List ℕ → V) → (List ℕ → Answer) → SlotResult V
on_source engine source after answer = under_key engine source.slot source.key source.refused after answer

-- A service on a source and a second slot, which is looked at after a use of the source was spent: by the key and its domain.
abbrev pub second_under : {V : Type 0} → V → List Slot → ℕ → Source → Option Status → (List ℕ → Domain → Slot → SlotResult V) → SlotsResult V
second_under engine slots second source None service = on_slot slots second (service source.key source.domain)
second_under engine slots second source (Some reason) service = on_no_slot engine slots (refusal reason)

abbrev pub on_two_slots : {V : Type 0} → V → List Slot → ℕ → ℕ → (Slot → Source) → (List ℕ → Domain → Slot → SlotResult V) → SlotsResult V
on_two_slots engine slots first second sourced service =
    let source = sourced (slot_at slots first) in
    second_under engine (with_slot_at slots first source.slot) second source source.refused service
