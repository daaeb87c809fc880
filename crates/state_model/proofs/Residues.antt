-- A module that keeps its rules leaves no residue.
use Rattle.std.proofs.Common.{◌≡◌, ◌≢◌, ◌-◌, Option, Some, None, refl, sym, subst, drop}
use Rattle.std.specs.Prelude.{MatchOption}
use Rattle.bits_core.specs.ByteList.{zeros}
use Rattle.bits_core.specs.declared.parameter.Header.{Header}
use Rattle.service_table.specs.declared.state.State.{State}
use Rattle.service_table.specs.declared.state.State.TheVariants as state
use Rattle.ssp_slots.specs.declared.slot.Slot.{Slot}
use Rattle.ssp_slots.specs.Slots.{empty_slot, HoldsParameter}
use Rattle.ssp_slots.specs.Slots.{IsWellFormed as IsWellFormedSlot}
use Rattle.state_model.specs.declared.entry.Entry.{Entry}
use Rattle.state_model.specs.declared.entry.Target.{Target}
use Rattle.state_model.specs.Entries.{no_entry, IsEntered, IsUnderway}
use Rattle.state_model.specs.ModuleView.{ModuleView}
use Rattle.state_model.specs.Represents.{IsRepresented}
use Rattle.state_model.specs.Residue.{IsCleanSlot, IsClean}
use Rattle.state_model.proofs.Representing.{well_formed_of}

-- a slot that keeps its rules
clean_slot : (slot : Slot) → IsWellFormedSlot slot → IsCleanSlot slot
clean_slot slot rules = clean_for slot.header refl rules
  where
    clean_for : (header : Option Header) → slot.header ≡ header → MatchOption header (slot ≡ empty_slot) (λ h. HoldsParameter h slot) → IsCleanSlot slot
    clean_for None none empty = let Clean : Slot → Type 0 = λ s. IsCleanSlot s in subst Clean (sym empty) (record { empty = λ _. refl; unused = refl })
    clean_for (Some header) some holds = record { empty = λ none. cc; unused = holds.rest }

-- an entry that is underway
unfilled_underway : (entry : Entry) → IsUnderway entry → drop entry.filled entry.bytes ≡ zeros (64 - entry.filled)
unfilled_underway entry underway = unfilled_for entry.target underway
  where
    unfilled_for : (target : Option Target) → MatchOption target ⊥ (λ t. IsEntered t entry) → drop entry.filled entry.bytes ≡ zeros (64 - entry.filled)
    unfilled_for None none = absurd none
    unfilled_for (Some target) entered = entered.unused

-- no entry
unfilled_none : (entry : Entry) → entry ≡ no_entry → drop entry.filled entry.bytes ≡ zeros (64 - entry.filled)
unfilled_none entry none = let Unfilled : Entry → Type 0 = λ e. drop e.filled e.bytes ≡ zeros (64 - e.filled) in subst Unfilled (sym none) refl

-- an entry, in each state
unfilled_in : (in_state : State) (entry : Entry) → (in_state ≡ state.Entry → IsUnderway entry) → (in_state ≢ state.Entry → entry ≡ no_entry)
    → drop entry.filled entry.bytes ≡ zeros (64 - entry.filled)
unfilled_in state.Entry entry entering wiped = unfilled_underway entry (entering refl)
unfilled_in _ entry entering wiped = unfilled_none entry (wiped (λ e. cc))

pub clean_of : {V : Type 0} {m : ModuleView V} → IsRepresented m → IsClean m
clean_of {V} {m} held =
    let rules = well_formed_of held in
    record {
      slots = λ id within. clean_slot _ (rules.slots.each id within);
      wiped = rules.wiped;
      unfilled = unfilled_in m.public.state m.entry rules.entering rules.wiped;
    }
