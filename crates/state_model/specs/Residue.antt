-- Memory that holds nothing is zero: no byte of a parameter stays where none is kept (ISO/IEC 19790:2012, 7.9.7; what is looked at is this
-- project's own).
use Rattle.std.specs.Prelude.{◌≡◌, ◌≢◌, ◌<◌, ◌-◌, ℕ, None, drop}
use Rattle.bits_core.specs.ByteList.{zeros}
use Rattle.service_table.specs.declared.state.State.TheVariants as state
use Rattle.ssp_slots.specs.declared.slot.Slot.{Slot}
use Rattle.ssp_slots.specs.Slots.{slot_in}
use Rattle.state_model.specs.Entries.{no_entry}
use Rattle.state_model.specs.ModuleView.{ModuleView}

-- the bytes of an empty slot are zero, and so are those of a slot past its length
pub record IsCleanSlot (slot : Slot) : Type 0 where
  pub empty : slot.header ≡ None → slot.bytes ≡ zeros 64
  pub unused : drop slot.length slot.bytes ≡ zeros (64 - slot.length)

-- Each slot is clean, outside the state Entry nothing is left of an entry, and in it the bytes past those that were entered are zero.
-- What contracts don't see of a module is zero by rules of its types: the bytes that services work in, outside a call (`Work` in
-- crypto_services), and the key that is prepared beside a slot, but where the slot is full and of a kind that has one (`IsPreparedFor` in
-- ssp_slots, a clause of `Vault::prepared`).
pub record IsClean {V : Type 0} (m : ModuleView V) : Type 0 where
  pub slots : (id : ℕ) → id < 16 → IsCleanSlot (slot_in m.vault id)
  pub wiped : m.public.state ≢ state.Entry → m.entry ≡ no_entry
  pub unfilled : drop m.entry.filled m.entry.bytes ≡ zeros (64 - m.entry.filled)
