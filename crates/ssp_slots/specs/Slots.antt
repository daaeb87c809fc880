-- A slot of the vault, what it holds, and when it is well formed: this project's own way to store and zeroise sensitive security
-- parameters (ISO/IEC 19790:2012, 7.9.6 and 7.9.7).
use Rattle.std.specs.Prelude.{◌≡◌, ◌≢◌, ℕ, ◌-◌, ◌^◌, ◌<◌, Some, None, List, length, take, drop, IsTrue, is_some, MatchOption, replicate, slice_index, slice_index_or, slice_set}
use Rattle.std.specs.Option.{option_map}
use Rattle.bits_core.specs.declared.parameter.Header.{Header}
use Rattle.bits_core.specs.Parameters.{length_fits}
use Rattle.bits_core.specs.ByteList.{IsBytes, zeros, zero_padded}
use Rattle.ssp_slots.specs.declared.slot.Slot.{Slot}
use Rattle.ssp_slots.specs.declared.shown.Shown.{Shown}

-- an empty slot is zero in every field and byte
abbrev pub empty_slot : Slot
empty_slot = record { header = None; length = 0; bytes = zeros 64 }

-- a full slot has a header, a length, and 64 bytes of which those past the length are zero
abbrev pub filled_slot : Header → List ℕ → Slot
filled_slot header bytes = record { header = Some header; length = length bytes; bytes = zero_padded 64 bytes }

-- the slot holds a parameter: its length fits its header, its uses are a number of 32 bits, and the bytes past it are zero
pub record HoldsParameter (header : Header) (slot : Slot) : Type 0 where
  pub fits : IsTrue (length_fits header.kind header.domain slot.length)
  pub uses : header.uses < 2 ^ 32
  pub room : length slot.bytes ≡ 64
  pub byte_values : IsBytes slot.bytes
  pub rest : drop slot.length slot.bytes ≡ zeros (64 - slot.length)

-- a slot is empty or holds a parameter
abbrev pub IsWellFormed : Slot → Type 0
IsWellFormed slot = MatchOption slot.header (slot ≡ empty_slot) (λ header. HoldsParameter header slot)

-- the bytes of a slot's parameter, none where it is empty
abbrev pub parameter : Slot → List ℕ
parameter slot = take slot.length slot.bytes

-- what a slot tells of itself
abbrev pub shown_of : Slot → Shown
shown_of slot = record { full = is_some slot.header; header = slot.header; length = slot.length }

-- the header with one use less
abbrev pub one_use_less : Header → Header
one_use_less header = record header { uses = header.uses - 1 }

-- the slot with one use less, and all else as it was
abbrev pub spent_slot : Slot → Slot
spent_slot slot = record slot { header = option_map one_use_less slot.header }

-- what a vault keeps: its slots, and beside each a row, which says what the slot's parameter was made from (Ancestry)
pub record Contents : Type 0 where
  pub slots : List Slot
  pub rows : List ℕ

-- the slot with a number
abbrev pub slot_in : Contents → ℕ → Slot
slot_in vault id = slice_index_or vault.slots id empty_slot

-- the row of the slot with a number
abbrev pub row_in : Contents → ℕ → ℕ
row_in vault id = slice_index vault.rows id

-- the vault with this slot at a number, and all others as they were; the rows stay
abbrev pub with_slot : Contents → ℕ → Slot → Contents
with_slot vault id slot = record vault { slots = slice_set vault.slots id slot }

-- the vault after a slot was filled with a parameter
abbrev pub filled_in : Contents → ℕ → Header → List ℕ → Contents
filled_in vault id header bytes = with_slot vault id (filled_slot header bytes)

-- the vault after one use of a slot was spent
abbrev pub spent_in : Contents → ℕ → Contents
spent_in vault id = with_slot vault id (spent_slot (slot_in vault id))

-- the vault after a slot was zeroised: the slot and its row are empty
abbrev pub zeroised_in : Contents → ℕ → Contents
zeroised_in vault id = record { slots = slice_set vault.slots id empty_slot; rows = slice_set vault.rows id 0 }

-- sixteen empty slots and rows
abbrev pub empty_vault : Contents
empty_vault = record { slots = replicate 16 empty_slot; rows = zeros 16 }

-- the vault after all slots were zeroised
abbrev pub zeroised_all : Contents
zeroised_all = empty_vault

-- there are sixteen slots, and each is well formed; and sixteen rows, each of them a set of the sixteen slots
pub record AreWellFormed (vault : Contents) : Type 0 where
  pub sixteen : length vault.slots ≡ 16
  pub each : (id : ℕ) → id < 16 → IsWellFormed (slot_in vault id)
  pub sixteen_rows : length vault.rows ≡ 16
  pub each_row : (id : ℕ) → row_in vault id < 2 ^ 16

-- no slot but the one with this number has changed, and no row but that slot's
abbrev pub OthersStay : Contents → Contents → ℕ → Type 0
OthersStay before after id = (other : ℕ) → other ≢ id → (slot_in after other ≡ slot_in before other) × (row_in after other ≡ row_in before other)
