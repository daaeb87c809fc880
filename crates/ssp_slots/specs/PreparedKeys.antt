-- Which keys are prepared beside the slots: this project's own rule.
use Rattle.std.specs.Prelude.{◌≡◌, ◌<◌, ℕ, Bool, true, false, List, length, slice_index_or}
use Rattle.std.specs.Option.{option_map_or}
use Rattle.bits_core.specs.declared.parameter.Kind.{Kind}
use Rattle.bits_core.specs.declared.parameter.Kind.TheVariants.{Aes, Kek, Mac, Kdf}
use Rattle.aes_core.specs.Schedules.{blank}
use Rattle.ghash_core.specs.Filled.{zero_places}
use Rattle.gcm_mode.specs.declared.prepared_key.Prepared.{Prepared}
use Rattle.gcm_mode.specs.Filled.{IsFilled, IsWiped}
use Rattle.ssp_slots.specs.declared.slot.Slot.{Slot}
use Rattle.ssp_slots.specs.Slots.{empty_slot, parameter}

-- the kinds of which a key is prepared
abbrev pub is_prepared_kind : Kind → Bool
is_prepared_kind Aes = true
is_prepared_kind Kek = true
is_prepared_kind Mac = false
is_prepared_kind Kdf = false

-- the slot is full, and of such a kind
abbrev pub has_prepared_key : Slot → Bool
has_prepared_key slot = option_map_or (λ header. is_prepared_kind header.kind) slot.header false

-- a prepared key: filled from these bytes, or all zero
abbrev pub IsFilledOrWiped : Bool → List ℕ → Prepared → Type 0
IsFilledOrWiped true bytes prepared = IsFilled prepared bytes
IsFilledOrWiped false bytes prepared = IsWiped prepared

-- what is kept beside a slot: the key prepared from its parameter where it is full and of such a kind, and else all zero
abbrev pub IsPreparedFor : Slot → Prepared → Type 0
IsPreparedFor slot prepared = IsFilledOrWiped (has_prepared_key slot) (parameter slot) prepared

abbrev pub blank_key : Prepared
blank_key = record { schedule = blank; table = record { first = zero_places; second = zero_places; third = zero_places; fourth = zero_places } }

-- beside each of sixteen slots stands what is prepared for it
pub record ArePrepared (slots : List Slot) (prepared : List Prepared) : Type 0 where
  pub sixteen : length prepared ≡ 16
  pub each : (id : ℕ) → id < 16 → IsPreparedFor (slice_index_or slots id empty_slot) (slice_index_or prepared id blank_key)
