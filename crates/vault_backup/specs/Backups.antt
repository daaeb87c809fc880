-- The backup of a vault: this project's own rule.
use Rattle.std.specs.Prelude.{ℕ, zero, suc, ◌&&◌, nat_le, Option, Some, None, List, [], ◌∷◌, ◌++◌, if◌then◌else◌}
use Rattle.std.specs.Option.{option_map_or}
use Rattle.bits_core.specs.declared.parameter.Header.{Header}
use Rattle.aes_core.specs.Key.{aes}
use Rattle.key_wrap.specs.Wrapping.{kwp}
use Rattle.ssp_slots.specs.declared.slot.Slot.{Slot}
use Rattle.ssp_slots.specs.Slots.{Contents, slot_in, parameter, empty_slot}
use Rattle.vault_backup.specs.BackupForm.{KeptSlot, signed_bytes, tag_of}

-- A slot is kept where it is full, may leave and has a use left. Its header, where it is kept:
abbrev pub if_kept : Option Header → Option Header
if_kept None = None
if_kept (Some header) = if header.export && nat_le 1 header.uses then Some header else None

-- the slot where it is kept, and else an empty one
abbrev pub kept_part : Slot → Slot
kept_part slot = option_map_or (λ _. slot) (if_kept slot.header) empty_slot

-- the slot as a backup has it: its parameter is wrapped under the key-encryption key
abbrev pub kept_slot : List ℕ → ℕ → Slot → Header → KeptSlot
kept_slot kek id slot header = record {
  slot = id;
  kind = header.kind;
  domain = header.domain;
  uses = header.uses;
  size = slot.length;
  wrapped = kwp (aes kek) (parameter slot);
}

-- what a backup has of the slot with a number: nothing where it isn't kept
abbrev pub kept_at : List ℕ → Contents → ℕ → List KeptSlot
kept_at kek vault id = option_map_or (λ header. kept_slot kek id (slot_in vault id) header ∷ []) (if_kept (slot_in vault id).header) []

-- what a backup has of the first n slots
unfoldable pub kept_below : List ℕ → Contents → ℕ → List KeptSlot
kept_below kek vault zero = []
kept_below kek vault (suc n) = kept_below kek vault n ++ kept_at kek vault n

-- what a backup has of the sixteen slots
abbrev pub kept_slots : List ℕ → Contents → List KeptSlot
kept_slots kek vault = kept_below kek vault 16

-- the backup under the two keys
abbrev pub backup_of : Contents → (kek mac : List ℕ) → List ℕ
backup_of vault kek mac = signed_bytes (kept_slots kek vault) ++ tag_of mac (kept_slots kek vault)
