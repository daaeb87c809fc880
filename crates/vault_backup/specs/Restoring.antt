-- What restoring does, and when it is refused: this project's own rule.
use Rattle.std.specs.Prelude.{◌≡◌, ◌≢◌, ℕ, None, List, ◌∷◌, ◌++◌, length, Result, Ok, Err}
use Rattle.std.specs.List.{AllByRecursion}
use Rattle.key_wrap.specs.Wrapping.{IsKwpOf}
use Rattle.ssp_slots.specs.Slots.{Contents, slot_in, filled_slot}
use Rattle.vault_backup.specs.declared.restore_fault.RestoreFault.{RestoreFault}
use Rattle.vault_backup.specs.declared.restore_fault.RestoreFault.TheVariants as fault
use Rattle.vault_backup.specs.BackupForm.{KeptSlot, IsBackupWith, HasForm, header_of, tag_of}

-- these bytes are the wrapping of some parameter of this length
abbrev pub IsWrappingOf : List ℕ → List ℕ → ℕ → Type 0
IsWrappingOf kek wrapped size = (parameter : List ℕ) × IsKwpOf kek wrapped parameter × (length parameter ≡ size)

abbrev pub IsWrapping : List ℕ → KeptSlot → Type 0
IsWrapping kek kept = IsWrappingOf kek kept.wrapped kept.size

abbrev pub IsVacant : Contents → KeptSlot → Type 0
IsVacant vault kept = (slot_in vault kept.slot).header ≡ None

-- this is the slot of the first record of which something doesn't hold
pub record IsFirstWithout (Holds : KeptSlot → Type 0) (records : List KeptSlot) (id : ℕ) : Type 0 where
  pub before : List KeptSlot
  pub first : KeptSlot
  pub after : List KeptSlot
  pub parts : records ≡ before ++ first ∷ after
  pub others : AllByRecursion Holds before
  pub without : ¬ (Holds first)
  pub named : id ≡ first.slot

-- the slot is full with the recorded fields and with what was wrapped, and may leave
abbrev pub HoldsKept : List ℕ → Contents → KeptSlot → Type 0
HoldsKept kek vault kept =
    (parameter : List ℕ) × IsKwpOf kek kept.wrapped parameter × (length parameter ≡ kept.size)
    × (slot_in vault kept.slot ≡ filled_slot (header_of kept) parameter)

-- each slot that has a record holds it, and all other slots and all rows stay
pub record IsRestored (kek : List ℕ) (old new : Contents) (records : List KeptSlot) : Type 0 where
  pub each : AllByRecursion (HoldsKept kek new) records
  pub others : (id : ℕ) → AllByRecursion (λ kept. kept.slot ≢ id) records → slot_in new id ≡ slot_in old id
  pub rows : new.rows ≡ old.rows

-- the records of a backup are restored, or refused
abbrev pub RestoresRecords : List ℕ → List KeptSlot → Contents → Result ℕ RestoreFault → Contents → Type 0
RestoresRecords kek records old (Ok count) new =
    AllByRecursion (IsWrapping kek) records × AllByRecursion (IsVacant old) records × (count ≡ length records) × IsRestored kek old new records
RestoresRecords kek records old (Err (fault.Wrapped id)) new = IsFirstWithout (IsWrapping kek) records id
RestoresRecords kek records old (Err (fault.Occupied id)) new =
    AllByRecursion (IsWrapping kek) records × IsFirstWithout (IsVacant old) records id
RestoresRecords kek records old (Err fault.Form) new = ⊥
RestoresRecords kek records old (Err fault.Tag) new = ⊥

-- the bytes are of the form, and their tag is the one under the MAC key
abbrev pub IsSigned : List ℕ → List ℕ → List KeptSlot → Type 0
IsSigned mac bytes records = IsBackupWith bytes records (tag_of mac records)

-- The bytes are restored, or refused, in this order: they are of no backup's form; the tag is another than that of the bytes before
-- it; a record is refused.
abbrev pub Restores : (kek mac bytes : List ℕ) → Contents → Result ℕ RestoreFault → Contents → Type 0
Restores kek mac bytes old (Err fault.Form) new = ¬ (HasForm bytes)
Restores kek mac bytes old (Err fault.Tag) new = HasForm bytes × ((records : List KeptSlot) → ¬ (IsSigned mac bytes records))
Restores kek mac bytes old (Err (fault.Wrapped id)) new =
    (records : List KeptSlot) × IsSigned mac bytes records × RestoresRecords kek records old (Err (fault.Wrapped id)) new
Restores kek mac bytes old (Err (fault.Occupied id)) new =
    (records : List KeptSlot) × IsSigned mac bytes records × RestoresRecords kek records old (Err (fault.Occupied id)) new
Restores kek mac bytes old (Ok count) new =
    (records : List KeptSlot) × IsSigned mac bytes records × RestoresRecords kek records old (Ok count) new
