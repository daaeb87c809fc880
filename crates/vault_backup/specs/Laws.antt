-- What follows of backups, restored or not.
use Rattle.std.specs.Prelude.{◌≡◌, ◌≤◌, ◌<◌, ℕ, List, length, Result, Ok, IsOk}
use Rattle.bits_core.specs.ByteList.{IsBytes}
use Rattle.ssp_slots.specs.Slots.{Contents, AreWellFormed, slot_in, empty_slot}
use Rattle.vault_backup.specs.declared.limits.TheConstants.{BACKUP_LEAST, BACKUP_MOST}
use Rattle.vault_backup.specs.declared.restore_fault.RestoreFault.{RestoreFault}
use Rattle.vault_backup.specs.BackupForm.{KeptSlot, IsBackupWith}
use Rattle.vault_backup.specs.Backups.{kept_part, kept_slots, backup_of}
use Rattle.vault_backup.specs.Restoring.{IsSigned, Restores}

-- a key of 32 bytes
pub record IsKey (key : List ℕ) : Type 0 where
  pub bytes : IsBytes key
  pub long : length key ≡ 32

-- each of the sixteen slots is empty; the rows may be any
abbrev pub AreEmpty : Contents → Type 0
AreEmpty vault = (id : ℕ) → id < 16 → slot_in vault id ≡ empty_slot

-- a backup that is restored into sixteen empty slots gives exactly the kept slots, field by field and byte by byte
abbrev pub RestoresWhatWasKept : Type 0
RestoresWhatWasKept = (kept empty new : Contents) (kek mac : List ℕ) (result : Result ℕ RestoreFault) → AreWellFormed kept → AreEmpty empty
    → IsKey kek → Restores kek mac (backup_of kept kek mac) empty result new
    → (result ≡ Ok (length (kept_slots kek kept))) × ((id : ℕ) → id < 16 → slot_in new id ≡ kept_part (slot_in kept id)) × (new.rows ≡ empty.rows)

-- every backup is of the form, with the kept slots' records and the tag under the MAC key
abbrev pub BackupsHaveTheForm : Type 0
BackupsHaveTheForm = (vault : Contents) (kek mac : List ℕ) → AreWellFormed vault → IsSigned mac (backup_of vault kek mac) (kept_slots kek vault)

-- what is of the form has 37 to 1,317 bytes, and at most sixteen records
abbrev pub FormsAreBounded : Type 0
FormsAreBounded = (bytes tag : List ℕ) (records : List KeptSlot) → IsBackupWith bytes records tag
    → (BACKUP_LEAST ≤ length bytes) × (length bytes ≤ BACKUP_MOST) × (length records ≤ 16)

-- bytes have one list of records and one tag at most
abbrev pub ParsesInOneWay : Type 0
ParsesInOneWay = (bytes tag other_tag : List ℕ) (records others : List KeptSlot) → IsBackupWith bytes records tag → IsBackupWith bytes others other_tag
    → (records ≡ others) × (tag ≡ other_tag)

-- a backup tells of the kept slots alone: what stands in others and in the rows doesn't change it
abbrev pub BackupsTellKeptSlotsAlone : Type 0
BackupsTellKeptSlotsAlone = (one other : Contents) (kek mac : List ℕ)
    → ((id : ℕ) → id < 16 → kept_part (slot_in one id) ≡ kept_part (slot_in other id)) → backup_of one kek mac ≡ backup_of other kek mac

-- Restoring the same bytes into the same vault gives one answer, and where it is Ok one vault: so each refusal comes exactly where its cause
-- is the first that holds.
abbrev pub AnswersInOneWay : Type 0
AnswersInOneWay = (kek mac bytes : List ℕ) (old new other : Contents) (result answer : Result ℕ RestoreFault) → IsKey kek
    → Restores kek mac bytes old result new → Restores kek mac bytes old answer other
    → (result ≡ answer) × (IsOk result → ((id : ℕ) → slot_in new id ≡ slot_in other id) × (new.rows ≡ other.rows))
