use Rattle.std.proofs.Common.{◌≡◌, ◌≤◌, ◌-◌, ℕ, List, length, drop}
use Rattle.aes_core.specs.Schedules.{IsExpanded}
use Rattle.ssp_slots.specs.Slots.{AreWellFormed}
use Rattle.vault_backup.specs.BackupForm.{KeptSlot, AreRecords}
use Rattle.vault_backup.specs.Restoring.{IsRestored}
use Rattle.vault_backup.proofs.Passes.{ReadsUpTo}
use Rattle.vault_backup.proofs.restoring.fill_slots.Given as goal

abbrev pub invariant-loop-at : goal.invariant-loop-at
invariant-loop-at l = record {
  within : l.at ≤ length l.bytes;
  well_formed : AreWellFormed l.initial.vault → AreWellFormed l.vault;
  few : l.count ≤ l.at;
  so_far : (key : List ℕ) (records : List KeptSlot) → IsExpanded l.schedule key → AreRecords l.bytes records
      → ReadsUpTo (λ done. IsRestored key l.initial.vault l.vault done × (l.count ≡ length done)) records (drop l.at l.bytes);
}

abbrev pub decreases-loop-at : goal.decreases-loop-at
decreases-loop-at l = length l.bytes - l.at
