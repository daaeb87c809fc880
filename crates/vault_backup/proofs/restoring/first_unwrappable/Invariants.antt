use Rattle.std.proofs.Common.{◌≤◌, ◌-◌, ℕ, List, length, drop}
use Rattle.std.specs.List.{AllByRecursion}
use Rattle.aes_core.specs.Schedules.{IsExpanded}
use Rattle.vault_backup.specs.BackupForm.{KeptSlot, AreRecords}
use Rattle.vault_backup.specs.Restoring.{IsWrapping}
use Rattle.vault_backup.proofs.Passes.{ReadsUpTo}
use Rattle.vault_backup.proofs.restoring.first_unwrappable.Given as goal

abbrev pub invariant-loop-at : goal.invariant-loop-at
invariant-loop-at l = record {
  within : l.at ≤ length l.bytes;
  so_far : (key : List ℕ) (records : List KeptSlot) → IsExpanded l.schedule key → AreRecords l.bytes records
      → ReadsUpTo (AllByRecursion (IsWrapping key)) records (drop l.at l.bytes);
}

abbrev pub decreases-loop-at : goal.decreases-loop-at
decreases-loop-at l = length l.bytes - l.at
