use Rattle.std.proofs.Common.{◌≤◌, ◌-◌, List, length, drop}
use Rattle.std.specs.List.{AllByRecursion}
use Rattle.vault_backup.specs.BackupForm.{KeptSlot, AreRecords}
use Rattle.vault_backup.specs.Restoring.{IsVacant}
use Rattle.vault_backup.proofs.Passes.{ReadsUpTo}
use Rattle.vault_backup.proofs.restoring.first_full.Given as goal

abbrev pub invariant-loop-at : goal.invariant-loop-at
invariant-loop-at l = record {
  within : l.at ≤ length l.bytes;
  so_far : (records : List KeptSlot) → AreRecords l.bytes records → ReadsUpTo (AllByRecursion (IsVacant l.vault)) records (drop l.at l.bytes);
}

abbrev pub decreases-loop-at : goal.decreases-loop-at
decreases-loop-at l = length l.bytes - l.at
