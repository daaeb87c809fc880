use Rattle.std.proofs.Common.{◌≡◌, ◌≤◌, ℕ, List, length}
use Rattle.ssp_slots.specs.Slots.{AreWellFormed}
use Rattle.vault_backup.specs.Backups.{kept_below}
use Rattle.vault_backup.proofs.writing.kept_count.Given as goal

abbrev pub invariant-loop-number : goal.invariant-loop-number
invariant-loop-number l = record {
  few : l.count ≤ l.number;
  counted : (key : List ℕ) → l.count ≡ length (kept_below key l.vault l.number);
  well_formed : 1 ≤ l.number → AreWellFormed l.vault;
}
