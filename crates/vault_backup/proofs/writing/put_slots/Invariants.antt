use Rattle.std.proofs.Common.{◌≡◌, ◌≤◌, ◌+◌, ◌*◌, ℕ, List, length}
use Rattle.std.specs.List.{flat_map}
use Rattle.aes_core.specs.Schedules.{IsExpanded}
use Rattle.ssp_slots.specs.Slots.{AreWellFormed}
use Rattle.vault_backup.specs.BackupForm.{record_bytes}
use Rattle.vault_backup.specs.Backups.{kept_below}
use Rattle.vault_backup.specs.Writing.{Signs}
use Rattle.vault_backup.proofs.writing.put_slots.Given as goal

abbrev pub invariant-loop-number : goal.invariant-loop-number
invariant-loop-number l = record {
  same : l.port.outbox.ghost_name ≡ l.initial.port.outbox.ghost_name;
  few : length l.port.outbox.now.bytes ≤ length l.initial.port.outbox.now.bytes + 80 * l.number;
  signs : (key : List ℕ) → IsExpanded l.schedule key
      → Signs l.initial.port.outbox.now l.port.outbox.now l.initial.stream l.stream (flat_map record_bytes (kept_below key l.vault l.number));
  well_formed : 1 ≤ l.number → AreWellFormed l.vault;
}
