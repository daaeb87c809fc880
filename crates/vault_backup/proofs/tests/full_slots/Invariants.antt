use Rattle.std.proofs.Common.{◌≤◌}
use Rattle.vault_backup.proofs.tests.full_slots.Given as goal

abbrev pub invariant-loop-number : goal.invariant-loop-number
invariant-loop-number l = l.count ≤ l.number
