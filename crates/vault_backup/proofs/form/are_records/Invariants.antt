use Rattle.std.proofs.Common.{◌≤◌, ◌-◌, length, drop}
use Rattle.vault_backup.specs.Reading.{HasRecordsFrom}
use Rattle.vault_backup.proofs.form.are_records.Given as goal

abbrev pub invariant-loop : goal.invariant-loop
invariant-loop l = record {
  within : l.at ≤ length l.bytes;
  onward : HasRecordsFrom 0 l.count l.bytes → HasRecordsFrom l.least (l.count - l.counter) (drop l.at l.bytes);
  back : HasRecordsFrom l.least (l.count - l.counter) (drop l.at l.bytes) → HasRecordsFrom 0 l.count l.bytes;
}
