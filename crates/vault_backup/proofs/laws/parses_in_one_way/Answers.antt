use Rattle.vault_backup.proofs.BackupLaws.{one_way}
use Rattle.vault_backup.proofs.laws.parses_in_one_way.Goals as goal

pub returns : goal.returns
returns c = one_way
