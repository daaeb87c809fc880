use Rattle.vault_backup.proofs.BackupLaws.{tell_kept_slots}
use Rattle.vault_backup.proofs.laws.backups_tell_kept_slots_alone.Goals as goal

pub returns : goal.returns
returns c = tell_kept_slots
