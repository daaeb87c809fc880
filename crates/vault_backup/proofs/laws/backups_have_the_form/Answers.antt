use Rattle.vault_backup.proofs.BackupLaws.{have_the_form, bounded}
use Rattle.vault_backup.proofs.laws.backups_have_the_form.Goals as goal

pub returns-clause-form : goal.returns-clause-form
returns-clause-form c = have_the_form

pub returns-clause-bounds : goal.returns-clause-bounds
returns-clause-bounds c = bounded
