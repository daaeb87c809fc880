use Rattle.vault_backup.proofs.RestoreLaws.{answers_one_way}
use Rattle.vault_backup.proofs.laws.answers_in_one_way.Goals as goal

pub returns : goal.returns
returns c = answers_one_way
