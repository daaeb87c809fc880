use Rattle.vault_backup.proofs.RestoreLaws.{round_trip}
use Rattle.vault_backup.proofs.laws.restores_what_was_kept.Goals as goal

pub returns : goal.returns
returns c = round_trip
