use Rattle.std.proofs.Common.{◌++◌, ◌≢◌, ℕ, List, IfSome, IfNone, subst}
use Rattle.std.proofs.lemmas.List.{take_rest}
use Rattle.vault_backup.specs.BackupForm.{KeptSlot, IsKeptSlot, record_bytes}
use Rattle.vault_backup.specs.Reading.{Reads}
use Rattle.vault_backup.proofs.record.read_record.Goals as goal

pub returns-clause-some : goal.returns-clause-some
returns-clause-some c =
    subst (λ (xs : List ℕ). IfSome c.read_front.result (λ head. Reads head xs)) (take_rest c.args.bytes.now c.args.at) c.read_front.ensures.some

pub returns-clause-none : goal.returns-clause-none
returns-clause-none c =
    subst (λ (xs : List ℕ). IfNone c.read_front.result ((kept : KeptSlot) (after : List ℕ) → IsKeptSlot kept → xs ≢ record_bytes kept ++ after))
    (take_rest c.args.bytes.now c.args.at) c.read_front.ensures.none
