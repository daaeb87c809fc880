use Rattle.std.proofs.Common.{ℕ, get_or, subst, arith}
use Rattle.vault_backup.specs.Reading.{Tells}
use Rattle.vault_backup.proofs.Records.{reads}
use Rattle.vault_backup.proofs.record.read_front.Goals as goal

pub returns-clause-some : goal.returns-clause-some
returns-clause-some c =
    let bytes = c.args.bytes.now in
    let head = c.in_ok-head.head in
    reads bytes head (λ n. omega (arith, c.type_inv.bytes n)) (omega (arith, c.whole_length.ensures))
    (subst (λ (uses : ℕ). Tells head (get_or bytes 0 0) (get_or bytes 1 0) (get_or bytes 2 0) uses (get_or bytes 7 0)) c.number_at-uses.ensures c.in_ok-head.ensures.tells)
