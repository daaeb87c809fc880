use Rattle.vault_backup.proofs.restoring.restore_records.Goals as goal

pub returns-clause-restores : goal.returns-clause-restores
returns-clause-restores c = λ key records is are.
    let filled = c.fill_slots.ensures.restored key records is are in
    (c.in-None.ensures key records is are, c.in-None-first_full.ensures records are, filled.1, filled.0)
