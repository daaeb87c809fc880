use Rattle.state_model.proofs.module.Module.run_management_service.Goals as goal

pub returns-in-EntryCommit : goal.returns-in-EntryCommit
returns-in-EntryCommit g c =
    record { answer = λ s events represents. rw (c.in-EntryCommit.is, c.requires.block) (c.entry_commit.ensures s events represents) }
