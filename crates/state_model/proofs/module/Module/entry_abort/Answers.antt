use Rattle.state_model.proofs.Rules.{entry_over_kept}
use Rattle.state_model.proofs.Representing.{samples_of, well_formed_of, represents_itself}
use Rattle.state_model.proofs.module.Module.entry_abort.Goals as goal

pub invariant_of-self : goal.invariant_of-self
invariant_of-self g c =
    let entering = rw (← c.self.view_is) at c.requires in
    rw (c.entry_ended-self-inside.ensures, c.clear.ensures) (represents_itself _ (samples_of c.self.invariant) (entry_over_kept _ (well_formed_of c.self.invariant) entering)
    (λ _. c.self.invariant.1.counts (λ e. cc)))
