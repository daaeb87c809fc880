use Rattle.state_model.proofs.Rules.{power_on_kept}
use Rattle.state_model.proofs.Representing.{samples_of, well_formed_of, represents_itself}
use Rattle.state_model.proofs.module.Module.power_on.Goals as goal

pub invariant_of-self : goal.invariant_of-self
invariant_of-self g c =
    let off = rw (← c.self.view_is) at c.requires.off in
    rw c.powered_on-self-inside.ensures (represents_itself _ (samples_of c.self.invariant) (power_on_kept _ c.args.period (well_formed_of c.self.invariant) off c.requires.period)
    (λ _. c.self.invariant.1.counts (λ e. cc)))
