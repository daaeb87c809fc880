use Rattle.state_model.proofs.Rules.{zeroise_kept}
use Rattle.state_model.proofs.Representing.{samples_of, well_formed_of, represents_itself}
use Rattle.state_model.proofs.module.Module.zeroise.Goals as goal

pub invariant_of-self : goal.invariant_of-self
invariant_of-self g c =
    rw c.zeroise.ensures.zeroised (represents_itself _ (samples_of c.self.invariant) (zeroise_kept _ c.args.slot (well_formed_of c.self.invariant)) c.self.invariant.1.counts)
