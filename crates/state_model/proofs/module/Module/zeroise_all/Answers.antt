use Rattle.state_model.proofs.Rules.{zeroise_all_kept}
use Rattle.state_model.proofs.Representing.{samples_of, well_formed_of, represents_itself}
use Rattle.state_model.proofs.module.Module.zeroise_all.Goals as goal

pub invariant_of-self : goal.invariant_of-self
invariant_of-self g c =
    rw c.zeroise_all.ensures.zeroised (represents_itself _ (samples_of c.self.invariant) (zeroise_all_kept _ (well_formed_of c.self.invariant)) c.self.invariant.1.counts)
