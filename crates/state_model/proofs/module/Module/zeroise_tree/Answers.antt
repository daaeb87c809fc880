use Rattle.state_model.proofs.Rules.{zeroise_tree_kept}
use Rattle.state_model.proofs.Representing.{samples_of, well_formed_of, represents_itself}
use Rattle.state_model.proofs.module.Module.zeroise_tree.Goals as goal

pub invariant_of-self : goal.invariant_of-self
invariant_of-self g c =
    rw c.zeroise_tree.ensures.zeroised (represents_itself _ (samples_of c.self.invariant) (zeroise_tree_kept _ c.args.slot (well_formed_of c.self.invariant)) c.self.invariant.1.counts)
