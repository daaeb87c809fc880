use Rattle.std.proofs.Common.{[]}
use Rattle.state_model.proofs.Rules.{reset_kept}
use Rattle.state_model.proofs.Representing.{well_formed_of, represents_itself}
use Rattle.state_model.proofs.module.Module.reset.Goals as goal

pub invariant_of-self : goal.invariant_of-self
invariant_of-self g c =
    rw (c.was_reset-self-inside.ensures, c.empty-self-inside.ensures, c.zeroise_all.ensures.zeroised, c.wipe.ensures, c.clear.ensures) (represents_itself _ [] (reset_kept _ (well_formed_of c.self.invariant)) (λ _. c.new-self-inside.ensures))
