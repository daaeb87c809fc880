use Rattle.state_model.proofs.Permitted.{return_for_select_role, return_is_faultless}
use Rattle.state_model.proofs.Rules.{select_role_kept}
use Rattle.state_model.proofs.Representing.{samples_of, well_formed_of, represents_itself}
use Rattle.state_model.proofs.module.Module.select_role.Goals as goal

pub invariant_of-self : goal.invariant_of-self
invariant_of-self g c =
    let allowed = rw (← c.self.view_is) at c.requires in
    rw c.role_selected-self-inside.ensures (represents_itself _ (samples_of c.self.invariant) (select_role_kept _ c.args.role (well_formed_of c.self.invariant) allowed)
    (λ _. c.self.invariant.1.counts (return_is_faultless _ (return_for_select_role _ allowed))))
