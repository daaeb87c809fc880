use Rattle.state_model.proofs.Permitted.{not_failed_for_request_tests}
use Rattle.state_model.proofs.Rules.{request_tests_kept}
use Rattle.state_model.proofs.Representing.{samples_of, well_formed_of, represents_itself}
use Rattle.state_model.proofs.module.Module.request_tests.Goals as goal

pub invariant_of-self : goal.invariant_of-self
invariant_of-self g c =
    let allowed = rw (← c.self.view_is) at c.requires in
    rw (c.tests_requested-self-inside.ensures, c.empty-self-inside.ensures) (represents_itself _ (samples_of c.self.invariant) (request_tests_kept _ (well_formed_of c.self.invariant) allowed)
    (λ _. c.self.invariant.1.counts (not_failed_for_request_tests _ allowed)))
