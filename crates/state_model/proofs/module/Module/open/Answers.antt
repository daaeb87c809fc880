use Rattle.std.proofs.Common.{[]}
use Rattle.state_model.proofs.Keeping.{begins}
use Rattle.state_model.proofs.Representing.{represents_itself}
use Rattle.state_model.proofs.module.Module.open.Goals as goal

pub invariant_of-result : goal.invariant_of-result
invariant_of-result g c =
    rw (c.unpowered.ensures, c.in_ok-parts.ensures.empty, c.in_ok-parts.ensures.engine, c.in_ok-parts.ensures.unseeded, c.empty.ensures, c.empty-2.ensures)
    (represents_itself _ [] (begins c.args.engine c.args.image.items c.args.digest) (λ _. c.in_ok-parts.ensures.no_sample))
