use Rattle.std.proofs.Common.{ap, ◌∙◌}
use Rattle.drbg_core.specs.Generator.{instantiate}
use Rattle.drbg_core.specs.declared.generator.Drbg.{Drbg}
use Rattle.drbg_core.proofs.Requests.{counter-update}
use Rattle.drbg_core.proofs.generator.Drbg.instantiate.Goals as goal

pub returns-clause-state : goal.returns-clause-state
unfolding instantiate
returns-clause-state c = c.update.ensures

pub returns-clause-counter : goal.returns-clause-counter
returns-clause-counter c = ap (λ (g : Drbg). g.counter) c.update.ensures ∙ counter-update _ _
