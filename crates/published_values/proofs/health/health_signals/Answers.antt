use Rattle.std.proofs.Common.{refl}
use Rattle.hmac_core.specs.Blocks.{joined}
use Rattle.published_values.proofs.health.health_signals.Goals as goal

pub returns-clause-thirty : goal.returns-clause-thirty
unfolding joined
returns-clause-thirty c = refl

pub returns-clause-thirty_one : goal.returns-clause-thirty_one
unfolding joined
returns-clause-thirty_one c = refl

pub returns-clause-below_proportion : goal.returns-clause-below_proportion
unfolding joined
returns-clause-below_proportion c = refl

pub returns-clause-proportion : goal.returns-clause-proportion
unfolding joined
returns-clause-proportion c = refl
