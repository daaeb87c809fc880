use Rattle.ghash_core.proofs.Steps.{by_x_steps}
use Rattle.ghash_core.proofs.bitwise.by_x.Goals as goal

pub returns : goal.returns
returns c = by_x_steps c.args.v
