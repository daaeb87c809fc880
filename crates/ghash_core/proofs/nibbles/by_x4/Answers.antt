use Rattle.ghash_core.proofs.Groups.{by_x4_steps}
use Rattle.ghash_core.proofs.nibbles.by_x4.Goals as goal

pub returns : goal.returns
returns c = by_x4_steps c.args.z c.ranges.z.fits
