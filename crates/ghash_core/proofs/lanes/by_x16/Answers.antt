use Rattle.ghash_core.proofs.LaneWords.{lanes_shift}
use Rattle.ghash_core.proofs.lanes.by_x16.Goals as goal

pub returns : goal.returns
returns c = lanes_shift c.args.hi c.fits-hi.0 c.fits-hi.1 c.args.lo c.fits-lo.0 c.fits-lo.1
