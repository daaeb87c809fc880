use Rattle.ghash_core.proofs.LaneWords.{lanes_right}
use Rattle.ghash_core.proofs.lanes.without_sixteen.Goals as goal

pub returns : goal.returns
returns c = lanes_right 16 c.args.w c.fits-w.0 c.fits-w.1
