use Rattle.ghash_core.proofs.LaneWords.{lanes_where}
use Rattle.ghash_core.proofs.lanes.add_where.Goals as goal

pub returns : goal.returns
returns c = lanes_where c.args.z c.fits-z.0 c.fits-z.1 c.args.v c.fits-v.0 c.fits-v.1 c.args.w c.fits-w.0 c.fits-w.1
