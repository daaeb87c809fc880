use Rattle.aes_lanes.proofs.Products.{high_lane}
use Rattle.aes_lanes.proofs.powers.where_high.Goals as goal

pub returns : goal.returns
returns c j h = high_lane c.args.v c.args.w j c.fits-v.0 c.fits-w.0 h
