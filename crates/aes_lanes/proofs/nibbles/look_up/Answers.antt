use Rattle.aes_lanes.proofs.Places.{places_ok, looked_up}
use Rattle.aes_lanes.proofs.nibbles.look_up.Goals as goal

pub swizzle : goal.swizzle
swizzle c = places_ok c.args.at c.fits-at.0 c.requires

pub returns : goal.returns
returns c j h = looked_up c.args.table c.args.at j c.fits-at.0 h
