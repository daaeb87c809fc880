use Rattle.ghash_core.proofs.LookUps.{high_ok, low_ok, two_looked_up}
use Rattle.ghash_core.proofs.place.values.Goals as goal

pub swizzle-high : goal.swizzle-high
swizzle-high c = high_ok c.args.x c.fits-x

pub swizzle-low : goal.swizzle-low
swizzle-low c = low_ok c.args.x c.fits-x

pub returns : goal.returns
returns c = two_looked_up c.args.place.now.high c.args.place.now.low c.args.x c.fits-x
