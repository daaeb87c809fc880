use Rattle.ghash_core.proofs.PlaceValues.{picks}
use Rattle.ghash_core.proofs.place.sums.Goals as goal

pub returns : goal.returns
returns c n h = picks c.args.a c.args.b c.args.c c.args.d n c.ranges.a.fits c.ranges.b.fits c.ranges.c.fits c.ranges.d.fits h
