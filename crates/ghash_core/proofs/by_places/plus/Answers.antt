use Rattle.std.proofs.Common.{◌∙◌, sym}
use Rattle.ghash_core.proofs.ByteSums.{polynomial-xor}
use Rattle.ghash_core.proofs.by_places.plus.Goals as goal

pub returns : goal.returns
returns c = polynomial-xor c.args.x c.args.y (c.fits-x.0 ∙ sym c.fits-y.0)
