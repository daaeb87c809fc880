use Rattle.ghash_core.proofs.LookUps.{moved}
use Rattle.ghash_core.proofs.fold.up_from.Goals as goal

pub returns : goal.returns
returns c = moved c.args.x c.args.over c.fits-x.0 c.fits-over.0
