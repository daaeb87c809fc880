use Rattle.std.proofs.Common.{◌∙◌}
use Rattle.ghash_core.specs.Number.{number_of}
use Rattle.ghash_core.proofs.BlockNumbers.{number_is}
use Rattle.ghash_core.proofs.by_places.number.Goals as goal

pub returns : goal.returns
unfolding number_of
returns c = c.from_be_bytes.ensures ∙ number_is c.args.x c.fits-x.0 c.fits-x.1
