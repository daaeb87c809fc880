use Rattle.ghash_core.proofs.BlockNumbers.{bytes_back}
use Rattle.ghash_core.proofs.by_places.bytes.Goals as goal

pub returns : goal.returns
returns c = bytes_back c.args.x c.fits-x.0 c.fits-x.1
