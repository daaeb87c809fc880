use Rattle.ghash_core.proofs.BlockNumbers.{number_loaded}
use Rattle.ghash_core.proofs.by_places.block.Goals as goal

pub returns : goal.returns
returns c = number_loaded c.args.bytes.now c.requires c.type_inv.bytes
