use Rattle.std.proofs.Common.{refl}
use Rattle.cmac_core.specs.Cmac.{chain}
use Rattle.cmac_core.proofs.stream.CmacStream.new.Goals as goal

pub returns : goal.returns
unfolding chain
returns c key = record { count = refl; sum = refl }
