use Rattle.ghash_core.specs.Number.{number_of}
use Rattle.ghash_core.proofs.absorb.number.Goals as goal

pub returns : goal.returns
unfolding number_of
returns c = c.from_be_bytes.ensures
