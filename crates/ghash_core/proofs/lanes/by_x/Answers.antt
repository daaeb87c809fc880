use Rattle.ghash_core.specs.Number.{shift_by}
use Rattle.ghash_core.proofs.LaneWords.{below_four}
use Rattle.ghash_core.proofs.lanes.by_x.Goals as goal

pub returns : goal.returns
unfolding shift_by
returns c = below_four _ c.by_x.ensures c.by_x-2.ensures c.by_x-3.ensures c.by_x-4.ensures
