use Rattle.std.proofs.Common.{◌≡◌, ℕ, ◌-◌, ◌<◌, length}
use Rattle.ghash_core.specs.Block.{blocks_in}
use Rattle.ghash_core.specs.Number.{horner, numbers, number_power}
use Rattle.ghash_core.specs.Lane.{AreRows}
use Rattle.ghash_core.proofs.absorb.by_lanes.Given as goal

abbrev pub invariant-loop-rest : goal.invariant-loop-rest
invariant-loop-rest l = ((j : ℕ) → j < 4 → AreRows l.rows j (number_power l.h (4 - j))) →
    horner l.h l.sum (numbers (blocks_in (length l.rest)) l.rest) ≡ horner l.h l.y (numbers (blocks_in (length l.bytes)) l.bytes)

abbrev pub decreases-loop-rest : goal.decreases-loop-rest
decreases-loop-rest l = length l.rest
