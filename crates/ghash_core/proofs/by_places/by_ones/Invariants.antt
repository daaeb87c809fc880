use Rattle.std.proofs.Common.{◌≡◌, ℕ, length}
use Rattle.ghash_core.specs.Block.{blocks_in}
use Rattle.ghash_core.specs.Number.{horner, numbers}
use Rattle.ghash_core.specs.ByBytes.{polynomial}
use Rattle.ghash_core.specs.Places.{ArePlaces}
use Rattle.ghash_core.proofs.by_places.by_ones.Given as goal

abbrev pub invariant-loop-first : goal.invariant-loop-first
invariant-loop-first l = (n : ℕ) → ArePlaces l.h n →
    horner n (polynomial l.sum) (numbers (blocks_in (length l.rest)) l.rest) ≡ horner n (polynomial l.fn.acc) (numbers (blocks_in (length l.bytes)) l.bytes)

abbrev pub decreases-loop-first : goal.decreases-loop-first
decreases-loop-first l = length l.rest
