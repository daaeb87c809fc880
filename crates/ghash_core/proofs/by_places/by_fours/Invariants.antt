use Rattle.std.proofs.Common.{◌≡◌, ℕ, length}
use Rattle.ghash_core.specs.Block.{blocks_in}
use Rattle.ghash_core.specs.Number.{horner, numbers, number_power}
use Rattle.ghash_core.specs.ByBytes.{polynomial}
use Rattle.ghash_core.specs.Places.{ArePlaces}
use Rattle.ghash_core.proofs.by_places.by_fours.Given as goal

abbrev pub invariant-loop-rest : goal.invariant-loop-rest
invariant-loop-rest l = (n : ℕ) → ArePlaces l.first n → ArePlaces l.second (number_power n 2) → ArePlaces l.third (number_power n 3) → ArePlaces l.fourth (number_power n 4) →
    horner n (polynomial l.sum) (numbers (blocks_in (length l.rest)) l.rest) ≡ horner n (polynomial l.fn.acc) (numbers (blocks_in (length l.bytes)) l.bytes)

abbrev pub decreases-loop-rest : goal.decreases-loop-rest
decreases-loop-rest l = length l.rest
