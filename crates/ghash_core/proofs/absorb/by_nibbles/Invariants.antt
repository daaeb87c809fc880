use Rattle.std.proofs.Common.{◌≡◌, ℕ, length}
use Rattle.ghash_core.specs.Block.{blocks_in}
use Rattle.ghash_core.specs.Number.{horner, numbers, AreMultiples}
use Rattle.ghash_core.proofs.absorb.by_nibbles.Given as goal

abbrev pub invariant-loop-block : goal.invariant-loop-block
invariant-loop-block l = (h : ℕ) → AreMultiples l.table h → horner h l.sum (numbers (blocks_in (length l.rest)) l.rest) ≡ horner h l.y (numbers (blocks_in (length l.bytes)) l.bytes)

abbrev pub decreases-loop-block : goal.decreases-loop-block
decreases-loop-block l = length l.rest
