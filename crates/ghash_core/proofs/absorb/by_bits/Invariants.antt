use Rattle.std.proofs.Common.{◌≡◌, length}
use Rattle.ghash_core.specs.Block.{blocks_in}
use Rattle.ghash_core.specs.Number.{horner, numbers}
use Rattle.ghash_core.proofs.absorb.by_bits.Given as goal

abbrev pub invariant-loop-block : goal.invariant-loop-block
invariant-loop-block l = horner l.h l.sum (numbers (blocks_in (length l.rest)) l.rest) ≡ horner l.h l.y (numbers (blocks_in (length l.bytes)) l.bytes)

abbrev pub decreases-loop-block : goal.decreases-loop-block
decreases-loop-block l = length l.rest
