use Rattle.std.proofs.Common.{arith}
use Rattle.ghash_core.proofs.Bytes.{padded_is}
use Rattle.ghash_core.proofs.absorb.padded.Goals as goal

pub returns : goal.returns
returns c = padded_is c.loop-i.block c.args.bytes.now c.loop-i.invariant.size c.requires (λ k h. c.loop-i.invariant.copied k (omega arith)) (λ k h. c.loop-i.invariant.rest k (omega arith))
