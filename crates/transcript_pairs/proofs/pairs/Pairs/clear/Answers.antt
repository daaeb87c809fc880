use Rattle.std.proofs.Common.{length, ap, arith}
use Rattle.transcript_pairs.proofs.HeldPairs.{cleared_reader}
use Rattle.transcript_pairs.proofs.pairs.Pairs.clear.Goals as goal

pub invariant_of-self : goal.invariant_of-self
invariant_of-self c = rw c.clear-2.ensures (cleared_reader c.self.inside c.clear.new.self _ c.clear.ensures.cleared c.self.invariant (omega (arith, ap length c.bytes.ensures, c.self.invariant.taken)))
