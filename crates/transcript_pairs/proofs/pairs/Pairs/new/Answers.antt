use Rattle.transcript_pairs.proofs.HeldPairs.{new_reader}
use Rattle.transcript_pairs.proofs.pairs.Pairs.new.Goals as goal

pub invariant_of-result : goal.invariant_of-result
invariant_of-result c = rw (c.in_ok-frames.ensures.new, c.new-2.ensures) new_reader
