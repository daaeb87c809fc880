use Rattle.std.proofs.Common.{refl, arith}
use Rattle.module_frames.proofs.Headers.{first_fault-nil, not_whole}
use Rattle.module_frames.proofs.Holding.{nothing_is_incomplete}
use Rattle.module_frames.proofs.frames.Frames.new.Goals as goal

pub invariant_of-result : goal.invariant_of-result
invariant_of-result c = record {
  room = refl;
  few = omega arith;
  most = omega arith;
  spare = refl;
  no_fault = first_fault-nil;
  headless = λ h. c.in_ok-command.ensures;
  service = λ h. absurd (not_whole _ h);
  sequence = λ h. absurd (not_whole _ h);
  within = λ h. absurd (not_whole _ h);
  fresh = λ offset h. refl;
  short = rw c.in_ok-command.ensures (omega arith);
}

pub returns-clause-incomplete : goal.returns-clause-incomplete
returns-clause-incomplete c = rw c.in_ok-command.ensures nothing_is_incomplete
