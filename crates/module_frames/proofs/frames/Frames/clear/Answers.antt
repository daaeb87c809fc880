use Rattle.std.proofs.Common.{refl, arith}
use Rattle.module_frames.proofs.Headers.{first_fault-nil, not_whole}
use Rattle.module_frames.proofs.Holding.{length-held, nothing_is_incomplete}
use Rattle.module_frames.proofs.frames.Frames.clear.Goals as goal

pub invariant_of-self : goal.invariant_of-self
invariant_of-self c = record {
  room = refl;
  few = omega arith;
  most = omega arith;
  spare = refl;
  no_fault = first_fault-nil;
  headless = λ h. c.clear.ensures;
  service = λ h. absurd (not_whole _ h);
  sequence = λ h. absurd (not_whole _ h);
  within = λ h. absurd (not_whole _ h);
  fresh = λ offset h. refl;
  short = rw (c.clear.ensures, c.body.ensures.body) (omega (arith, c.self.invariant.short, length-held c.self.inside c.self.invariant));
}

pub returns-clause-incomplete : goal.returns-clause-incomplete
returns-clause-incomplete c = rw c.clear.ensures nothing_is_incomplete
