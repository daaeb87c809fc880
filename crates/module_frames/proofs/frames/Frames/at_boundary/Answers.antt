use Rattle.std.proofs.Common.{rules, ap, ◌∙◌, arith}
use Rattle.std.proofs.lemmas.Bool.Decides.{nat_tests}
use Rattle.module_frames.specs.Fragments.{Fragment}
use Rattle.module_frames.proofs.Holding.{held_none, none_held}
use Rattle.module_frames.proofs.frames.Frames.at_boundary.Goals as goal

pub returns-then-self-eq0 : goal.returns-then-self-eq0
returns-then-self-eq0 c = rw (← c.self.view_is, none_held c.self.inside c.self.invariant c.if-self-eq0.true) (search rules)

pub returns-else-self-eq0 : goal.returns-else-self-eq0
returns-else-self-eq0 c = (
  λ zero. absurd (c.if-self-eq0.false (grind (arith, nat_tests, zero))),
  λ h. absurd (c.if-self-eq0.false (held_none c.self.inside c.self.invariant (ap (λ (f : Fragment). f.bytes) c.self.view_is ∙ h.0))),
)
