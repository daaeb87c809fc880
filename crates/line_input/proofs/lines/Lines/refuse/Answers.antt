use Rattle.std.proofs.Common.{ℕ, ◌≡◌, length, ◌∙◌, ap, arith, refl}
use Rattle.std.proofs.lemmas.List.{length-replicate}
use Rattle.bits_core.specs.ByteList.{zeros}
use Rattle.line_input.proofs.Puts.{all_zero}
use Rattle.line_input.proofs.lines.Lines.refuse.Goals as goal

pub invariant_of-self : goal.invariant_of-self
invariant_of-self c =
    let all : c.zero_used.new.buffer.items ≡ zeros 131400 = c.zero_used.ensures ∙ all_zero _ c.self.inside.used 131400 c.self.invariant.within c.self.invariant.spare in
    record { room = ap length all ∙ length-replicate {A = ℕ} 131400 0; within = omega arith; spare = all; no_feed = tt; nothing_refused = λ h. refl }
