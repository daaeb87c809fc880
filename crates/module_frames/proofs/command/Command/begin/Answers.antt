use Rattle.std.proofs.Common.{ℕ, ◌≡◌, length, replicate, ◌∙◌, ap, arith}
use Rattle.std.proofs.lemmas.List.{length-replicate}
use Rattle.module_frames.proofs.Zeros.{all_zero}
use Rattle.module_frames.proofs.command.Command.begin.Goals as goal

pub invariant_of-self : goal.invariant_of-self
invariant_of-self c =
    let all : c.zero_used.new.buffer.items ≡ replicate 65600 0 = c.zero_used.ensures ∙ all_zero _ c.self.inside.used 65600 c.self.invariant.within c.self.invariant.spare in
    record { room = ap length all ∙ length-replicate {A = ℕ} 65600 0; within = omega arith; spare = all }
