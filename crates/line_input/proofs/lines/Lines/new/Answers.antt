use Rattle.std.proofs.Common.{ℕ, ◌≡◌, length, replicate, ◌∙◌, ap, arith}
use Rattle.std.proofs.lemmas.List.{length-replicate}
use Rattle.line_input.proofs.lines.Lines.new.Goals as goal

pub invariant_of-result : goal.invariant_of-result
invariant_of-result c =
    let all : c.in_ok-buffer.buffer.items ≡ replicate 131400 0 = c.in_ok-buffer.ensures.items_if_clones_equal (λ y h. h) in
    record { room = ap length all ∙ length-replicate {A = ℕ} 131400 0; within = omega arith; spare = all; no_feed = tt; nothing_refused = λ h. cc }
