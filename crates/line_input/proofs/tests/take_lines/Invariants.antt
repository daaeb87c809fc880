use Rattle.std.proofs.Common.{◌≡◌, ◌≤◌, false, length}
use Rattle.line_input.proofs.tests.take_lines.Given as goal

abbrev pub invariant-loop-turn : goal.invariant-loop-turn
invariant-loop-turn l = (l.lines.whole ≡ false) × (l.place ≤ length l.piece)
