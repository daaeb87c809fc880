use Rattle.std.proofs.Common.{◌≡◌, ℕ, ◌<◌, ◌≤◌, get_or, bit_xor}
use Rattle.bits_core.proofs.byte_list.xor_into.Given as goal

abbrev pub invariant-loop-i : goal.invariant-loop-i
invariant-loop-i l = record {
  sums : (k : ℕ) → k < l.i → get_or l.a k 0 ≡ bit_xor (get_or l.initial.a k 0) (get_or l.b k 0);
  rest : (k : ℕ) → l.i ≤ k → get_or l.a k 0 ≡ get_or l.initial.a k 0;
}
