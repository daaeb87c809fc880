use Rattle.std.proofs.Common.{◌≡◌, ℕ, ◌+◌, ◌*◌, ◌/◌, ◌%◌, ◌<◌, ◌≤◌, get_or}
use Rattle.cmac_core.proofs.doubling.double.Given as goal

abbrev pub invariant-loop-i : goal.invariant-loop-i
invariant-loop-i l = record {
  so_far : (k : ℕ) → k < l.i → get_or l.block k 0 ≡ get_or l.initial.block k 0 * 2 % 256 + get_or l.initial.block (k + 1) 0 / 128;
  rest : (k : ℕ) → l.i ≤ k → get_or l.block k 0 ≡ get_or l.initial.block k 0;
}
