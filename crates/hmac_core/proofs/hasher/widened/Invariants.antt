use Rattle.std.proofs.Common.{◌≡◌, ℕ, ◌<◌, ◌≤◌, length, get_or}
use Rattle.hmac_core.proofs.hasher.widened.Given as goal

abbrev pub invariant-loop-i : goal.invariant-loop-i
invariant-loop-i g l = record {
  size : length l.out ≡ g.row.N;
  copied : (k : ℕ) → k < l.i → get_or l.out k 0 ≡ get_or l.bytes k 0;
  rest : (k : ℕ) → l.i ≤ k → get_or l.out k 0 ≡ 0;
}
