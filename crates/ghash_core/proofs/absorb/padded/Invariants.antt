use Rattle.std.proofs.Common.{◌≡◌, ℕ, ◌<◌, ◌≤◌, length, get_or}
use Rattle.ghash_core.proofs.absorb.padded.Given as goal

abbrev pub invariant-loop-i : goal.invariant-loop-i
invariant-loop-i l = record {
  size : length l.block ≡ 16;
  copied : (k : ℕ) → k < l.i → get_or l.block k 0 ≡ get_or l.bytes k 0;
  rest : (k : ℕ) → l.i ≤ k → get_or l.block k 0 ≡ 0;
}
