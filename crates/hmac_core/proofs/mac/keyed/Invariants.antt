use Rattle.std.proofs.Common.{◌≡◌, ℕ, ◌<◌, length, get_or, bit_xor}
use Rattle.hmac_core.proofs.mac.keyed.Given as goal

abbrev pub invariant-loop-i : goal.invariant-loop-i
invariant-loop-i l = record {
  size : length l.padded ≡ 128;
  so_far : (k : ℕ) → k < l.i → get_or l.padded k 0 ≡ bit_xor (get_or l.block k 0) l.pad;
}
