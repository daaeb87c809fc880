use Rattle.std.proofs.Common.{◌≡◌, ◌+◌, ◌-◌, ◌<◌, ◌≤◌, ℕ, slice_index, length, bit_xor}
use Rattle.aes_lanes.proofs.stream.add_tail.Given as goal

abbrev pub invariant-loop-i : goal.invariant-loop-i
invariant-loop-i l = record {
  same : (p : ℕ) → p < l.at → slice_index l.text p ≡ slice_index l.fn.text p;
  done : (p : ℕ) → l.at ≤ p → p < l.at + l.i → p < length l.fn.text → slice_index l.text p ≡ bit_xor (slice_index l.fn.text p) (slice_index l.stream (p - l.at));
  rest : (p : ℕ) → l.at + l.i ≤ p → slice_index l.text p ≡ slice_index l.fn.text p;
}
