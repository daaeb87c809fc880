use Rattle.std.proofs.Common.{◌≡◌, ◌+◌, ◌-◌, ◌*◌, ◌/◌, ◌%◌, ◌<◌, ◌≤◌, ℕ, slice_index, bit_xor}
use Rattle.aes_lanes.specs.Rounds.{byte}
use Rattle.aes_lanes.proofs.stream.add_blocks.Given as goal

abbrev pub invariant-loop-i : goal.invariant-loop-i
invariant-loop-i l = record {
  same : (p : ℕ) → p < l.at → slice_index l.text p ≡ slice_index l.fn.text p;
  done : (p : ℕ) → l.at ≤ p → p < l.at + 16 * l.i → slice_index l.text p ≡ bit_xor (slice_index l.fn.text p) (byte l.stream ((p - l.at) % 16) ((p - l.at) / 16));
  rest : (p : ℕ) → l.at + 16 * l.i ≤ p → slice_index l.text p ≡ slice_index l.fn.text p;
}
