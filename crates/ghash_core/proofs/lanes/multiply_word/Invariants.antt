use Rattle.std.proofs.Common.{◌≡◌, ℕ, ◌*◌, ◌/◌, ◌^◌, ◌<◌, slice_index, bit_xor}
use Rattle.ghash_core.specs.Number.{shift_by, digits_product, digits}
use Rattle.ghash_core.specs.Lane.{lane, AreRows}
use Rattle.ghash_core.proofs.lanes.multiply_word.Given as goal

abbrev pub invariant-loop-step : goal.invariant-loop-step
invariant-loop-step l = record {
  so_far : (j h : ℕ) → j < 4 → AreRows l.rows j h → lane j l.hi l.lo ≡ bit_xor (digits_product (digits (16 * l.step) (slice_index l.fn.word j)) h) (shift_by (16 * l.step) (lane j l.fn.z_hi l.fn.z_lo));
  remains : (j : ℕ) → j < 4 → slice_index l.w j ≡ slice_index l.fn.word j / 2 ^ (16 * l.step);
}
