use Rattle.std.proofs.Common.{◌≡◌, ℕ, ◌-◌, ◌/◌, ◌^◌, ◌<◌, slice_index, bit_xor}
use Rattle.ghash_core.specs.Number.{shift_by, digits_product, digits}
use Rattle.ghash_core.specs.Lane.{lane, AreRows}
use Rattle.ghash_core.proofs.lanes.add_rows.Given as goal

abbrev pub invariant-loop-i : goal.invariant-loop-i
invariant-loop-i l = record {
  so_far : (j h : ℕ) → j < 4 → AreRows l.rows j h → lane j l.hi l.lo ≡ bit_xor (lane j l.fn.z_hi l.fn.z_lo) (digits_product (digits l.i (slice_index l.fn.bits j)) (shift_by (16 - l.i) h));
  remains : (j : ℕ) → j < 4 → slice_index l.w j ≡ slice_index l.fn.bits j / 2 ^ l.i;
}
