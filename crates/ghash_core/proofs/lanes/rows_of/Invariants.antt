use Rattle.std.proofs.Common.{◌≡◌, ℕ, ◌-◌, ◌+◌, ◌<◌, ◌≤◌, length, slice_index}
use Rattle.std.specs.Prelude.{slice_index_or}
use Rattle.ghash_core.specs.declared.lanes.Row.{Row}
use Rattle.ghash_core.specs.Number.{shift_by}
use Rattle.ghash_core.specs.Lane.{lane}
use Rattle.ghash_core.proofs.lanes.rows_of.Given as goal

abbrev pub invariant-loop-i : goal.invariant-loop-i
invariant-loop-i l = record {
  size : length l.rows ≡ 16;
  so_far : (j : ℕ) → j < 4 → slice_index l.products j ≡ shift_by l.i (slice_index l.multiplicands j);
  done : (j k : ℕ) (row : Row) → j < 4 → k < 16 → 16 ≤ k + l.i → lane j (slice_index_or l.rows k row).hi (slice_index_or l.rows k row).lo ≡ shift_by (15 - k) (slice_index l.multiplicands j);
}
