-- Numbers of 128 bits side by side, each in a lane of two vectors.
use Rattle.std.specs.Prelude.{◌≡◌, ℕ, ◌+◌, ◌-◌, ◌*◌, ◌^◌, ◌<◌, List, slice_index, slice_index_or}
use Rattle.ghash_core.specs.Number.{shift_by}
use Rattle.ghash_core.specs.declared.lanes.Row.{Row}

-- number j, from the vectors of the high and of the low words
abbrev pub lane : ℕ → List ℕ → List ℕ → ℕ
lane j hi lo = slice_index hi j * 2 ^ 64 + slice_index lo j

-- row i has, in lane j, h times x^(15 - i)
abbrev pub AreRows : List Row → ℕ → ℕ → Type 0
AreRows rows j h = (i : ℕ) (row : Row) → i < 16 → lane j (slice_index_or rows i row).hi (slice_index_or rows i row).lo ≡ shift_by (15 - i) h
