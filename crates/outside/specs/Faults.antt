use Rattle.std.specs.Prelude.{◌≤◌, ◌+◌, ◌-◌, ◌^◌, min, ℕ}

-- a count of faults after one more: it stands still at the last number that 64 bits hold
abbrev pub one_more : ℕ → ℕ
one_more count = min (count + 1) (2 ^ 64 - 1)

-- the count rose, or stands still at its end
abbrev pub FaultCounted : ℕ → ℕ → Type 0
FaultCounted before now = one_more before ≤ now
