use Rattle.std.specs.Prelude.{◌-◌, ◌*◌, ◌/◌, ◌==◌, ℕ, List, [], ◌∷◌, length, drop, reverse, count_by}
use Rattle.std.specs.List.{prefix_len}

-- the first of these samples, or 0 where there is none
abbrev pub first_of : List ℕ → ℕ
first_of [] = 0
first_of (sample ∷ later) = sample

-- the last of these samples, or 0 where there is none
abbrev pub last_of : List ℕ → ℕ
last_of samples = first_of (reverse samples)

-- how many equal samples stand at the end
abbrev pub run_at_end : List ℕ → ℕ
run_at_end samples = prefix_len (λ sample. sample == last_of samples) (reverse samples)

-- the last window that the samples have begun: windows are 512 samples long, as for a source that isn't binary (SP 800-90B, section
-- 4.4.2), counted from the first sample
abbrev pub last_window : List ℕ → List ℕ
last_window samples = drop (512 * ((length samples - 1) / 512)) samples

-- how often a window's first sample stands in it, itself included
abbrev pub hits_of : List ℕ → ℕ
hits_of window = count_by (λ sample. sample == first_of window) window
