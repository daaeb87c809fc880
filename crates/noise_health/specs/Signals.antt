use Rattle.std.specs.Prelude.{◌&&◌, ◌==◌, nat_le, ℕ, Bool, List, length, take, reverse, Option, Some, None, if◌then◌else◌}
use Rattle.std.specs.List.{list_all}
use Rattle.noise_health.specs.declared.health.HealthFault.{HealthFault}
use Rattle.noise_health.specs.declared.health.HealthFault.TheVariants.{Repetition, Proportion}
use Rattle.noise_health.specs.Samples.{last_of, last_window, first_of, hits_of}

-- The health tests of SP 800-90B, on all samples since the start. The cutoffs are those of a source
-- that gives 1 bit of entropy a sample, at a false alarm once in 2 ^ 30 samples.

-- the repetition count test (section 4.4.1): there are 31 samples, and the last 31 are equal
abbrev pub repetition_count : List ℕ → Bool
repetition_count samples = nat_le 31 (length samples) && list_all (λ sample. sample == last_of samples) (take 31 (reverse samples))

-- the adaptive proportion test (section 4.4.2): the last sample is the first one of its window, for the 325th time
abbrev pub adaptive_proportion : List ℕ → Bool
adaptive_proportion samples = hits_of (last_window samples) == 325 && last_of samples == first_of (last_window samples)

-- the fault that shows at the last sample, repetition before proportion
abbrev pub health_signal : List ℕ → Option HealthFault
health_signal samples = if repetition_count samples then Some Repetition else (if adaptive_proportion samples then Some Proportion else None)
