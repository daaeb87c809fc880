use Rattle.std.specs.Prelude.{◌≡◌, ℕ, List, length, take, None}
use Rattle.noise_health.specs.declared.health.Health.{Health}
use Rattle.noise_health.specs.Samples.{last_of, run_at_end, last_window, first_of, hits_of}
use Rattle.noise_health.specs.Signals.{health_signal}

-- these counters are those of the samples, of which no prefix shows a fault
pub record Counts (health : Health) (samples : List ℕ) : Type 0 where
  pub healthy : (n : ℕ) → health_signal (take n samples) ≡ None
  pub last : health.last ≡ last_of samples
  pub run : health.run ≡ run_at_end samples
  pub first : health.first ≡ first_of (last_window samples)
  pub seen : health.seen ≡ length (last_window samples)
  pub hits : health.hits ≡ hits_of (last_window samples)
