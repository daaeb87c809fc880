-- Samples of noise, each of which is tested with all that came before it (SP 800-90B, section 4.4).
use Rattle.std.specs.Prelude.{◌≡◌, ℕ, zero, suc, List, [], ◌∷◌, ◌++◌, Option, Some, None, length, Result, MatchResult, ⊤}
use Rattle.noise_health.specs.Signals.{health_signal}
use Rattle.noise_health.specs.declared.health.HealthFault.{HealthFault}
use Rattle.noise_health.specs.declared.health.HealthFault.TheVariants as fault
use Rattle.outside.specs.Events.{next_event, events_after}
use Rattle.outside.specs.declared.traits.Sample.{Sample}
use Rattle.outside.specs.declared.traits.Sample.TheVariants as event
use Rattle.service_table.specs.declared.failure.Failure.{Failure}
use Rattle.service_table.specs.declared.failure.Failure.TheVariants as failure

-- What was taken from the noise: all samples since it began, the events left, the bytes handed out, and what failed, where
-- something did.
pub record Taken : Type 0 where
  pub samples : List ℕ
  pub left : List Sample
  pub bytes : List ℕ
  pub failure : Option Failure

-- nothing yet, after these samples and with these events left
abbrev pub nothing_taken : List ℕ → List Sample → Taken
nothing_taken samples events = record { samples = samples; left = events; bytes = []; failure = None }

abbrev pub health_failure : HealthFault → Failure
health_failure fault.Repetition = failure.Repetition
health_failure fault.Proportion = failure.Proportion

-- a sample is handed out, unless a fault shows at it
abbrev pub with_tested : Taken → ℕ → Option HealthFault → Taken
with_tested taken sample None = record taken { samples = taken.samples ++ sample ∷ []; bytes = taken.bytes ++ sample ∷ [] }
with_tested taken sample (Some shown) = record taken { samples = taken.samples ++ sample ∷ []; failure = Some (health_failure shown) }

-- what an event of the noise brings
abbrev pub with_event : Taken → Sample → Taken
with_event taken (event.Byte sample) = with_tested taken sample (health_signal (taken.samples ++ sample ∷ []))
with_event taken event.Ended = record taken { failure = Some failure.NoiseEnded }
with_event taken event.Failed = record taken { failure = Some failure.NoiseFailed }

-- the next event, unless something failed
abbrev pub one_more : Taken → Option Failure → Taken
one_more taken None = with_event (record taken { left = events_after taken.left }) (next_event taken.left)
one_more taken (Some why) = taken

-- so many samples, up to a failure
unfoldable pub samples_taken : Taken → ℕ → Taken
samples_taken taken zero = taken
samples_taken taken (suc count) = let before = samples_taken taken count in one_more before before.failure

-- so many samples after these ones
abbrev pub taken_after : List ℕ → List Sample → ℕ → Taken
taken_after samples events count = samples_taken (nothing_taken samples events) count

-- taking as many samples as these bytes are hands out these, and leaves these events
abbrev pub AreTaken : List ℕ → List ℕ → List Sample → List Sample → Type 0
AreTaken samples bytes events left = taken_after samples events (length bytes) ≡ record { samples = samples ++ bytes; left = left; bytes = bytes; failure = None }

-- taking so many samples fails for this reason, and leaves these events
pub record FailsWithin (samples : List ℕ) (count : ℕ) (why : Failure) (events left : List Sample) : Type 0 where
  pub reason : (taken_after samples events count).failure ≡ Some why
  pub events_left : (taken_after samples events count).left ≡ left

-- the answer to taking one sample
abbrev pub IsSample : List ℕ → Result ℕ Failure → List Sample → List Sample → Type 0
IsSample samples answer events left = MatchResult answer (λ byte. AreTaken samples (byte ∷ []) events left) (λ why. FailsWithin samples 1 why events left)

-- the answer to taking as many samples as there is room for
abbrev pub AreSamples : List ℕ → List ℕ → Result ⊤ Failure → List Sample → List Sample → Type 0
AreSamples samples bytes answer events left = MatchResult answer (λ _. AreTaken samples bytes events left) (λ why. FailsWithin samples (length bytes) why events left)
