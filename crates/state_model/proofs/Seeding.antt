-- What a seed leaves, by the noise.
use Rattle.std.proofs.Common.{◌≡◌, ◌++◌, ◌∷◌, ℕ, zero, suc, List, [], Bool, true, false, Option, Some, None, Ok, Err, refl}
use Rattle.std.specs.Prelude.{IfSome}
use Rattle.drbg_core.specs.declared.generator.Drbg.{Drbg}
use Rattle.noise_health.specs.declared.health.Health.{Health}
use Rattle.noise_health.specs.Signals.{health_signal}
use Rattle.noise_health.specs.declared.health.HealthFault.{HealthFault}
use Rattle.noise_health.specs.declared.health.HealthFault.TheVariants as fault
use Rattle.noise_health.proofs.Faults.{healthy_more}
use Rattle.service_table.specs.declared.failure.Failure.{Failure}
use Rattle.outside.specs.declared.traits.Sample.{Sample}
use Rattle.outside.specs.declared.traits.Sample.TheVariants as event
use Rattle.outside.specs.Events.{next_event, events_after}
use Rattle.tested_noise.specs.Taken.{Taken, nothing_taken, health_failure, with_tested, with_event, one_more, samples_taken, taken_after}
use Rattle.engine_core.specs.Calls.{Calls, Keeps}
use Rattle.random_bits.specs.Draws.{Drawn, IsDrawn, instantiated, entropy, nonce, seeded_from}
use Rattle.state_model.specs.declared.self_testing.Judgement.{Judgement}
use Rattle.state_model.specs.SelfTesting.{seeded_when, noise_judgement, IsSeeded}
use Rattle.state_model.specs.MachineState.{AreHealthy, IsFailure}

-- the samples are healthy where nothing failed, and what failed is a failure
pub record IsFine (taken : Taken) : Type 0 where
  pub healthy : taken.failure ≡ None → AreHealthy taken.samples
  pub fails : IfSome taken.failure IsFailure

fault_is_failure : (shown : HealthFault) → IsFailure (health_failure shown)
fault_is_failure fault.Repetition = tt
fault_is_failure fault.Proportion = tt

tested_fine : (taken : Taken) (sample : ℕ) (shown : Option HealthFault) → health_signal (taken.samples ++ sample ∷ []) ≡ shown → taken.failure ≡ None → AreHealthy taken.samples
    → IsFine (with_tested taken sample shown)
tested_fine taken sample None is none healthy = record { healthy = λ _. healthy_more taken.samples sample healthy is; fails = rw none tt }
tested_fine taken sample (Some shown) is none healthy = record { healthy = λ e. cc; fails = fault_is_failure shown }

event_fine : (taken : Taken) (event : Sample) → taken.failure ≡ None → AreHealthy taken.samples → IsFine (with_event taken event)
event_fine taken (event.Byte sample) none healthy = tested_fine taken sample (health_signal (taken.samples ++ sample ∷ [])) refl none healthy
event_fine taken event.Ended none healthy = record { healthy = λ e. cc; fails = tt }
event_fine taken event.Failed none healthy = record { healthy = λ e. cc; fails = tt }

more_fine : (taken : Taken) (failure : Option Failure) → taken.failure ≡ failure → IsFine taken → IsFine (one_more taken failure)
more_fine taken None is fine = event_fine (record taken { left = events_after taken.left }) (next_event taken.left) is (fine.healthy is)
more_fine taken (Some why) is fine = fine

pub all_fine : (taken : Taken) (count : ℕ) → IsFine taken → IsFine (samples_taken taken count)
unfolding samples_taken
all_fine taken zero fine = fine
all_fine taken (suc count) fine = more_fine (samples_taken taken count) (samples_taken taken count).failure refl (all_fine taken count fine)

-- what holds without a seed, with a new one, and where the noise failed, holds where a seed is due or isn't
pub seeded_by : {V : Type 0} (calls : Calls V) (engine : V) (generator : Drbg) (samples : List ℕ) (events : List Sample) (due : Bool) (P : Drawn V → Type 0) → Keeps calls → AreHealthy samples
    → (due ≡ false → P (record { engine = engine; generator = generator; samples = samples; left = events; bytes = []; failure = None }))
    → ((engine' : V) (seed : Drbg) (more : List ℕ) (left : List Sample) → due ≡ true → seed.counter ≡ 1 → AreHealthy more
    → P (record { engine = engine'; generator = seed; samples = more; left = left; bytes = []; failure = None }))
    → ((more : List ℕ) (left : List Sample) (why : Failure) → due ≡ true → IsFailure why
    → P (record { engine = engine; generator = generator; samples = more; left = left; bytes = []; failure = Some why }))
    → P (seeded_when calls engine generator samples events due)
seeded_by calls engine generator samples events false P keeps healthy unseeded seeded failed = unseeded refl
seeded_by {V} calls engine generator samples events true P keeps healthy unseeded seeded failed =
    by_failure (taken_after samples events 1408) (taken_after samples events 1408).failure refl (all_fine (nothing_taken samples events) 1408 (record { healthy = λ _. healthy; fails = tt }))
  where
    by_failure : (taken : Taken) (failure : Option Failure) → taken.failure ≡ failure → IsFine taken → P (seeded_from calls engine generator taken failure)
    by_failure taken None is fine =
        let new : Drbg = calls.instantiate engine (entropy taken.bytes) (nonce taken.bytes) [] in
        rw is (seeded (calls.instantiate_after engine (entropy taken.bytes) (nonce taken.bytes) []) new taken.samples taken.left refl
        (keeps.instantiate_counter engine (entropy taken.bytes) (nonce taken.bytes) []) (fine.healthy is))
    by_failure taken (Some why) is fine = rw is (failed taken.samples taken.left why refl (rw is at fine.fails))

-- a seed that was due and taken
pub seed_taken : {V : Type 0} (calls : Calls V) (engine engine' : V) (generator seed : Drbg) (health : Health) (samples : List ℕ) (events left : List Sample) (judged : Judgement) (due : Bool) → due ≡ true
    → IsDrawn (instantiated calls engine generator samples events) engine' seed health (Ok tt) left → IsSeeded (seeded_when calls engine generator samples events due) judged engine' seed health judged left
seed_taken calls engine engine' generator seed health samples events left judged true is drawn = record {
  same_engine = drawn.same_engine;
  same_generator = drawn.same_generator;
  same_judgement = rw drawn.same_answer refl;
  counts = drawn.counts;
  events_left = drawn.events_left;
}
seed_taken calls engine engine' generator seed health samples events left judged false is drawn = cc

-- and one for which the noise failed
pub seed_failed : {V : Type 0} (calls : Calls V) (engine engine' : V) (generator seed : Drbg) (health : Health) (samples : List ℕ) (events left : List Sample) (judged after : Judgement) (why : Failure) (due : Bool)
    → due ≡ true → after ≡ noise_judgement judged (Some why) → IsDrawn (instantiated calls engine generator samples events) engine' seed health (Err why) left
    → IsSeeded (seeded_when calls engine generator samples events due) judged engine' seed health after left
seed_failed calls engine engine' generator seed health samples events left judged after why true is same drawn = record {
  same_engine = drawn.same_engine;
  same_generator = drawn.same_generator;
  same_judgement = rw drawn.same_answer same;
  counts = drawn.counts;
  events_left = drawn.events_left;
}
seed_failed calls engine engine' generator seed health samples events left judged after why false is same drawn = cc
