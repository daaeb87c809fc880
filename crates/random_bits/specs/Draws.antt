-- Random bits: how the generator of an engine is seeded with samples of tested noise, reseeded and drawn from (SP 800-90A Rev. 1, 9).
-- The numbers of samples are this project's own; it assesses one bit of entropy a sample.
use Rattle.std.specs.Prelude.{◌≡◌, ℕ, List, [], take, drop, Option, Some, None, nat_lt, if◌then◌else◌, Result, MatchResult, ⊤}
use Rattle.drbg_core.specs.declared.generator.Drbg.{Drbg}
use Rattle.drbg_core.specs.Generator.{Generated}
use Rattle.noise_health.specs.Counts.{Counts}
use Rattle.noise_health.specs.declared.health.Health.{Health}
use Rattle.outside.specs.declared.traits.Sample.{Sample}
use Rattle.service_table.specs.declared.failure.Failure.{Failure}
use Rattle.tested_noise.specs.Taken.{Taken, taken_after}
use Rattle.engine_core.specs.Calls.{Calls}

-- what is there after a use of the generator: the engine, the generator, all samples since the noise began, the events left, the bytes
-- drawn, and what failed, where something did
pub record Drawn (V : Type 0) : Type 0 where
  pub engine : V
  pub generator : Drbg
  pub samples : List ℕ
  pub left : List Sample
  pub bytes : List ℕ
  pub failure : Option Failure

-- the noise that was taken; engine and generator are these, and no bytes were drawn
abbrev pub with_noise : {V : Type 0} → V → Drbg → Taken → Drawn V
with_noise engine generator taken =
    record { engine = engine; generator = generator; samples = taken.samples; left = taken.left; bytes = []; failure = taken.failure }

-- the entropy and the nonce among the samples of a seed: of 1,408 the first 1,024 are dropped (SP 800-90B, section 4.3, asks for
-- such a start-up test), 256 are entropy, and 128 the nonce
abbrev pub entropy : List ℕ → List ℕ
entropy samples = take 256 (drop 1024 samples)

abbrev pub nonce : List ℕ → List ℕ
nonce samples = drop 1280 samples

-- a seed was taken: the generator is new, with an empty personalization string. Where the noise failed it is as it was.
abbrev pub seeded_from : {V : Type 0} → Calls V → V → Drbg → Taken → Option Failure → Drawn V
seeded_from calls engine generator taken None =
    with_noise (calls.instantiate_after engine (entropy taken.bytes) (nonce taken.bytes) []) (calls.instantiate engine (entropy taken.bytes) (nonce taken.bytes) []) taken
seeded_from calls engine generator taken (Some why) = with_noise engine generator taken

-- instantiation (SP 800-90A Rev. 1, 9.1)
abbrev pub instantiated : {V : Type 0} → Calls V → V → Drbg → List ℕ → List Sample → Drawn V
instantiated calls engine generator samples events =
    let taken = taken_after samples events 1408 in
    seeded_from calls engine generator taken taken.failure

abbrev pub reseeded_from : {V : Type 0} → Calls V → V → Drbg → List ℕ → Taken → Option Failure → Drawn V
reseeded_from calls engine generator additional taken None =
    with_noise (calls.reseed_after engine generator taken.bytes additional) (calls.reseed engine generator taken.bytes additional) taken
reseeded_from calls engine generator additional taken (Some why) = with_noise engine generator taken

-- reseeding (9.2), with 256 samples
abbrev pub reseeded : {V : Type 0} → Calls V → V → Drbg → List ℕ → List ℕ → List Sample → Drawn V
reseeded calls engine generator additional samples events =
    let taken = taken_after samples events 256 in
    reseeded_from calls engine generator additional taken taken.failure

-- a generator that has answered as many requests as one seed allows, 1,024, is reseeded first
abbrev pub refreshed : {V : Type 0} → Calls V → V → Drbg → List ℕ → List Sample → Drawn V
refreshed calls engine generator samples events =
    if nat_lt 1024 generator.counter
    then reseeded calls engine generator [] samples events
    else record { engine = engine; generator = generator; samples = samples; left = events; bytes = []; failure = None }

abbrev pub generated_by : {V : Type 0} → Calls V → Drawn V → List ℕ → ℕ → Option Failure → Drawn V
generated_by calls ready additional n None =
    let request : Generated = calls.generate ready.engine ready.generator additional n in
    record ready { engine = calls.generate_after ready.engine ready.generator additional n; generator = request.after; bytes = request.bytes }
generated_by calls ready additional n (Some why) = ready

-- a draw of n bytes (9.3)
abbrev pub drawn : {V : Type 0} → Calls V → V → Drbg → List ℕ → ℕ → List ℕ → List Sample → Drawn V
drawn calls engine generator additional n samples events =
    let ready = refreshed calls engine generator samples events in
    generated_by calls ready additional n ready.failure

-- engine, generator, counters and answer are those of a use of the generator, and these events are left
pub record IsDrawn {V : Type 0} (after : Drawn V) (engine : V) (generator : Drbg) (health : Health) (answer : Result ⊤ Failure) (left : List Sample) : Type 0 where
  pub same_engine : engine ≡ after.engine
  pub same_generator : generator ≡ after.generator
  pub same_answer : MatchResult answer (λ _. after.failure ≡ None) (λ why. after.failure ≡ Some why)
  pub counts : after.failure ≡ None → Counts health after.samples
  pub events_left : after.left ≡ left
