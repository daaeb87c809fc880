-- What fails in a step of the self-tests, before a cryptographic service, and of the noise.
use Rattle.std.proofs.Common.{◌≡◌, ◌≤◌, ◌++◌, ◌∷◌, ℕ, zero, suc, List, [], Bool, true, false, Option, Some, None, refl, sym, ap, ◌∙◌, arith, if◌then◌else◌}
use Rattle.std.specs.Prelude.{◌==◌, nat_lt, not, IfSome, find, option_and_then}
use Rattle.std.proofs.lemmas.Bool.Decides.{nat_tests}
use Rattle.drbg_core.specs.declared.generator.Drbg.{Drbg}
use Rattle.noise_health.specs.Signals.{health_signal}
use Rattle.noise_health.specs.declared.health.HealthFault.{HealthFault}
use Rattle.noise_health.specs.declared.health.HealthFault.TheVariants as fault
use Rattle.service_table.specs.declared.failure.Failure.{Failure}
use Rattle.service_table.specs.declared.failure.Failure.TheVariants as failure
use Rattle.service_table.specs.declared.status.Status.TheVariants as status
use Rattle.self_tests.specs.declared.numbers.Test.{Test}
use Rattle.self_tests.specs.declared.numbers.Test.TheVariants as test
use Rattle.self_tests.specs.Tests.{number_of, test_numbered, all_tests}
use Rattle.self_tests.specs.TestSet.{has_test, with_test}
use Rattle.self_tests.specs.KnownAnswers.{answers_right, engine_after}
use Rattle.self_tests.specs.Integrity.{image_outcome}
use Rattle.outside.specs.Events.{next_event, events_after}
use Rattle.outside.specs.declared.traits.Sample.{Sample}
use Rattle.outside.specs.declared.traits.Sample.TheVariants as event
use Rattle.tested_noise.specs.Taken.{Taken, nothing_taken, with_tested, with_event, one_more, samples_taken, taken_after}
use Rattle.module_frames.specs.declared.public_state.PublicState.{PublicState}
use Rattle.module_frames.specs.PublicEffects.{has_failed, test_done}
use Rattle.module_frames.specs.PublicState.{no_block}
use Rattle.module_frames.specs.LawfulSteps.{is_of_noise, step_failure}
use Rattle.module_frames.specs.Requests.{CryptographicRequest}
use Rattle.module_frames.specs.Requests as request
use Rattle.engine_core.specs.Calls.{Calls}
use Rattle.random_bits.specs.Draws.{Drawn, instantiated, seeded_from, reseeded_from, reseeded, refreshed, generated_by, drawn}
use Rattle.state_model.specs.SelfTesting.{Tested, tested, judgement, image_judgement, image_tested, step_tested, seeded_when, noise_judgement, due_at_first_use}
use Rattle.state_model.specs.MachineState.{MachineState}
use Rattle.state_model.specs.Management.{Stepped, done, answered, after_test, with_seeded, test_step}
use Rattle.state_model.specs.Cryptographic.{drawn_for}
use Rattle.state_model.proofs.TestSteps.{with_results, seeded_step}

-- what failed, where something did, is the noise
abbrev pub IsOfNoise : Option Failure → Type 0
IsOfNoise fails = IfSome fails (λ reason. is_of_noise reason ≡ true)

shown_noise : (taken : Taken) (sample : ℕ) (shown : Option HealthFault) → IsOfNoise taken.failure → IsOfNoise (with_tested taken sample shown).failure
shown_noise taken sample None before = before
shown_noise taken sample (Some fault.Repetition) before = refl
shown_noise taken sample (Some fault.Proportion) before = refl

event_noise : (taken : Taken) (next : Sample) → IsOfNoise taken.failure → IsOfNoise (with_event taken next).failure
event_noise taken (event.Byte sample) before = shown_noise taken sample (health_signal (taken.samples ++ sample ∷ [])) before
event_noise taken event.Ended before = refl
event_noise taken event.Failed before = refl

more_noise : (taken : Taken) (fails : Option Failure) → IsOfNoise taken.failure → IsOfNoise (one_more taken fails).failure
more_noise taken None before = event_noise (record taken { left = events_after taken.left }) (next_event taken.left) before
more_noise taken (Some reason) before = before

samples_noise : (taken : Taken) (count : ℕ) → IsOfNoise taken.failure → IsOfNoise (samples_taken taken count).failure
unfolding samples_taken
samples_noise taken zero before = before
samples_noise taken (suc count) before = more_noise (samples_taken taken count) (samples_taken taken count).failure (samples_noise taken count before)

seeded_noise : {V : Type 0} (calls : Calls V) (engine : V) (generator : Drbg) (taken : Taken) (fails : Option Failure) → IsOfNoise taken.failure → IsOfNoise (seeded_from calls engine generator taken fails).failure
seeded_noise calls engine generator taken None is = is
seeded_noise calls engine generator taken (Some reason) is = is

-- a seed that is due
seed_noise : {V : Type 0} (calls : Calls V) (engine : V) (generator : Drbg) (samples : List ℕ) (events : List Sample) → IsOfNoise (instantiated calls engine generator samples events).failure
seed_noise calls engine generator samples events =
    let taken = taken_after samples events 1408 in seeded_noise calls engine generator taken taken.failure (samples_noise (nothing_taken samples events) 1408 tt)

reseeded_noise : {V : Type 0} (calls : Calls V) (engine : V) (generator : Drbg) (additional : List ℕ) (taken : Taken) (fails : Option Failure) → IsOfNoise taken.failure
    → IsOfNoise (reseeded_from calls engine generator additional taken fails).failure
reseeded_noise calls engine generator additional taken None is = is
reseeded_noise calls engine generator additional taken (Some reason) is = is

reseed_noise : {V : Type 0} (calls : Calls V) (engine : V) (generator : Drbg) (additional samples : List ℕ) (events : List Sample) → IsOfNoise (reseeded calls engine generator additional samples events).failure
reseed_noise calls engine generator additional samples events =
    let taken = taken_after samples events 256 in
    reseeded_noise calls engine generator additional taken taken.failure (samples_noise (nothing_taken samples events) 256 tt)

refresh_noise : {V : Type 0} (calls : Calls V) (engine : V) (generator : Drbg) (samples : List ℕ) (events : List Sample) → IsOfNoise (refreshed calls engine generator samples events).failure
refresh_noise {V} calls engine generator samples events = by_due (nat_lt 1024 generator.counter)
  where
    by_due : (due : Bool) → (let still : Drawn V = record { engine = engine; generator = generator; samples = samples; left = events; bytes = []; failure = None } in
        IsOfNoise (if due then reseeded calls engine generator [] samples events else still).failure)
    by_due true = reseed_noise calls engine generator [] samples events
    by_due false = tt

generated_noise : {V : Type 0} (calls : Calls V) (ready : Drawn V) (additional : List ℕ) (n : ℕ) (fails : Option Failure) → IsOfNoise ready.failure → IsOfNoise (generated_by calls ready additional n fails).failure
generated_noise calls ready additional n None is = is
generated_noise calls ready additional n (Some reason) is = is

draw_noise : {V : Type 0} (calls : Calls V) (engine : V) (generator : Drbg) (additional : List ℕ) (n : ℕ) (samples : List ℕ) (events : List Sample)
    → IsOfNoise (drawn calls engine generator additional n samples events).failure
draw_noise calls engine generator additional n samples events =
    let ready = refreshed calls engine generator samples events in generated_noise calls ready additional n ready.failure (refresh_noise calls engine generator samples events)

-- so is what fails in a draw
pub drawn_noise : {V : Type 0} (calls : Calls V) (engine : V) (generator : Drbg) (samples : List ℕ) (events : List Sample) (what : CryptographicRequest)
    → IsOfNoise (drawn_for calls engine generator samples events what).failure
drawn_noise calls engine generator samples events (request.Hash alg text) = tt
drawn_noise calls engine generator samples events (request.Mac slot alg mac_length text) = tt
drawn_noise calls engine generator samples events (request.MacVerify slot alg tag text) = tt
drawn_noise calls engine generator samples events (request.Seal slot tag_length aad text) = draw_noise calls engine generator [] 12 samples events
drawn_noise calls engine generator samples events (request.SealIv slot tag_length iv aad text) = tt
drawn_noise calls engine generator samples events (request.Open slot iv aad text tag) = tt
drawn_noise calls engine generator samples events (request.Wrap pad kek second) = tt
drawn_noise calls engine generator samples events (request.Unwrap pad kek target kind export uses wrapped) = tt
drawn_noise calls engine generator samples events (request.Derive source target kind export uses long label context) = tt
drawn_noise calls engine generator samples events (request.Random long additional) = draw_noise calls engine generator additional long samples events
drawn_noise calls engine generator samples events (request.Generate target header long) = draw_noise calls engine generator [] long samples events
drawn_noise calls engine generator samples events (request.Reseed additional) = reseed_noise calls engine generator additional samples events

pub of_noise : (fails : Option Failure) (reason : Failure) → fails ≡ Some reason → IsOfNoise fails → is_of_noise reason ≡ true
of_noise fails reason is noise = rw is at noise

-- what holds of a step's test that passed, and of one that failed, holds of what a step of TestStep tests
step_tested_known : {V : Type 0} (calls : Calls V) (engine : V) (public : PublicState) (tests : ℕ) (image digest : List ℕ) (P : Tested V → Type 0)
    → ((more : ℕ) (engine' : V) → P (record { judgement = record { public = public; tests_passed = more; refused = None }; engine = engine' }))
    → ((engine' : V) → P (record { judgement = record { public = has_failed (step_failure public.tests_done) public; tests_passed = tests; refused = Some status.TestFailed }; engine = engine' }))
    → P (step_tested calls engine public tests image digest)
step_tested_known {V} calls engine public tests image digest P passes fails = by_count (public.tests_done == 0) (public.tests_done == 1) fails
  where
    -- what a test leaves that failed
    failed_with : Failure → V → Tested V
    failed_with reason engine' = record { judgement = record { public = has_failed reason public; tests_passed = tests; refused = Some status.TestFailed }; engine = engine' }

    known : (t : Test) → ((engine' : V) → P (failed_with (failure.KnownAnswer (number_of t)) engine')) → (right : Bool)
        → P (record { judgement = judgement public tests t right; engine = engine_after calls engine t })
    known t failed true = passes (with_test tests t) (engine_after calls engine t)
    known t failed false = failed (engine_after calls engine t)

    image_by : ((engine' : V) → P (failed_with failure.Integrity engine')) → (right : Bool)
        → P (record { judgement = image_judgement public tests right; engine = (image_outcome calls engine image digest).engine })
    image_by failed true = passes tests (image_outcome calls engine image digest).engine
    image_by failed false = failed (image_outcome calls engine image digest).engine

    by_count : (first second : Bool)
        → ((engine' : V) → P (failed_with (if first then failure.KnownAnswer 4 else if second then failure.Integrity else failure.KnownAnswer 14) engine'))
        → P (if first then tested calls engine public tests (Some test.HmacSha256) else if second then image_tested calls engine public tests image digest else tested calls engine public tests (Some test.Generator))
    by_count true second failed = known test.HmacSha256 failed (answers_right calls engine test.HmacSha256)
    by_count false true failed = image_by failed (image_outcome calls engine image digest).right
    by_count false false failed = known test.Generator failed (answers_right calls engine test.Generator)

-- What holds of a step that was done, of one whose test failed and of one whose noise did, with what failed, holds of TestStep. A step takes
-- noise after the last test alone.
pub test_step_known : {V : Type 0} (calls : Calls V) (s : MachineState V) (events : List Sample) (P : Stepped V → Type 0)
    → ((tests : ℕ) (engine : V) (generator : Drbg) (samples : List ℕ) (left : List Sample) → P (done (with_results s (test_done s.shared.public) tests engine generator samples) no_block left))
    → ((tests : ℕ) (engine : V) (generator : Drbg) (samples : List ℕ) (left : List Sample)
    → P (answered (with_results s (has_failed (step_failure s.shared.public.tests_done) s.shared.public) tests engine generator samples) status.TestFailed no_block left))
    → ((reason : Failure) (tests : ℕ) (engine : V) (generator : Drbg) (samples : List ℕ) (left : List Sample) → is_of_noise reason ≡ true → 2 ≤ s.shared.public.tests_done
    → P (answered (with_results s (has_failed reason s.shared.public) tests engine generator samples) status.NoiseFault no_block left))
    → P (test_step calls s events)
test_step_known {V} calls s events P passed failed noise_failed =
    let Holds : Tested V → Type 0 = λ t. P (seeded_step calls s events t) in
    step_tested_known calls s.shared.engine s.shared.public s.shared.tests_passed s.shared.image s.shared.digest Holds
    (λ more engine. by_due more engine (nat_lt s.shared.public.tests_done 2) refl)
    (λ engine. failed s.shared.tests_passed engine s.shared.generator s.shared.samples events)
  where
    after_seed : ℕ → Drawn V → Option Failure → Stepped V
    after_seed more seed fails =
        let judged = noise_judgement (record { public = s.shared.public; tests_passed = more; refused = None }) fails in after_test s (with_seeded s.shared judged seed) judged.refused seed.left

    by_failure : (more : ℕ) (seed : Drawn V) (fails : Option Failure) → 2 ≤ s.shared.public.tests_done → IsOfNoise fails → P (after_seed more seed fails)
    by_failure more seed None last noise = passed more seed.engine seed.generator seed.samples seed.left
    by_failure more seed (Some reason) last noise = noise_failed reason more seed.engine seed.generator seed.samples seed.left noise last

    by_due : (more : ℕ) (engine : V) (earlier : Bool) → nat_lt s.shared.public.tests_done 2 ≡ earlier
        → (let seed = seeded_when calls engine s.shared.generator s.shared.samples events (not earlier) in P (after_seed more seed seed.failure))
    by_due more engine true is = passed more engine s.shared.generator s.shared.samples events
    by_due more engine false is =
        let seed = instantiated calls engine s.shared.generator s.shared.samples events in
        by_failure more seed seed.failure (grind (arith, nat_tests, is)) (seed_noise calls engine s.shared.generator s.shared.samples events)

-- the test that is found by a number has it
found_has : (number : ℕ) (all : List Test) (due : Test) → find (λ t. number_of t == number) all ≡ Some due → number ≡ number_of due
found_has number [] due is = cc
found_has number (t ∷ more) due is = chosen (number_of t == number) refl is (λ later. found_has number more due later)
  where
    chosen : (same : Bool) → (number_of t == number) ≡ same → (if same then Some t else find (λ u. number_of u == number) more) ≡ Some due
        → (find (λ u. number_of u == number) more ≡ Some due → number ≡ number_of due) → number ≡ number_of due
    chosen true same is' later = let eq : t ≡ due = cc in let numbers : number_of t ≡ number = grind (arith, nat_tests, same) in sym numbers ∙ ap (λ u. number_of u) eq
    chosen false same is' later = later is'

-- the number of the test that is due is that of the test that is needed
pub due_has : (tests : ℕ) (needed : Option ℕ) (due : Test) → due_at_first_use tests (option_and_then test_numbered needed) ≡ Some due → needed ≡ Some (number_of due)
due_has tests None due is = cc
due_has tests (Some number) due is = by_found (test_numbered number) refl is
  where
    by_has : (found : Test) (has : Bool) → (if has then None else Some found) ≡ Some due → found ≡ due
    by_has found true none = cc
    by_has found false same = cc

    by_found : (found : Option Test) → test_numbered number ≡ found → due_at_first_use tests found ≡ Some due → Some number ≡ Some (number_of due)
    by_found None at h = cc
    by_found (Some found) at h =
        let same : found ≡ due = by_has found (has_test tests found) h in
        let is' : test_numbered number ≡ Some due = at ∙ ap (λ f. Some f) same in
        ap (λ n. Some n) (found_has number all_tests due is')
