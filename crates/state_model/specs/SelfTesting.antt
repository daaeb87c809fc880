-- The self-tests of the machine: known answers are asked of the engine when tests are due, and of each algorithm at its first use since
-- (ISO/IEC 19790:2012, 7.10.2 and 7.10.3.2; which tests, and when, is this project's own).
use Rattle.std.specs.Prelude.{◌≡◌, ℕ, ◌==◌, nat_lt, not, List, [], Bool, true, false, Option, Some, None, option_and_then, if◌then◌else◌}
use Rattle.service_table.specs.KnownAnswers.{test_of}
use Rattle.service_table.specs.declared.failure.Failure.{Failure}
use Rattle.service_table.specs.declared.failure.Failure.TheVariants as failure
use Rattle.service_table.specs.declared.status.Status.{Status}
use Rattle.service_table.specs.declared.status.Status.TheVariants as status
use Rattle.self_tests.specs.declared.numbers.Test.{Test}
use Rattle.self_tests.specs.declared.numbers.Test.TheVariants as test
use Rattle.self_tests.specs.Tests.{number_of, test_numbered}
use Rattle.self_tests.specs.TestSet.{has_test, with_test}
use Rattle.self_tests.specs.KnownAnswers.{answers_right, engine_after}
use Rattle.self_tests.specs.Integrity.{image_outcome}
use Rattle.drbg_core.specs.declared.generator.Drbg.{Drbg}
use Rattle.noise_health.specs.declared.health.Health.{Health}
use Rattle.noise_health.specs.Counts.{Counts}
use Rattle.outside.specs.declared.traits.Sample.{Sample}
use Rattle.random_bits.specs.Draws.{Drawn, instantiated}
use Rattle.module_frames.specs.declared.public_state.PublicState.{PublicState}
use Rattle.module_frames.specs.PublicEffects.{has_failed, test_done}
use Rattle.module_frames.specs.Requests.{CryptographicRequest, cryptographic_service_for}
pub use Rattle.module_frames.specs.LawfulSteps.{alg_named}
use Rattle.engine_core.specs.Calls.{Calls}
use Rattle.state_model.specs.declared.self_testing.Judgement.{Judgement}

-- a test whose answers were right joins those that passed; else the state is Error, and the command is refused
abbrev pub judgement : PublicState → ℕ → Test → Bool → Judgement
judgement public tests_passed test true = record { public = public; tests_passed = with_test tests_passed test; refused = None }
judgement public tests_passed test false =
    record { public = has_failed (failure.KnownAnswer (number_of test)) public; tests_passed = tests_passed; refused = Some status.TestFailed }

-- what a test leaves, where one is due
pub record Tested (V : Type 0) : Type 0 where
  pub judgement : Judgement
  pub engine : V

abbrev pub tested : {V : Type 0} → Calls V → V → PublicState → ℕ → Option Test → Tested V
tested calls engine public tests_passed None = record { judgement = record { public = public; tests_passed = tests_passed; refused = None }; engine = engine }
tested calls engine public tests_passed (Some test) =
    record { judgement = judgement public tests_passed test (answers_right calls engine test); engine = engine_after calls engine test }

-- an image that has its digest changes nothing; else the state is Error, and the command is refused
abbrev pub image_judgement : PublicState → ℕ → Bool → Judgement
image_judgement public tests_passed true = record { public = public; tests_passed = tests_passed; refused = None }
image_judgement public tests_passed false = record { public = has_failed failure.Integrity public; tests_passed = tests_passed; refused = Some status.TestFailed }

-- what the test of an image leaves
abbrev pub image_tested : {V : Type 0} → Calls V → V → PublicState → ℕ → (image digest : List ℕ) → Tested V
image_tested calls engine public tests_passed image digest =
    let outcome = image_outcome calls engine image digest in record { judgement = image_judgement public tests_passed outcome.right; engine = outcome.engine }

-- the test of each of the three steps of TestStep: HMAC-SHA-256, then the image with it, then the generator
abbrev pub step_tested : {V : Type 0} → Calls V → V → PublicState → ℕ → (image digest : List ℕ) → Tested V
step_tested calls engine public tests_passed image digest =
    if public.tests_done == 0 then tested calls engine public tests_passed (Some test.HmacSha256)
    else if public.tests_done == 1 then image_tested calls engine public tests_passed image digest
    else tested calls engine public tests_passed (Some test.Generator)

-- a seed is due after the last of the three tests, where that passed
abbrev pub is_seed_due : PublicState → Option Status → Bool
is_seed_due public None = not (nat_lt public.tests_done 2)
is_seed_due public (Some reason) = false

-- The generator is seeded anew where that is due (SP 800-90A Rev. 1, 9.1), with noise that is tested with all samples before it.
abbrev pub seeded_when : {V : Type 0} → Calls V → V → Drbg → List ℕ → List Sample → Bool → Drawn V
seeded_when calls engine generator samples events true = instantiated calls engine generator samples events
seeded_when calls engine generator samples events false =
    record { engine = engine; generator = generator; samples = samples; left = events; bytes = []; failure = None }

-- where the noise failed the state is Error, and the command is refused
abbrev pub noise_judgement : Judgement → Option Failure → Judgement
noise_judgement judged None = judged
noise_judgement judged (Some reason) = record judged { public = has_failed reason judged.public; refused = Some status.NoiseFault }

-- a step's seed, where it is due, as engine, generator and counters have it, and the judgement after it
pub record IsSeeded {V : Type 0} (seed : Drawn V) (judged : Judgement) (engine : V) (generator : Drbg) (health : Health) (result : Judgement) (left : List Sample) : Type 0 where
  pub same_engine : engine ≡ seed.engine
  pub same_generator : generator ≡ seed.generator
  pub same_judgement : result ≡ noise_judgement judged seed.failure
  pub counts : seed.failure ≡ None → Counts health seed.samples
  pub events_left : seed.left ≡ left

-- the test of what a request uses
abbrev pub test_for : CryptographicRequest → Option Test
test_for what = option_and_then test_numbered (test_of (cryptographic_service_for what) (alg_named what))

-- it is due at the first use: where it isn't among those that passed
abbrev pub due_at_first_use : ℕ → Option Test → Option Test
due_at_first_use tests_passed None = None
due_at_first_use tests_passed (Some test) = if has_test tests_passed test then None else Some test

-- after a test of TestStep: the public state, and the status
abbrev pub stepped_with : PublicState → Option Status → PublicState × Status
stepped_with public None = (test_done public, status.Ok)
stepped_with public (Some reason) = (public, reason)
