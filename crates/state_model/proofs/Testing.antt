-- What tests leave, by whether they passed.
use Rattle.std.proofs.Common.{◌≡◌, ◌≤◌, ◌||◌, ℕ, List, Bool, true, false, Option, Some, None, refl, ap, ◌∙◌, arith, if◌then◌else◌}
use Rattle.std.specs.Prelude.{◌==◌}
use Rattle.std.proofs.lemmas.Bool.Decides.{nat_tests}
use Rattle.service_table.specs.declared.failure.Failure.{Failure}
use Rattle.service_table.specs.declared.failure.Failure.TheVariants as failure
use Rattle.service_table.specs.declared.state.State.{State}
use Rattle.service_table.specs.declared.state.State.TheVariants as state
use Rattle.service_table.specs.declared.status.Status.TheVariants as status
use Rattle.self_tests.specs.declared.numbers.Test.{Test}
use Rattle.self_tests.specs.declared.numbers.Test.TheVariants as test
use Rattle.self_tests.specs.Tests.{number_of}
use Rattle.self_tests.specs.TestSet.{has_test, with_test}
use Rattle.self_tests.specs.KnownAnswers.{answers_right, engine_after}
use Rattle.self_tests.specs.Integrity.{image_outcome}
use Rattle.self_tests.proofs.Sets.{test_in_union}
use Rattle.drbg_core.specs.declared.generator.Drbg.{Drbg}
use Rattle.module_frames.specs.declared.public_state.PublicState.{PublicState}
use Rattle.module_frames.specs.PublicEffects.{has_failed}
use Rattle.engine_core.specs.Calls.{Calls}
use Rattle.state_model.specs.SelfTesting.{Tested, tested, judgement, image_judgement, image_tested, step_tested}
use Rattle.state_model.specs.MachineState.{HavePassed, ArePassed, IsReturn, IsFailure}

-- every test of one set is in the other
abbrev pub Includes : ℕ → ℕ → Type 0
Includes more tests = (t : Test) → has_test tests t ≡ true → has_test more t ≡ true

pub includes_itself : (tests : ℕ) → Includes tests tests
includes_itself tests = λ t has. has

or_true : (b : Bool) → (b || true) ≡ true
or_true true = refl
or_true false = refl

pub with_test_includes : (tests : ℕ) (new : Test) → Includes (with_test tests new) tests
with_test_includes tests new = λ t has. test_in_union tests new t ∙ ap (λ b. b || number_of t == number_of new) has

pub has_generator : (tests : ℕ) → has_test (with_test tests test.Generator) test.Generator ≡ true
has_generator tests = test_in_union tests test.Generator test.Generator ∙ or_true (has_test tests test.Generator)

pub has_mac : (tests : ℕ) → has_test (with_test tests test.HmacSha256) test.HmacSha256 ≡ true
has_mac tests = test_in_union tests test.HmacSha256 test.HmacSha256 ∙ or_true (has_test tests test.HmacSha256)

-- a failed known-answer test is a failure
pub is_failure : (t : Test) → IsFailure (failure.KnownAnswer (number_of t))
is_failure test.Sha256 = (omega arith, omega arith)
is_failure test.Sha384 = (omega arith, omega arith)
is_failure test.Sha512 = (omega arith, omega arith)
is_failure test.HmacSha256 = (omega arith, omega arith)
is_failure test.HmacSha384 = (omega arith, omega arith)
is_failure test.HmacSha512 = (omega arith, omega arith)
is_failure test.Seal = (omega arith, omega arith)
is_failure test.Open = (omega arith, omega arith)
is_failure test.Wrap = (omega arith, omega arith)
is_failure test.Unwrap = (omega arith, omega arith)
is_failure test.WrapPad = (omega arith, omega arith)
is_failure test.UnwrapPad = (omega arith, omega arith)
is_failure test.Derive = (omega arith, omega arith)
is_failure test.Generator = (omega arith, omega arith)

-- what holds of a test that passed, or of none, and of a failed one holds of what is tested
pub tested_by : {V : Type 0} (calls : Calls V) (engine : V) (public : PublicState) (tests : ℕ) (P : Tested V → Type 0)
    → ((more : ℕ) (engine' : V) → Includes more tests → P (record { judgement = record { public = public; tests_passed = more; refused = None }; engine = engine' }))
    → ((t : Test) (engine' : V) → P (record { judgement = record { public = has_failed (failure.KnownAnswer (number_of t)) public; tests_passed = tests; refused = Some status.TestFailed }; engine = engine' }))
    → (due : Option Test) → P (tested calls engine public tests due)
tested_by calls engine public tests P passes fails None = passes tests engine (includes_itself tests)
tested_by calls engine public tests P passes fails (Some t) = by_right (answers_right calls engine t)
  where
    by_right : (right : Bool) → P (record { judgement = judgement public tests t right; engine = engine_after calls engine t })
    by_right true = passes (with_test tests t) (engine_after calls engine t) (with_test_includes tests t)
    by_right false = fails t (engine_after calls engine t)

-- what holds of a step's test that passed, and of one that failed, holds of what a step of TestStep tests
pub step_tested_by : {V : Type 0} (calls : Calls V) (engine : V) (public : PublicState) (tests : ℕ) (image digest : List ℕ) (P : Tested V → Type 0)
    → ((more : ℕ) (engine' : V) → Includes more tests → (public.tests_done ≡ 0 → has_test more test.HmacSha256 ≡ true) → (2 ≤ public.tests_done → has_test more test.Generator ≡ true)
    → P (record { judgement = record { public = public; tests_passed = more; refused = None }; engine = engine' }))
    → ((why : Failure) (engine' : V) → IsFailure why → P (record { judgement = record { public = has_failed why public; tests_passed = tests; refused = Some status.TestFailed }; engine = engine' }))
    → P (step_tested calls engine public tests image digest)
step_tested_by {V} calls engine public tests image digest P passes fails = by_count (n == 0) refl (n == 1) refl
  where
    n : ℕ
    n = public.tests_done

    known : (t : Test) → (n ≡ 0 → has_test (with_test tests t) test.HmacSha256 ≡ true) → (2 ≤ n → has_test (with_test tests t) test.Generator ≡ true) → (right : Bool)
        → P (record { judgement = judgement public tests t right; engine = engine_after calls engine t })
    known t first last true = passes (with_test tests t) (engine_after calls engine t) (with_test_includes tests t) first last
    known t first last false = fails (failure.KnownAnswer (number_of t)) (engine_after calls engine t) (is_failure t)

    image_by : (n == 1) ≡ true → (right : Bool) → P (record { judgement = image_judgement public tests right; engine = (image_outcome calls engine image digest).engine })
    image_by is true = passes tests (image_outcome calls engine image digest).engine (includes_itself tests) (λ none. absurd (grind (arith, nat_tests, is, none))) (λ two. absurd (grind (arith, nat_tests, is, two)))
    image_by is false = fails failure.Integrity (image_outcome calls engine image digest).engine tt

    by_count : (zero' : Bool) → (n == 0) ≡ zero' → (one : Bool) → (n == 1) ≡ one
        → P (if zero' then tested calls engine public tests (Some test.HmacSha256) else if one then image_tested calls engine public tests image digest else tested calls engine public tests (Some test.Generator))
    by_count true is one k =
        known test.HmacSha256 (λ _. has_mac tests) (λ two. absurd (grind (arith, nat_tests, is, two))) (answers_right calls engine test.HmacSha256)
    by_count false is true k = image_by k (image_outcome calls engine image digest).right
    by_count false is false k =
        known test.Generator (λ none. absurd (grind (arith, nat_tests, is, none))) (λ _. has_generator tests) (answers_right calls engine test.Generator)

pub passed_more : (more tests : ℕ) (generator : Drbg) → Includes more tests → HavePassed tests generator → HavePassed more generator
passed_more more tests generator includes passed = record {
  mac_passed = includes test.HmacSha256 passed.mac_passed;
  generator_passed = includes test.Generator passed.generator_passed;
  seeded = passed.seeded;
  requests = passed.requests;
}

-- in a state of use both have passed, and where they have it may be one
pub passed_in_use : (found : State) (tests_done tests : ℕ) (generator : Drbg) → IsReturn found → ArePassed found tests_done tests generator → HavePassed tests generator
passed_in_use state.Approved tests_done tests generator use' passed = passed
passed_in_use state.Officer tests_done tests generator use' passed = passed
passed_in_use state.User tests_done tests generator use' passed = passed
passed_in_use state.Off tests_done tests generator use' passed = absurd use'
passed_in_use state.Init tests_done tests generator use' passed = absurd use'
passed_in_use state.SelfTest tests_done tests generator use' passed = absurd use'
passed_in_use state.Entry tests_done tests generator use' passed = absurd use'
passed_in_use state.Error tests_done tests generator use' passed = absurd use'

pub use_of_passed : (found : State) (tests_done tests : ℕ) (generator : Drbg) → IsReturn found → HavePassed tests generator → ArePassed found tests_done tests generator
use_of_passed state.Approved tests_done tests generator use' passed = passed
use_of_passed state.Officer tests_done tests generator use' passed = passed
use_of_passed state.User tests_done tests generator use' passed = passed
use_of_passed state.Off tests_done tests generator use' passed = absurd use'
use_of_passed state.Init tests_done tests generator use' passed = absurd use'
use_of_passed state.SelfTest tests_done tests generator use' passed = absurd use'
use_of_passed state.Entry tests_done tests generator use' passed = absurd use'
use_of_passed state.Error tests_done tests generator use' passed = absurd use'

-- before any of three tests was done nothing has to have passed
pub none_done : (tests : ℕ) (generator : Drbg) → ArePassed state.SelfTest 0 tests generator
none_done tests generator = λ some. absurd (omega (arith, some))
