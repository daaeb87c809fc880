-- What is there when the slots are looked at, by what came before.
use Rattle.std.proofs.Common.{◌≡◌, ◌≤◌, ℕ, List, [], Bool, true, false, Option, Some, None, refl}
use Rattle.drbg_core.specs.declared.generator.Drbg.{Drbg}
use Rattle.service_table.specs.declared.failure.Failure.{Failure}
use Rattle.service_table.specs.declared.failure.Failure.TheVariants as failure
use Rattle.service_table.specs.declared.status.Status.TheVariants as status
use Rattle.self_tests.specs.declared.numbers.Test.{Test}
use Rattle.self_tests.specs.Tests.{number_of}
use Rattle.self_tests.specs.TestSet.{with_test}
use Rattle.self_tests.specs.KnownAnswers.{answers_right, engine_after}
use Rattle.outside.specs.declared.traits.Sample.{Sample}
use Rattle.module_frames.specs.PublicEffects.{use_counted, has_failed}
use Rattle.module_frames.specs.Requests.{CryptographicRequest}
use Rattle.engine_core.specs.Calls.{Calls, Keeps}
use Rattle.random_bits.specs.Draws.{Drawn}
use Rattle.state_model.specs.MachineState.{Shared, AreHealthy, IsFailure}
use Rattle.state_model.specs.Management.{with_tested}
use Rattle.state_model.specs.SelfTesting.{Tested, tested, judgement, test_for, due_at_first_use}
use Rattle.state_model.specs.Cryptographic.{Ready, before_slots, drawn_for, link_of, with_link, with_drawn, ready_drawn, ready_tested}
use Rattle.state_model.proofs.Testing.{Includes, tested_by}
use Rattle.state_model.proofs.Draws.{Answers, IsDrawnFor, drawn_answers, drawn_bytes}

-- ready for the slots: nothing failed
abbrev pub is_ready : {V : Type 0} → Shared V → (more : ℕ) → V → Drbg → (samples bytes : List ℕ) → List Sample → CryptographicRequest → Ready V
is_ready shared more engine generator samples bytes left what = record {
  shared = record shared {
    public = use_counted shared.public;
    tests_passed = more;
    engine = engine;
    generator = generator;
    samples = samples;
    ancestry = with_link shared.ancestry (link_of what);
  };
  left = left;
  drawn = bytes;
  refused = None;
}

-- the known-answer test failed
abbrev pub is_untested : {V : Type 0} → Shared V → Test → V → List Sample → Ready V
is_untested shared test engine events = record {
  shared = record shared { public = has_failed (failure.KnownAnswer (number_of test)) (use_counted shared.public); engine = engine };
  left = events;
  drawn = [];
  refused = Some status.TestFailed;
}

-- the noise failed
abbrev pub is_without_noise : {V : Type 0} → Shared V → Failure → (more : ℕ) → V → Drbg → List ℕ → List Sample → Ready V
is_without_noise shared fault more engine generator samples left = record {
  shared = record shared {
    public = has_failed fault (use_counted shared.public);
    tests_passed = more;
    engine = engine;
    generator = generator;
    samples = samples;
  };
  left = left;
  drawn = [];
  refused = Some status.NoiseFault;
}

-- what holds in each of the three cases holds before the slots
pub ready_by : {V : Type 0} (calls : Calls V) (shared : Shared V) (events : List Sample) (what : CryptographicRequest) (P : Ready V → Type 0) → Keeps calls → AreHealthy shared.samples
    → 1 ≤ shared.generator.counter → shared.generator.counter ≤ 1025
    → ((more : ℕ) (engine : V) (generator : Drbg) (samples bytes : List ℕ) (left : List Sample) → Includes more shared.tests_passed → AreHealthy samples → 1 ≤ generator.counter → generator.counter ≤ 1025
    → IsDrawnFor what bytes → P (is_ready shared more engine generator samples bytes left what))
    → ((test : Test) (engine : V) → P (is_untested shared test engine events))
    → ((fault : Failure) (more : ℕ) (engine : V) (generator : Drbg) (samples : List ℕ) (left : List Sample) → IsFailure fault → P (is_without_noise shared fault more engine generator samples left))
    → P (before_slots calls shared events what)
ready_by {V} calls shared events what P keeps healthy seeded most ready untested without_noise =
    let Holds : Tested V → Type 0 = λ t. P (ready_tested calls (with_tested shared t) t.judgement.refused events what) in
    tested_by calls shared.engine (use_counted shared.public) shared.tests_passed Holds
    (λ more engine includes.
    let d = drawn_for calls engine shared.generator shared.samples events what in
    by_failure more engine includes d d.failure refl (drawn_answers calls engine shared.generator shared.samples events what keeps healthy seeded most)
    (drawn_bytes calls engine shared.generator shared.samples events what keeps))
    (λ test engine. untested test engine) (due_at_first_use shared.tests_passed (test_for what))
  where
    by_failure : (more : ℕ) (engine : V) → Includes more shared.tests_passed → (d : Drawn V) (fault : Option Failure) → d.failure ≡ fault → Answers 1025 d → (d.failure ≡ None → IsDrawnFor what d.bytes)
        → (let counted : Shared V = record shared { public = use_counted shared.public; tests_passed = more; engine = engine } in P (ready_drawn (with_drawn counted d) d fault what))
    by_failure more engine includes d None is answers fresh = ready more d.engine d.generator d.samples d.bytes d.left includes (answers.healthy is) (answers.least is) (answers.requests is) (fresh is)
    by_failure more engine includes d (Some fault) is answers fresh = without_noise fault more d.engine d.generator d.samples d.left (rw is at answers.fails)

-- so it does of an engine of which nothing is known, where it is told which test was due, and that the draw failed
pub ready_known : {V : Type 0} (calls : Calls V) (shared : Shared V) (events : List Sample) (what : CryptographicRequest) (P : Ready V → Type 0)
    → ((more : ℕ) (engine : V) (generator : Drbg) (samples bytes : List ℕ) (left : List Sample) → P (is_ready shared more engine generator samples bytes left what))
    → ((test : Test) (engine : V) → due_at_first_use shared.tests_passed (test_for what) ≡ Some test → P (is_untested shared test engine events))
    → ((fault : Failure) (more : ℕ) (engine : V) (generator : Drbg) (samples : List ℕ) (left : List Sample) (before : V)
    → (drawn_for calls before shared.generator shared.samples events what).failure ≡ Some fault → P (is_without_noise shared fault more engine generator samples left))
    → P (before_slots calls shared events what)
ready_known {V} calls shared events what P ready untested without_noise = by_due (due_at_first_use shared.tests_passed (test_for what)) refl
  where
    draw : V → Drawn V
    draw engine = drawn_for calls engine shared.generator shared.samples events what

    by_failure : (more : ℕ) (engine : V) (fault : Option Failure) → (draw engine).failure ≡ fault
        → (let counted : Shared V = record shared { public = use_counted shared.public; tests_passed = more; engine = engine } in P (ready_drawn (with_drawn counted (draw engine)) (draw engine) fault what))
    by_failure more engine None is = let d = draw engine in ready more d.engine d.generator d.samples d.bytes d.left
    by_failure more engine (Some fault) is = let d = draw engine in without_noise fault more d.engine d.generator d.samples d.left engine is

    by_right : (test : Test) → due_at_first_use shared.tests_passed (test_for what) ≡ Some test → (engine : V) (right : Bool)
        → (let t : Tested V = record { judgement = judgement (use_counted shared.public) shared.tests_passed test right; engine = engine } in P (ready_tested calls (with_tested shared t) t.judgement.refused events what))
    by_right test due engine true = by_failure (with_test shared.tests_passed test) engine (draw engine).failure refl
    by_right test due engine false = untested test engine due

    by_due : (due : Option Test) → due_at_first_use shared.tests_passed (test_for what) ≡ due
        → (let t : Tested V = tested calls shared.engine (use_counted shared.public) shared.tests_passed due in P (ready_tested calls (with_tested shared t) t.judgement.refused events what))
    by_due None is = by_failure shared.tests_passed shared.engine (draw shared.engine).failure refl
    by_due (Some test) is = by_right test is (engine_after calls shared.engine test) (answers_right calls shared.engine test)

-- and where that isn't told
pub ready_cases : {V : Type 0} (calls : Calls V) (shared : Shared V) (events : List Sample) (what : CryptographicRequest) (P : Ready V → Type 0)
    → ((more : ℕ) (engine : V) (generator : Drbg) (samples bytes : List ℕ) (left : List Sample) → P (is_ready shared more engine generator samples bytes left what))
    → ((test : Test) (engine : V) → P (is_untested shared test engine events))
    → ((fault : Failure) (more : ℕ) (engine : V) (generator : Drbg) (samples : List ℕ) (left : List Sample) → P (is_without_noise shared fault more engine generator samples left))
    → P (before_slots calls shared events what)
ready_cases calls shared events what P ready untested without_noise =
    ready_known calls shared events what P ready (λ test engine due. untested test engine)
    (λ fault more engine generator samples left before failed. without_noise fault more engine generator samples left)
