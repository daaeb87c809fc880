-- A module whose engine was tested, and the machine that it represents.
use Rattle.std.proofs.Common.{◌≡◌, ◌≢◌, ℕ, List, [], true, Option, Some, None, refl, sym, ap, subst, ◌∙◌, arith, Bool, false}
use Rattle.std.specs.Prelude.{nat_lt, not, IfSome, MatchOption}
use Rattle.drbg_core.specs.declared.generator.Drbg.{Drbg}
use Rattle.noise_health.specs.declared.health.Health.{Health}
use Rattle.noise_health.specs.Counts.{Counts}
use Rattle.service_table.specs.declared.failure.Failure.{Failure}
use Rattle.service_table.specs.declared.failure.Failure.TheVariants as failure
use Rattle.service_table.specs.declared.service.Service.TheVariants as service
use Rattle.service_table.specs.declared.state.State.TheVariants as state
use Rattle.service_table.specs.declared.status.Status.{Status}
use Rattle.service_table.specs.declared.status.Status.TheVariants as status
use Rattle.service_table.specs.Failures.{failure_code}
use Rattle.service_table.specs.Services.{is_permitted}
use Rattle.self_tests.specs.declared.numbers.Test.{Test}
use Rattle.self_tests.specs.Tests.{number_of}
use Rattle.ssp_slots.specs.declared.slot.Slot.{Slot}
use Rattle.ssp_slots.specs.Slots.{Contents, AreWellFormed}
use Rattle.outside.specs.declared.traits.Sample.{Sample}
use Rattle.module_frames.specs.declared.public_state.PublicState.{PublicState}
use Rattle.module_frames.specs.PublicState.{no_block}
use Rattle.module_frames.specs.PublicEffects.{use_counted, is_period_over, has_failed}
use Rattle.module_frames.specs.Requests.{CryptographicRequest}
use Rattle.module_frames.specs.Requests as request
use Rattle.engine_core.specs.Calls.{Calls, Keeps}
use Rattle.random_bits.specs.Draws.{Drawn}
use Rattle.crypto_services.specs.declared.outcome.Outcome.{Outcome}
use Rattle.crypto_services.specs.declared.parts.Parts.{Parts}
use Rattle.crypto_services.specs.Drawing.{ServesDrawn, after_draw_by}
use Rattle.crypto_services.specs.Indicator.{indicator}
use Rattle.state_model.specs.ModuleView.{ModuleView}
use Rattle.state_model.specs.MachineState.{MachineState, IsWellFormed, IsFailure}
use Rattle.state_model.specs.declared.self_testing.Judgement.{Judgement}
use Rattle.state_model.specs.Management.{Stepped, after_test, with_seeded, with_tested, test_step}
use Rattle.state_model.specs.SelfTesting.{Tested, tested, step_tested, stepped_with, is_seed_due, seeded_when, noise_judgement, IsSeeded}
use Rattle.state_model.specs.Cryptographic.{service_at, served, ready_tested, drawn_for, link_of, with_link, failed_by, use_of}
use Rattle.state_model.specs.Performs.{Performs}
use Rattle.state_model.specs.Represents.{machine_of, IsServiceResult}
use Rattle.state_model.proofs.Testing.{tested_by, step_tested_by, is_failure}
use Rattle.state_model.proofs.PublicRules.{failed_is_not_over}
use Rattle.state_model.proofs.TestSteps.{seeded_step, test_step_kept}
use Rattle.state_model.proofs.Draws.{drawn_answers}
use Rattle.state_model.proofs.Rules.{failed_use_is_kept, generator_in_use, healthy_in_use}
use Rattle.state_model.proofs.Serving.{settled_as, with_fields, drawn_represents}

-- a reason is one
abbrev where_none : Type 0 → Option Status → Type 0
where_none A None = A
where_none A (Some why) = Unit {0}

some_is_not_none : {A : Type 0} (why : Status) → Some why ≡ None → A
some_is_not_none {A} why is = subst (where_none A) is tt

-- what a step of TestStep leaves, by what failed of its noise
abbrev StepRepresents : {V : Type 0} → ModuleView V → List ℕ → Judgement → Drawn V → Health → Option Failure → Type 0
StepRepresents {V} m samples tests seed health failure =
    let judged : Judgement = noise_judgement tests failure in
    let s : MachineState V = machine_of m samples in
    let after = after_test s (with_seeded s.shared judged seed) judged.refused seed.left in
    let next : PublicState × Status = stepped_with judged.public judged.refused in
    let n : ModuleView V = record m { public = next.0; tests_passed = judged.tests_passed; engine = seed.engine; generator = seed.generator; health = health } in
    IsWellFormed after.machine → IsServiceResult after n next.1 no_block [] × (after.left ≡ seed.left)

-- the tests passed
passed_represents : {V : Type 0} (m : ModuleView V) (samples : List ℕ) (tests : ℕ) (seed : Drawn V) (health : Health) (failure : Option Failure) → (failure ≡ None → Counts health seed.samples)
    → StepRepresents m samples (record { public = m.public; tests_passed = tests; refused = None }) seed health failure
passed_represents m samples tests seed health None counts kept =
    (record { represents = record { same = refl; well_formed = kept; counts = λ _. counts refl }; same_status = refl; same_block = refl; same_payload = refl }, refl)
passed_represents m samples tests seed health (Some why) counts kept =
    (record { represents = record { same = refl; well_formed = kept; counts = λ other. absurd (other refl) }; same_status = refl; same_block = refl; same_payload = refl }, refl)

-- TestStep
pub stepped_represents : {V : Type 0} (calls : Calls V) (m : ModuleView V) (samples : List ℕ) (events left : List Sample) (engine : V) (generator : Drbg) (health : Health) (result : Judgement)
    → Keeps calls → IsWellFormed (machine_of m samples) → m.public.state ≡ state.SelfTest
    → (let t : Tested V = step_tested calls m.engine m.public m.tests_passed m.image m.digest in
    IsSeeded (seeded_when calls t.engine m.generator samples events (is_seed_due t.judgement.public t.judgement.refused)) t.judgement engine generator health result left →
    (let next : PublicState × Status = stepped_with result.public result.refused in
    let n : ModuleView V = record m { public = next.0; tests_passed = result.tests_passed; engine = engine; generator = generator; health = health } in
    let after : Stepped V = test_step calls (machine_of m samples) events in IsServiceResult after n next.1 no_block [] × (after.left ≡ left)))
stepped_represents {V} calls m samples events left engine generator health result keeps rules testing =
    let s : MachineState V = machine_of m samples in
    let Is : Tested V → Type 0 = λ t. IsWellFormed (seeded_step calls s events t).machine →
    IsSeeded (seeded_when calls t.engine m.generator samples events (is_seed_due t.judgement.public t.judgement.refused)) t.judgement engine generator health result left →
    (let next : PublicState × Status = stepped_with result.public result.refused in
    let n : ModuleView V = record m { public = next.0; tests_passed = result.tests_passed; engine = engine; generator = generator; health = health } in
    IsServiceResult (seeded_step calls s events t) n next.1 no_block [] × ((seeded_step calls s events t).left ≡ left)) in
    step_tested_by calls m.engine m.public m.tests_passed m.image m.digest Is
    (λ more engine' includes first last kept seeded.
    let seed : Drawn V = seeded_when calls engine' m.generator samples events (not (nat_lt m.public.tests_done 2)) in
    rw (seeded.same_engine, seeded.same_generator, seeded.same_judgement, ← seeded.events_left) (passed_represents m samples more seed health seed.failure seeded.counts kept))
    (λ why engine' is kept seeded. rw (seeded.same_engine, seeded.same_generator, seeded.same_judgement, ← seeded.events_left)
    (record { represents = record { same = refl; well_formed = kept; counts = λ other. absurd (other refl) }; same_status = refl; same_block = refl; same_payload = refl }, refl))
    (test_step_kept calls s events keeps rules testing)

-- no step's test is refused for its noise
pub tested_without_noise : {V : Type 0} (calls : Calls V) (engine : V) (public : PublicState) (tests : ℕ) (image digest : List ℕ)
    → (step_tested calls engine public tests image digest).judgement.refused ≢ Some status.NoiseFault
tested_without_noise {V} calls engine public tests image digest =
    let Other : Tested V → Type 0 = λ t. t.judgement.refused ≢ Some status.NoiseFault in
    step_tested_by calls engine public tests image digest Other (λ more engine' includes first last e. cc) (λ why engine' is e. cc)

-- a status that tells of the noise is that of the judgement
pub noise_status : (public : PublicState) (refused : Option Status) → (stepped_with public refused).1 ≡ status.NoiseFault → (refused ≡ Some status.NoiseFault) × ((stepped_with public refused).0 ≡ public)
noise_status public None told = cc
noise_status public (Some why) told = (cc, refl)

-- a service whose draw failed makes nothing from a key
unlinked : {V : Type 0} (calls : Calls V) (engine : V) (generator : Drbg) (samples : List ℕ) (events : List Sample) (what : CryptographicRequest)
    → (drawn_for calls engine generator samples events what).failure ≢ None → link_of what ≡ None
unlinked calls engine generator samples events (request.Hash alg text) failed = refl
unlinked calls engine generator samples events (request.Mac slot alg mac_length text) failed = refl
unlinked calls engine generator samples events (request.MacVerify slot alg tag text) failed = refl
unlinked calls engine generator samples events (request.Seal slot tag_length aad text) failed = refl
unlinked calls engine generator samples events (request.SealIv slot tag_length iv aad text) failed = refl
unlinked calls engine generator samples events (request.Open slot iv aad text tag) failed = refl
unlinked calls engine generator samples events (request.Wrap pad kek second) failed = refl
unlinked calls engine generator samples events (request.Unwrap pad kek target kind export uses wrapped) failed = absurd (failed refl)
unlinked calls engine generator samples events (request.Derive source target kind export uses long label context) failed = absurd (failed refl)
unlinked calls engine generator samples events (request.Random long additional) failed = refl
unlinked calls engine generator samples events (request.Generate target header long) failed = refl
unlinked calls engine generator samples events (request.Reseed additional) failed = refl

-- a cryptographic service that is refused since its test failed
pub refused_represents : {V : Type 0} (calls : Calls V) (m : ModuleView V) (samples : List ℕ) (events : List Sample) (what : CryptographicRequest) (due : Option Test) (reason : Status)
    → IsWellFormed (machine_of m samples) → is_permitted service.Hash m.public.state ≡ true
    → (let s : MachineState V = machine_of m samples in
    let t : Tested V = tested calls m.engine (use_counted m.public) m.tests_passed due in
    t.judgement.refused ≡ Some reason →
    (let n : ModuleView V = record m { public = t.judgement.public; engine = t.engine } in
    let after = served calls s (ready_tested calls (with_tested s.shared t) t.judgement.refused events what) what in IsServiceResult after n reason no_block [] × (after.left ≡ events)))
refused_represents {V} calls m samples events what due reason rules allowed =
    let s : MachineState V = machine_of m samples in
    let Is : Tested V → Type 0 = λ t. t.judgement.refused ≡ Some reason →
    (let n : ModuleView V = record m { public = t.judgement.public; engine = t.engine } in
    let after = served calls s (ready_tested calls (with_tested s.shared t) t.judgement.refused events what) what in IsServiceResult after n reason no_block [] × (after.left ≡ events)) in
    tested_by calls m.engine (use_counted m.public) m.tests_passed Is
    (λ more engine includes is. some_is_not_none reason (sym is))
    (λ test engine is. (
      record {
        represents = record {
          same = rw (failed_is_not_over (use_counted m.public) (failure.KnownAnswer (number_of test))) refl;
          well_formed = failed_use_is_kept s (failure.KnownAnswer (number_of test)) m.tests_passed engine m.generator samples (is_failure test) rules allowed;
          counts = λ other. absurd (other refl);
        };
        same_status = cc;
        same_block = refl;
        same_payload = refl;
      },
      refl,
    )) due

-- and one that is performed
pub performed_represents : {V : Type 0} (calls : Calls V) (m : ModuleView V) (samples : List ℕ) (events left : List Sample) (what : CryptographicRequest) (due : Option Test)
    (old new : Parts V) (outcome : Outcome) (payload : List ℕ) (ended : PublicState × ℕ)
    → Keeps calls → IsWellFormed (machine_of m samples) → is_permitted service.Hash m.public.state ≡ true
    → (let s : MachineState V = machine_of m samples in
    let t : Tested V = tested calls m.engine (use_counted m.public) m.tests_passed due in
    t.judgement.refused ≡ None → old.engine ≡ t.engine → old.drbg ≡ m.generator → old.vault ≡ record m.vault { rows = with_link m.vault.rows (link_of what) }
    → Performs calls what old new outcome payload samples events left → AreWellFormed new.vault
    → (let p : PublicState = failed_by outcome.failure t.judgement.public in ended ≡ settled_as p t.judgement.tests_passed (is_period_over p))
    → (let after = served calls s (ready_tested calls (with_tested s.shared t) t.judgement.refused events what) what in
    IsServiceResult after (with_fields m ended new.engine new.health new.drbg new.vault) outcome.status no_block payload × (after.left ≡ left)))
performed_represents {V} calls m samples events left what due old new outcome payload ended keeps rules allowed =
    let s : MachineState V = machine_of m samples in
    let Is : Tested V → Type 0 = λ t.
    t.judgement.refused ≡ None → old.engine ≡ t.engine → old.drbg ≡ m.generator → old.vault ≡ record m.vault { rows = with_link m.vault.rows (link_of what) }
    → Performs calls what old new outcome payload samples events left → AreWellFormed new.vault
    → (let p : PublicState = failed_by outcome.failure t.judgement.public in ended ≡ settled_as p t.judgement.tests_passed (is_period_over p))
    → (let after = served calls s (ready_tested calls (with_tested s.shared t) t.judgement.refused events what) what in
    IsServiceResult after (with_fields m ended new.engine new.health new.drbg new.vault) outcome.status no_block payload × (after.left ≡ left)) in
    let passed = generator_in_use s rules allowed in
    tested_by calls m.engine (use_counted m.public) m.tests_passed Is
    (λ more engine includes none same_engine same_generator linked performs are settled.
    let d : Drawn V = drawn_for calls engine m.generator samples events what in
    let answers = drawn_answers calls engine m.generator samples events what keeps (healthy_in_use s rules allowed) passed.seeded passed.requests in
    let same_slots : old.vault.slots ≡ m.vault.slots = ap (λ (v : Contents). v.slots) linked in
    let ServesBy : V → Drbg → List Slot → Type 0 = λ e generator slots. (let x : Drawn V = drawn_for calls e generator samples events what in
    ServesDrawn (use_of what) x (after_draw_by x x.failure slots (λ engine bytes slots. service_at calls engine bytes slots what)) old new outcome payload left) in
    let by_engine : ServesBy engine old.drbg old.vault.slots = subst (λ e. ServesBy e old.drbg old.vault.slots) same_engine performs in
    let by_generator : ServesBy engine m.generator old.vault.slots = subst (λ x. ServesBy engine x old.vault.slots) same_generator by_engine in
    let serves : ServesBy engine m.generator m.vault.slots = subst (λ slots. ServesBy engine m.generator slots) same_slots by_generator in
    drawn_represents calls m samples left what more engine d d.failure old new outcome payload ended refl rules allowed includes answers
    (unlinked calls engine m.generator samples events what) linked serves are settled)
    (λ test engine none same_engine same_generator linked performs are settled. some_is_not_none status.TestFailed none) due

-- what failed in a service is a failure
pub performed_failure : {V : Type 0} (calls : Calls V) (m : ModuleView V) (samples : List ℕ) (events left : List Sample) (what : CryptographicRequest) (old new : Parts V) (outcome : Outcome) (payload : List ℕ)
    → Keeps calls → IsWellFormed (machine_of m samples) → is_permitted service.Hash m.public.state ≡ true → old.drbg ≡ m.generator
    → Performs calls what old new outcome payload samples events left → IfSome outcome.failure IsFailure
performed_failure {V} calls m samples events left what old new outcome payload keeps rules allowed same performs =
    let s : MachineState V = machine_of m samples in
    let passed = generator_in_use s rules allowed in
    let answers = drawn_answers calls old.engine m.generator samples events what keeps (healthy_in_use s rules allowed) passed.seeded passed.requests in
    let Fails : Drbg → Type 0 = λ generator. IfSome (drawn_for calls old.engine generator samples events what).failure IsFailure in
    let fails : Fails old.drbg = subst Fails (sym same) answers.fails in
    let Told : Option Failure → Type 0 = λ failure. IfSome failure IsFailure in
    subst Told (sym (ap (λ (o : Outcome). o.failure) performs.same_outcome)) fails

-- a test that passed leaves the error code
pub passed_code : {V : Type 0} (calls : Calls V) (engine : V) (public : PublicState) (tests : ℕ) (due : Option Test)
    → (let t : Tested V = tested calls engine (use_counted public) tests due in t.judgement.refused ≡ None → t.judgement.public.error_code ≡ public.error_code)
passed_code {V} calls engine public tests due =
    let Same : Tested V → Type 0 = λ t. t.judgement.refused ≡ None → t.judgement.public.error_code ≡ public.error_code in
    tested_by calls engine (use_counted public) tests Same (λ more engine' includes none. refl) (λ test engine' none. some_is_not_none status.TestFailed none) due

-- only a failed noise has its code
noise_told : (fault : Failure) → IsFailure fault → failure_code fault ≡ failure_code failure.NoiseFailed → fault ≡ failure.NoiseFailed
noise_told (failure.KnownAnswer test) is code = absurd (let most = is.1 in omega (arith, most, code))
noise_told failure.Integrity is code = absurd (omega (arith, code))
noise_told failure.NoiseEnded is code = absurd (omega (arith, code))
noise_told failure.NoiseFailed is code = refl
noise_told failure.Repetition is code = absurd (omega (arith, code))
noise_told failure.Proportion is code = absurd (omega (arith, code))

settled_code : (public : PublicState) (tests : ℕ) (over : Bool) → (settled_as public tests over).0.error_code ≡ public.error_code
settled_code public tests true = refl
settled_code public tests false = refl

-- so a code of failed noise tells that the noise failed in the service
pub noise_counted : (public : PublicState) (tests : ℕ) (fault : Option Failure) (ended : PublicState × ℕ) (Same Rose : Type 0) → public.error_code ≡ 0 → IfSome fault IsFailure
    → MatchOption fault Same (λ f. f ≡ failure.NoiseFailed → Rose)
    → (let p : PublicState = failed_by fault public in ended ≡ settled_as p tests (is_period_over p)) → ended.0.error_code ≡ failure_code failure.NoiseFailed → Rose
noise_counted public tests None ended Same Rose none is counted settled code =
    let zero : ended.0.error_code ≡ public.error_code = ap (λ (e : PublicState × ℕ). e.0.error_code) settled ∙ settled_code public tests (is_period_over public) in
    absurd (omega (arith, zero, none, code))
noise_counted public tests (Some fault) ended Same Rose none is counted settled code =
    let told : ended.0.error_code ≡ failure_code fault = ap (λ (e : PublicState × ℕ). e.0.error_code) settled ∙ settled_code (has_failed fault public) tests (is_period_over (has_failed fault public)) in
    counted (noise_told fault is (sym told ∙ code))

-- the indicator of what was performed
pub performed_approved : {V : Type 0} (calls : Calls V) (samples : List ℕ) (events left : List Sample) (what : CryptographicRequest) (old new : Parts V) (outcome : Outcome) (payload : List ℕ)
    → Performs calls what old new outcome payload samples events left → outcome.approved ≡ indicator (use_of what) outcome.status new.vault.slots
performed_approved calls samples events left what old new outcome payload performs = rw (performs.same_outcome, performs.vault) refl
