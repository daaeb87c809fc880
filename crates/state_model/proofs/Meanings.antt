-- What the cryptographic services give where the engine is standard.
use Rattle.std.proofs.Common.{◌≡◌, ◌≢◌, ◌++◌, ℕ, List, Bool, true, false, Option, Some, None, length, take, refl, sym, ap, subst, ◌∙◌, arith, if◌then◌else◌}
use Rattle.std.specs.Prelude.{IfSome}
use Rattle.bits_core.specs.Algorithms.{alg_size}
use Rattle.bits_core.specs.declared.parameter.Domain.{Domain}
use Rattle.bits_core.specs.declared.parameter.Kind.TheVariants as kinds
use Rattle.drbg_core.specs.declared.generator.Drbg.{Drbg}
use Rattle.hmac_core.proofs.Lengths.{take-padded_digest}
use Rattle.service_table.specs.declared.failure.Failure.{Failure}
use Rattle.service_table.specs.declared.service.Service.{Service}
use Rattle.service_table.specs.declared.service.Service.TheVariants as service
use Rattle.service_table.specs.declared.status.Status.{Status}
use Rattle.service_table.specs.declared.status.Status.TheVariants as status
use Rattle.service_table.specs.Numbers.{service_numbered}
use Rattle.service_table.specs.Services.{is_permitted, is_approved, wrapping_service, unwrapping_service}
use Rattle.ssp_slots.specs.declared.slot.Slot.{Slot}
use Rattle.ssp_slots.specs.declared.slot_fault.SlotFault.{SlotFault}
use Rattle.ssp_slots.specs.Refusals.{source_fault, vacancy_fault}
use Rattle.ssp_slots.specs.Slots.{parameter, spent_slot, AreWellFormed}
use Rattle.outside.specs.declared.traits.Sample.{Sample}
use Rattle.module_frames.specs.CommandFrames.{CommandFrame}
use Rattle.module_frames.specs.PublicEffects.{sequence_taken, use_counted, is_period_over, sent_to_tests}
use Rattle.module_frames.specs.Requests.{RequestValue, CryptographicRequest, IsCryptographicInRange, request_of}
use Rattle.module_frames.specs.Requests as request
use Rattle.engine_core.specs.Calls.{Calls, IsStandard}
use Rattle.engine_core.specs.Standards.{wrapping, unwrapping}
use Rattle.random_bits.specs.Draws.{Drawn}
use Rattle.crypto_services.specs.AtSlots.{Answer, SlotResult, slot_at, with_slot_at, domain_at, fault_status, source_by, on_source, on_slot, second_under, success}
use Rattle.crypto_services.specs.Services.{is_leftmost, verified}
use Rattle.crypto_services.specs.Sealing.{with_tag, opened}
use Rattle.crypto_services.specs.Wrapping.{header_under, wrap_at, unwrap_at}
use Rattle.crypto_services.specs.Derivation.{derive_at}
use Rattle.state_model.specs.ModuleView.{ModuleView}
use Rattle.state_model.specs.MachineState.{MachineState, Shared, vault_of, state_of}
use Rattle.state_model.specs.Management.{Stepped, refused, with_public, with_tested}
use Rattle.state_model.specs.SelfTesting.{Tested, test_for, due_at_first_use}
use Rattle.state_model.specs.Cryptographic.{drawn_for, service_at, after_slots, with_drawn, ready_drawn, ready_tested, served, cryptographic_step}
use Rattle.state_model.specs.Represents.{Represents, IsServiceResult}
use Rattle.state_model.specs.Step.{step, dispatch, dispatch_request, request_at}
use Rattle.state_model.specs.Meaning.{Held, held_in, held_by, MeansTheStandard, AnswersByTheStandards, ServicesMeanTheStandards, answer_of, mac_under}
use Rattle.state_model.proofs.RequestReading.{IsRead, request_read}
use Rattle.state_model.proofs.Sequences.{by_order}
use Rattle.state_model.proofs.Testing.{tested_by}
use Rattle.state_model.proofs.Silence.{nothing_told, silent_fault}
use Rattle.state_model.proofs.DrawingMeanings.{HasDrawn, has_drawn}
use Rattle.state_model.proofs.SealingMeanings.{standard_mac, by_source, decided, verified_means, opened_means}
use Rattle.state_model.proofs.FillingMeanings.{by_two, second_found, laid_there, laid_many, IsFilledBy, wrap_means, unwrap_means, vacant_filled}

-- a service under one key means what it does with the key
means_under : {V : Type 0} (what : CryptographicRequest) (before after : Held) (engine : V) (slot : Slot) (fault : Option SlotFault) (after_key : List ℕ → V) (answer : List ℕ → Answer)
    → MeansTheStandard what before after (answer (parameter slot)) → MeansTheStandard what before after (on_source engine (source_by slot fault) after_key answer).answer
means_under what before after engine slot fault after_key answer means =
    by_source (MeansTheStandard what before after) engine slot fault after_key answer (λ reason. nothing_told what before after (fault_status reason) (silent_fault reason)) means

-- a service on two slots means what it does at the second
means_at_second : {V : Type 0} (what : CryptographicRequest) (before : Held) (generator : Drbg) (engine : V) (slots : List Slot) (first second : ℕ) (fault : Option SlotFault)
    (service : List ℕ → Domain → Slot → SlotResult V)
    → (let slot = slot_at slots first in let result = on_slot (with_slot_at slots first (spent_slot slot)) second (service (parameter slot) (domain_at slot.header)) in
    MeansTheStandard what before (record { slots = result.slots; generator = generator }) result.answer)
    → (let source = source_by (slot_at slots first) fault in let result = second_under engine (with_slot_at slots first source.slot) second source source.refused service in
    MeansTheStandard what before (record { slots = result.slots; generator = generator }) result.answer)
means_at_second {V} what before generator engine slots first second fault service means =
    by_two (λ result. MeansTheStandard what before (record { slots = result.slots; generator = generator }) result.answer) engine slots first second fault service
    (λ slots' reason. nothing_told what before (record { slots = slots'; generator = generator }) (fault_status reason) (silent_fault reason)) means

service_means : {V : Type 0} (calls : Calls V) → IsStandard calls → (s : MachineState V) → AreWellFormed (vault_of s) → (d : Drawn V) (what : CryptographicRequest) → IsCryptographicInRange what
    → HasDrawn what s.shared.generator d
    → (let result = service_at calls d.engine d.bytes s.slots what in MeansTheStandard what (held_by s) (record { slots = result.slots; generator = d.generator }) result.answer)
service_means calls standard s are d (request.Hash alg text) range has = λ ok. ap (take (alg_size alg)) (standard.hash d.engine alg text) ∙ take-padded_digest alg text
service_means calls standard s are d (request.Mac slot alg mac_length text) range has =
    means_under (request.Mac slot alg mac_length text) (held_by s) (held_by s) d.engine (slot_at s.slots slot)
    (source_fault (slot_at s.slots slot).header kinds.Mac (is_approved service.Mac mac_length))
    (λ key. calls.mac_after d.engine alg key text) (λ key. success (take mac_length (calls.mac d.engine alg key text)))
    (λ ok. standard_mac calls standard d.engine alg mac_length (parameter (slot_at s.slots slot)) text range.2)
service_means calls standard s are d (request.MacVerify slot alg tag text) range has =
    let key : List ℕ = parameter (slot_at s.slots slot) in
    means_under (request.MacVerify slot alg tag text) (held_by s) (held_by s) d.engine (slot_at s.slots slot)
    (source_fault (slot_at s.slots slot).header kinds.Mac (is_approved service.MacVerify (length tag)))
    (λ key. calls.mac_after d.engine alg key text) (λ key. verified tag (calls.mac d.engine alg key text))
    (verified_means tag (mac_under s.slots slot alg (length tag) text) (is_leftmost tag (calls.mac d.engine alg key text)) (decided calls standard d.engine alg tag key text range.2))
service_means calls standard s are d (request.Seal slot tag_length aad text) range has =
    means_under (request.Seal slot tag_length aad text) (held_by s) (record { slots = s.slots; generator = d.generator }) d.engine (slot_at s.slots slot)
    (source_fault (slot_at s.slots slot).header kinds.Aes (is_approved service.Seal 0))
    (λ key. calls.seal_after d.engine key d.bytes aad text) (λ key. success (d.bytes ++ with_tag tag_length (calls.seal d.engine key d.bytes aad text)))
    (λ ok. (d.bytes, has, ap (λ sealed. d.bytes ++ with_tag tag_length sealed) (standard.seal d.engine (parameter (slot_at s.slots slot)) d.bytes aad text)))
service_means calls standard s are d (request.SealIv slot tag_length iv aad text) range has =
    means_under (request.SealIv slot tag_length iv aad text) (held_by s) (held_by s) d.engine (slot_at s.slots slot)
    (source_fault (slot_at s.slots slot).header kinds.Aes (is_approved service.SealIv 0))
    (λ key. calls.seal_after d.engine key iv aad text) (λ key. success (with_tag tag_length (calls.seal d.engine key iv aad text)))
    (λ ok. ap (with_tag tag_length) (standard.seal d.engine (parameter (slot_at s.slots slot)) iv aad text))
service_means calls standard s are d (request.Open slot iv aad text tag) range has =
    let key : List ℕ = parameter (slot_at s.slots slot) in
    means_under (request.Open slot iv aad text tag) (held_by s) (held_by s) d.engine (slot_at s.slots slot)
    (source_fault (slot_at s.slots slot).header kinds.Aes (is_approved service.Open 0))
    (λ key. calls.open_after d.engine key iv aad text tag) (λ key. opened (calls.open d.engine key iv aad text tag))
    (rw (standard.open d.engine key iv aad text tag) (opened_means key iv aad text tag))
service_means {V} calls standard s are d (request.Wrap pad kek second) range has =
    let first : Slot = slot_at s.slots kek in
    let Means : Slot → Type 0 = λ found. (let answer : Answer = (wrap_at calls d.engine pad (parameter first) (domain_at first.header) found).answer in
    answer.status ≡ status.Ok → answer.payload ≡ wrapping pad (parameter first) (parameter (slot_at s.slots second))) in
    means_at_second (request.Wrap pad kek second) (held_by s) d.generator d.engine s.slots kek second (source_fault first.header kinds.Kek (is_approved (wrapping_service pad) 0)) (wrap_at calls d.engine pad)
    (subst Means (sym (second_found s.slots kek second (spent_slot first) range.2))
    (wrap_means calls standard d.engine pad (parameter first) (domain_at first.header) (slot_at s.slots second) (are.each second range.1)))
service_means {V} calls standard s are d (request.Unwrap pad kek target kind export uses wrapped) range has =
    let first : Slot = slot_at s.slots kek in
    let slots : List Slot = with_slot_at s.slots kek (spent_slot first) in
    let result : SlotResult V = unwrap_at calls d.engine pad kind export uses wrapped (parameter first) (domain_at first.header) (slot_at slots target) in
    let within = laid_many s.slots kek (spent_slot first) target (omega (arith, are.sixteen, range.1)) in
    let Means : Slot → Type 0 = λ laid. IsFilledBy (unwrapping pad (parameter first) wrapped) (header_under kind export uses (domain_at first.header)) laid result.answer in
    means_at_second (request.Unwrap pad kek target kind export uses wrapped) (held_by s) d.generator d.engine s.slots kek target
    (source_fault first.header kinds.Kek (is_approved (unwrapping_service pad) 0)) (unwrap_at calls d.engine pad kind export uses wrapped)
    (subst Means (sym (laid_there slots target result.slot within))
    (unwrap_means calls standard d.engine pad kind export uses wrapped (parameter first) (domain_at first.header) (slot_at slots target)))
service_means {V} calls standard s are d (request.Derive source target kind export uses long label context) range has =
    let first : Slot = slot_at s.slots source in
    let slots : List Slot = with_slot_at s.slots source (spent_slot first) in
    let header = header_under kind export uses (domain_at first.header) in
    let made : List ℕ = calls.derive d.engine (parameter first) label context long in
    let result : SlotResult V = derive_at calls d.engine kind export uses long label context (parameter first) (domain_at first.header) (slot_at slots target) in
    let within = laid_many s.slots source (spent_slot first) target (omega (arith, are.sixteen, range.1)) in
    means_at_second (request.Derive source target kind export uses long label context) (held_by s) d.generator d.engine s.slots source target
    (source_fault first.header kinds.Kdf (is_approved service.Derive 0)) (derive_at calls d.engine kind export uses long label context)
    (λ ok. laid_there slots target result.slot within
    ∙ vacant_filled d.engine (calls.derive_after d.engine (parameter first) label context long) header made (slot_at slots target) (vacancy_fault (slot_at slots target).header) ok
    ∙ rw (standard.derive d.engine (parameter first) label context long) refl)
service_means calls standard s are d (request.Random long additional) range has = λ ok. has
service_means {V} calls standard s are d (request.Generate target header long) range has =
    let found : Slot = slot_at s.slots target in
    λ ok. (d.bytes, has, laid_there s.slots target _ (omega (arith, are.sixteen, range.0)) ∙ vacant_filled d.engine d.engine header d.bytes found (vacancy_fault found.header) ok)
service_means calls standard s are d (request.Reseed additional) range has = λ ok. has

-- what the answer of a step means
abbrev StepMeans : {V : Type 0} → CryptographicRequest → MachineState V → Stepped V → Type 0
StepMeans what s after = MeansTheStandard what (held_by s) (held_by after.machine) (answer_of after)

-- what comes after the slots leaves the generator
settled_generator : {V : Type 0} (shared : Shared V) → (after_slots shared).generator ≡ shared.generator
settled_generator shared = by_period (is_period_over shared.public)
  where
    by_period : (over : Bool) → (if over then record shared { public = sent_to_tests shared.public; tests_passed = 0 } else shared).generator ≡ shared.generator
    by_period true = refl
    by_period false = refl

cryptographic_means : {V : Type 0} (calls : Calls V) → IsStandard calls → (s : MachineState V) → AreWellFormed (vault_of s) → (events : List Sample) (what : CryptographicRequest)
    → IsCryptographicInRange what → StepMeans what s (cryptographic_step calls s events what)
cryptographic_means {V} calls standard s are events what range =
    let Meant : Tested V → Type 0 = λ t. StepMeans what s (served calls s (ready_tested calls (with_tested s.shared t) t.judgement.refused events what) what) in
    tested_by calls s.shared.engine (use_counted s.shared.public) s.shared.tests_passed Meant
    (λ more engine includes. let d = drawn_for calls engine s.shared.generator s.shared.samples events what in
    by_failure more engine d d.failure refl (has_drawn calls standard engine s.shared.generator s.shared.samples events what))
    (λ t engine. nothing_told what (held_by s) _ status.TestFailed (record { undone = λ e. cc; unchecked = λ e. cc; wrapped = λ e. cc })) (due_at_first_use s.shared.tests_passed (test_for what))
  where
    by_failure : (more : ℕ) (engine : V) (d : Drawn V) (failure : Option Failure) → d.failure ≡ failure → (d.failure ≡ None → HasDrawn what s.shared.generator d)
        → (let counted : Shared V = record s.shared { public = use_counted s.shared.public; tests_passed = more; engine = engine } in
        StepMeans what s (served calls s (ready_drawn (with_drawn counted d) d failure what) what))
    by_failure more engine d None is has =
        let counted : Shared V = record s.shared { public = use_counted s.shared.public; tests_passed = more; engine = engine } in
        let ready = ready_drawn (with_drawn counted d) d None what in
        let result = service_at calls d.engine d.bytes s.slots what in
        let Means : Drbg → Type 0 = λ g. MeansTheStandard what (held_by s) (record { slots = result.slots; generator = g }) result.answer in
        subst Means (sym (settled_generator (record ready.shared { engine = result.engine }))) (service_means calls standard s are d what range (has is))
    by_failure more engine d (Some fault) is has = nothing_told what (held_by s) _ status.NoiseFault (record { undone = λ e. cc; unchecked = λ e. cc; wrapped = λ e. cc })

requested_means : {V : Type 0} (calls : Calls V) → IsStandard calls → (s : MachineState V) → AreWellFormed (vault_of s) → (events : List Sample) (what : CryptographicRequest) (found : Service) (body : List ℕ) (read : Option RequestValue)
    → read ≡ Some (request.Cryptographic what) → IfSome read (IsRead found body) → StepMeans what s (dispatch_request calls s events read)
requested_means calls standard s are events what found body read is =
    let Meant : Option RequestValue → Type 0 = λ r. IfSome r (IsRead found body) → StepMeans what s (dispatch_request calls s events r) in
    subst Meant (sym is) (λ read. cryptographic_means calls standard s are events what read.0)

-- a command that is refused at once means nothing
refusal_means : {V : Type 0} (s : MachineState V) (what : CryptographicRequest) (reason : Status) (events : List Sample) → reason ≢ status.Ok → reason ≢ status.AuthFailed → reason ≢ status.UnwrapFailed
    → StepMeans what s (refused s reason events)
refusal_means s what reason events undone unchecked wrapped = nothing_told what (held_by s) (held_by s) reason (record { undone = undone; unchecked = unchecked; wrapped = wrapped })

choice_means : {V : Type 0} (calls : Calls V) → IsStandard calls → (s : MachineState V) → AreWellFormed (vault_of s) → (events : List Sample) (what : CryptographicRequest) (found : Service) (body : List ℕ)
    → request_of found body ≡ Some (request.Cryptographic what) → (allowed : Bool)
    → StepMeans what s (if allowed then dispatch_request calls s events (request_of found body) else refused s status.NotInState events)
choice_means calls standard s are events what found body is true = requested_means calls standard s are events what found body (request_of found body) is (request_read found body)
choice_means calls standard s are events what found body is false = refusal_means s what status.NotInState events (λ e. cc) (λ e. cc) (λ e. cc)

dispatched_means : {V : Type 0} (calls : Calls V) → IsStandard calls → (s : MachineState V) → AreWellFormed (vault_of s) → (events : List Sample) (what : CryptographicRequest) (found : Option Service) (body : List ℕ)
    → request_at found body ≡ Some (request.Cryptographic what) → StepMeans what s (dispatch calls s events found body)
dispatched_means calls standard s are events what None body is = refusal_means s what status.UnknownService events (λ e. cc) (λ e. cc) (λ e. cc)
dispatched_means calls standard s are events what (Some found) body is = choice_means calls standard s are events what found body is (is_permitted found (state_of s))

pub services_mean : {V : Type 0} (calls : Calls V) → ServicesMeanTheStandards calls
services_mean {V} calls standard s events command rules what is =
    let Meant : Stepped V → Type 0 = λ after. StepMeans what s after in
    by_order calls s events command Meant (λ _. dispatched_means calls standard s rules.slots events what (service_numbered command.service) command.body is)
    (λ number _ _. dispatched_means calls standard (with_public s (sequence_taken s.shared.public)) rules.slots events what (service_numbered command.service) command.body is)
    (λ number _ _. refusal_means s what status.OutOfOrder events (λ e. cc) (λ e. cc) (λ e. cc))

-- so does what a module answers
pub answer_means : {V : Type 0} (calls : Calls V) → IsStandard calls → (m n : ModuleView V) (s : MachineState V) (events : List Sample) (command : CommandFrame) (reason : Status) (block payload : List ℕ)
    → Represents m s → IsServiceResult (step calls s events command) n reason block payload
    → AnswersByTheStandards command (held_in m) (held_in n) (record { status = reason; payload = payload })
answer_means {V} calls standard m n s events command reason block payload represents result what is =
    let after : Stepped V = step calls s events command in
    let meant = services_mean calls standard s events command represents.well_formed what is in
    let Found : Held → Type 0 = λ before. MeansTheStandard what before (held_by after.machine) (answer_of after) in
    let found : Found (held_in m) = subst Found (sym (ap held_by represents.same)) meant in
    let Left : Held → Type 0 = λ held. MeansTheStandard what (held_in m) held (answer_of after) in
    let left : Left (held_in n) = subst Left (sym (ap held_by result.represents.same)) found in
    let Told : Status → Type 0 = λ w. MeansTheStandard what (held_in m) (held_in n) (record { status = w; payload = after.payload }) in
    let told : Told reason = subst Told (sym result.same_status) left in
    let Given : List ℕ → Type 0 = λ p. MeansTheStandard what (held_in m) (held_in n) (record { status = reason; payload = p }) in
    subst Given (sym result.same_payload) told
