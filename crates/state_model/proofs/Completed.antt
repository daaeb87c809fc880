-- When the cryptographic services are done, where the engine is standard.
use Rattle.std.proofs.Common.{◌≡◌, ◌≢◌, ◌↔◌, ◌-◌, ◌++◌, ℕ, List, [], Bool, true, false, Option, Some, None, length, take, refl, sym, ap, subst, ◌∙◌, if◌then◌else◌}
use Rattle.std.specs.Prelude.{◌==◌, IfSome, IsTrue, bytes_eq, unwrap_or}
use Rattle.std.specs.Option.{option_map}
use Rattle.std.specs.Bool.{Decides}
use Rattle.std.proofs.lemmas.Bool.{false≢true}
use Rattle.std.proofs.lemmas.List.{take_at}
use Rattle.std.proofs.lemmas.Slice.Eq.{bytes_eq-Decides}
use Rattle.bits_core.specs.ByteList.{zeros, zero_padded}
use Rattle.bits_core.specs.declared.parameter.Domain.{Domain}
use Rattle.bits_core.specs.declared.parameter.Header.{Header}
use Rattle.bits_core.specs.declared.parameter.Kind.{Kind}
use Rattle.bits_core.specs.declared.parameter.Kind.TheVariants as kinds
use Rattle.bits_core.specs.Parameters.{length_fits}
use Rattle.gcm_mode.specs.Gcm.{gcm_tag, gcm_text}
use Rattle.service_table.specs.declared.failure.Failure.{Failure}
use Rattle.service_table.specs.declared.service.Service.{Service}
use Rattle.service_table.specs.declared.service.Service.TheVariants as service
use Rattle.service_table.specs.declared.status.Status.TheVariants as status
use Rattle.service_table.specs.Numbers.{service_numbered}
use Rattle.service_table.specs.Services.{is_permitted, is_approved, wrapping_service, unwrapping_service}
use Rattle.ssp_slots.specs.declared.slot.Slot.{Slot}
use Rattle.ssp_slots.specs.declared.slot_fault.SlotFault.{SlotFault}
use Rattle.ssp_slots.specs.Refusals.{source_fault, export_fault, vacancy_fault}
use Rattle.ssp_slots.specs.Slots.{parameter, spent_slot}
use Rattle.outside.specs.declared.traits.Sample.{Sample}
use Rattle.self_tests.specs.declared.numbers.Test.{Test}
use Rattle.self_tests.specs.TestSet.{with_test}
use Rattle.self_tests.specs.KnownAnswers.{answers_right, engine_after}
use Rattle.module_frames.specs.declared.public_state.PublicState.{PublicState}
use Rattle.module_frames.specs.PublicEffects.{sequence_taken, use_counted}
use Rattle.module_frames.specs.Requests.{RequestValue, CryptographicRequest, IsCryptographicInRange, request_of}
use Rattle.module_frames.specs.Requests as request
use Rattle.engine_core.specs.Calls.{Calls, IsStandard}
use Rattle.engine_core.specs.Results.{Opened}
use Rattle.engine_core.specs.Standards.{gcm_decrypt, unwrapping}
use Rattle.random_bits.specs.Draws.{Drawn}
use Rattle.crypto_services.specs.AtSlots.{Answer, SlotResult, slot_at, with_slot_at, domain_at, fault_status, source_by, on_source, second_under, unless_fault, refused_at, filled_at, success, refusal}
use Rattle.crypto_services.specs.Services.{is_leftmost, verified}
use Rattle.crypto_services.specs.Sealing.{with_tag, opened}
use Rattle.crypto_services.specs.Wrapping.{is_wrappable, wrapping_in, wrap_at, unwrap_at, filled_if_fits, filled_by_unwrapping, header_under}
use Rattle.crypto_services.specs.Derivation.{derive_at}
use Rattle.state_model.specs.MachineState.{MachineState, Shared, state_of}
use Rattle.state_model.specs.Management.{Stepped, refused, with_public, with_tested}
use Rattle.state_model.specs.SelfTesting.{Tested, tested, judgement, test_for, due_at_first_use}
use Rattle.state_model.specs.Cryptographic.{drawn_for, service_at, with_drawn, ready_drawn, ready_tested, served, cryptographic_step}
use Rattle.state_model.specs.Permission.{IsPermittedIn}
use Rattle.state_model.specs.Step.{dispatch, dispatch_request, request_at, is_in_order}
use Rattle.state_model.specs.Meaning.{mac_under, tag_under}
use Rattle.state_model.specs.Completeness.{IsTestedRight, IsDrawnWell, IsVacant, IsExportable, IsUnwrapped, IsServable, ServicesAreComplete}
use Rattle.state_model.proofs.RequestReading.{IsRead, request_read}
use Rattle.state_model.proofs.Sequences.{by_order}
use Rattle.state_model.proofs.Silence.{silent_fault}
use Rattle.state_model.proofs.DrawingMeanings.{drawn_fails}
use Rattle.state_model.proofs.SealingMeanings.{decided}
use Rattle.state_model.proofs.FillingMeanings.{second_found}

-- an answer is Ok exactly where this holds
abbrev IsDoneWhere : Type 0 → Answer → Type 0
IsDoneWhere Right answer = (answer.status ≡ status.Ok) ↔ Right

always : (answer : Answer) → answer.status ≡ status.Ok → IsDoneWhere (Unit {0}) answer
always answer is = (λ ok. tt, λ _. is)

-- a refusal by a slot isn't, wherever that there was no fault is asked for
faulty : (Right : Type 0) (fault : SlotFault) → IsDoneWhere ((Some fault ≡ None) × Right) (refusal (fault_status fault))
faulty Right fault = (λ ok. absurd ((silent_fault fault).undone ok), λ both. let none = both.0 in cc)

-- a source's answer is Ok exactly where there is no fault, and what is done with the key is Ok
source_done : {V : Type 0} (Right : Type 0) (engine : V) (slot : Slot) (fault : Option SlotFault) (after : List ℕ → V) (answer : List ℕ → Answer)
    → IsDoneWhere Right (answer (parameter slot)) → IsDoneWhere ((fault ≡ None) × Right) (on_source engine (source_by slot fault) after answer).answer
source_done Right engine slot None after answer done = (λ ok. (refl, done.0 ok), λ both. done.1 both.1)
source_done Right engine slot (Some reason) after answer done = faulty Right reason

-- and where all is done that is asked with the key, exactly where there is no fault
source_used : {V : Type 0} (engine : V) (slot : Slot) (fault : Option SlotFault) (after : List ℕ → V) (answer : List ℕ → Answer)
    → (answer (parameter slot)).status ≡ status.Ok → IsDoneWhere (fault ≡ None) (on_source engine (source_by slot fault) after answer).answer
source_used engine slot None after answer done = (λ ok. refl, λ _. done)
source_used engine slot (Some reason) after answer done = (λ ok. absurd ((silent_fault reason).undone ok), λ none. cc)

-- a service on two slots is done exactly where the first has no fault, and it is done at the second as that was found
second_done : {V : Type 0} (Right : Type 0) (engine : V) (slots : List Slot) (first second : ℕ) (fault : Option SlotFault) (service : List ℕ → Domain → Slot → SlotResult V) → first ≢ second
    → (let slot = slot_at slots first in IsDoneWhere Right (service (parameter slot) (domain_at slot.header) (slot_at slots second)).answer)
    → (let source = source_by (slot_at slots first) fault in
    IsDoneWhere ((fault ≡ None) × Right) (second_under engine (with_slot_at slots first source.slot) second source source.refused service).answer)
second_done {V} Right engine slots first second None service apart done =
    let slot : Slot = slot_at slots first in
    let Done : Slot → Type 0 = λ found. IsDoneWhere Right (service (parameter slot) (domain_at slot.header) found).answer in
    let there : Done (slot_at (with_slot_at slots first (spent_slot slot)) second) = subst Done (sym (second_found slots first second (spent_slot slot) apart)) done in
    (λ ok. (refl, there.0 ok), λ both. there.1 both.1)
second_done Right engine slots first second (Some reason) service apart done = faulty Right reason

-- what is done unless there is a fault
fault_done : {V : Type 0} (Right : Type 0) (engine : V) (slot : Slot) (fault : Option SlotFault) (served : SlotResult V) → IsDoneWhere Right served.answer
    → IsDoneWhere ((fault ≡ None) × Right) (unless_fault engine slot fault served).answer
fault_done Right engine slot None served done = (λ ok. (refl, done.0 ok), λ both. done.1 both.1)
fault_done Right engine slot (Some reason) served done = faulty Right reason

-- a vacant slot is filled
vacant_done : {V : Type 0} (engine after : V) (header : Header) (bytes : List ℕ) (slot : Slot) (fault : Option SlotFault)
    → IsDoneWhere (fault ≡ None) (unless_fault engine slot fault (filled_at after header bytes)).answer
vacant_done engine after header bytes slot None = (λ ok. refl, λ _. refl)
vacant_done engine after header bytes slot (Some reason) = (λ ok. absurd ((silent_fault reason).undone ok), λ none. cc)

verified_done : (Right : Type 0) (same : Bool) → Decides same Right → IsDoneWhere Right (if same then success [] else refusal status.AuthFailed)
verified_done Right true decides = (λ ok. decides.0 refl, λ right. refl)
verified_done Right false decides = (λ ok. cc, λ right. absurd (false≢true (decides.1 right)))

opened_done : (key iv aad text tag : List ℕ) → IsDoneWhere (tag ≡ take (length tag) (gcm_tag key iv aad text)) (opened (gcm_decrypt key iv aad text tag))
opened_done key iv aad text tag = by_tag (bytes_eq tag (take (length tag) (gcm_tag key iv aad text))) (bytes_eq-Decides tag (take (length tag) (gcm_tag key iv aad text)))
  where
    by_tag : (same : Bool) → Decides same (tag ≡ take (length tag) (gcm_tag key iv aad text))
        → (let result : Opened = if same then record { authentic = true; text = gcm_text key iv text } else record { authentic = false; text = zeros (length text) } in
        IsDoneWhere (tag ≡ take (length tag) (gcm_tag key iv aad text)) (opened result))
    by_tag true decides = (λ ok. decides.0 refl, λ right. refl)
    by_tag false decides = (λ ok. cc, λ right. absurd (false≢true (decides.1 right)))

-- a test of a length decides whether it is done
length_done : {V : Type 0} (done refused' : SlotResult V) → done.answer.status ≡ status.Ok → refused'.answer.status ≡ status.BadLength → (good : Bool) → IsDoneWhere (IsTrue good) (if good then done else refused').answer
length_done done refused' is isn't true = (λ ok. refl, λ _. is)
length_done done refused' is isn't false = (λ ok. cc, λ good. absurd (false≢true good))

wrap_done : {V : Type 0} (calls : Calls V) (engine : V) (pad : Bool) (key : List ℕ) (domain : Domain) (slot : Slot)
    → IsDoneWhere ((export_fault slot.header domain ≡ None) × IsTrue (is_wrappable pad slot.length)) (wrap_at calls engine pad key domain slot).answer
wrap_done {V} calls engine pad key domain slot =
    let done : SlotResult V = record { engine = calls.wrap_after engine pad key (parameter slot); slot = slot; answer = success (wrapping_in (calls.wrap engine pad key (parameter slot))) } in
    let short : SlotResult V = refused_at engine slot status.BadLength in
    fault_done (IsTrue (is_wrappable pad slot.length)) engine slot (export_fault slot.header domain) (if is_wrappable pad slot.length then done else short)
    (length_done done short refl refl (is_wrappable pad slot.length))

-- something was wrapped that fits
abbrev Fits : Option (List ℕ) → Header → Type 0
Fits text header = (bytes : List ℕ) × (text ≡ Some bytes) × IsTrue (length_fits header.kind header.domain (length bytes))

filled_done : {V : Type 0} (engine : V) (slot : Slot) (header : Header) (text : Option (List ℕ))
    → IsDoneWhere (Fits text header) (filled_by_unwrapping engine slot header (zero_padded 80 (unwrap_or text [])) (option_map length text)).answer
filled_done engine slot header None = (λ ok. cc, λ some. let is = some.1 in cc)
filled_done {V} engine slot header (Some bytes) =
    let Done : List ℕ → Type 0 = λ found. IsDoneWhere (Fits (Some bytes) header) (filled_if_fits engine slot header found).answer in
    let done = length_done (filled_at engine header bytes) (refused_at engine slot status.BadLength) refl refl (length_fits header.kind header.domain (length bytes)) in
    let Long : List ℕ → Type 0 = λ found. IsTrue (length_fits header.kind header.domain (length found)) in
    subst Done (sym (take_at bytes (zeros (80 - length bytes)) (length bytes) refl))
    (λ ok. (bytes, refl, done.0 ok), λ fits. let is = fits.1 in let same : fits.0 ≡ bytes = cc in done.1 (subst Long same fits.2))

unwrap_done : {V : Type 0} (calls : Calls V) → IsStandard calls → (engine : V) (pad : Bool) (kind : Kind) (export : Bool) (uses : ℕ) (wrapped key : List ℕ) (domain : Domain) (slot : Slot)
    → IsDoneWhere ((vacancy_fault slot.header ≡ None) × Fits (unwrapping pad key wrapped) (header_under kind export uses domain)) (unwrap_at calls engine pad kind export uses wrapped key domain slot).answer
unwrap_done {V} calls standard engine pad kind export uses wrapped key domain slot =
    let header : Header = header_under kind export uses domain in
    let after : V = calls.unwrap_after engine pad key wrapped in
    let text : Option (List ℕ) = unwrapping pad key wrapped in
    rw (standard.unwrap engine pad key wrapped)
    (fault_done (Fits text header) engine slot (vacancy_fault slot.header) (filled_by_unwrapping after slot header (zero_padded 80 (unwrap_or text [])) (option_map length text))
    (filled_done after slot header text))

service_done : {V : Type 0} (calls : Calls V) → IsStandard calls → (engine : V) (drawn : List ℕ) (slots : List Slot) (what : CryptographicRequest) → IsCryptographicInRange what
    → IsDoneWhere (IsServable what slots) (service_at calls engine drawn slots what).answer
service_done calls standard engine drawn slots (request.Hash alg text) range = (λ ok. tt, λ _. refl)
service_done calls standard engine drawn slots (request.Mac slot alg mac_length text) range =
    source_used engine (slot_at slots slot) (source_fault (slot_at slots slot).header kinds.Mac (is_approved service.Mac mac_length))
    (λ key. calls.mac_after engine alg key text) (λ key. success (take mac_length (calls.mac engine alg key text))) refl
service_done calls standard engine drawn slots (request.MacVerify slot alg tag text) range =
    let key : List ℕ = parameter (slot_at slots slot) in
    source_done (tag ≡ mac_under slots slot alg (length tag) text) engine (slot_at slots slot) (source_fault (slot_at slots slot).header kinds.Mac (is_approved service.MacVerify (length tag)))
    (λ key. calls.mac_after engine alg key text) (λ key. verified tag (calls.mac engine alg key text))
    (verified_done (tag ≡ mac_under slots slot alg (length tag) text) (is_leftmost tag (calls.mac engine alg key text)) (decided calls standard engine alg tag key text range.2))
service_done calls standard engine drawn slots (request.Seal slot tag_length aad text) range =
    source_used engine (slot_at slots slot) (source_fault (slot_at slots slot).header kinds.Aes (is_approved service.Seal 0))
    (λ key. calls.seal_after engine key drawn aad text) (λ key. success (drawn ++ with_tag tag_length (calls.seal engine key drawn aad text))) refl
service_done calls standard engine drawn slots (request.SealIv slot tag_length iv aad text) range =
    source_used engine (slot_at slots slot) (source_fault (slot_at slots slot).header kinds.Aes (is_approved service.SealIv 0))
    (λ key. calls.seal_after engine key iv aad text) (λ key. success (with_tag tag_length (calls.seal engine key iv aad text))) refl
service_done calls standard engine drawn slots (request.Open slot iv aad text tag) range =
    let key : List ℕ = parameter (slot_at slots slot) in
    source_done (tag ≡ tag_under slots slot iv aad text (length tag)) engine (slot_at slots slot) (source_fault (slot_at slots slot).header kinds.Aes (is_approved service.Open 0))
    (λ key. calls.open_after engine key iv aad text tag) (λ key. opened (calls.open engine key iv aad text tag))
    (rw (standard.open engine key iv aad text tag) (opened_done key iv aad text tag))
service_done calls standard engine drawn slots (request.Wrap pad kek second) range =
    let first : Slot = slot_at slots kek in
    second_done (IsExportable slots pad kek second) engine slots kek second (source_fault first.header kinds.Kek (is_approved (wrapping_service pad) 0)) (wrap_at calls engine pad) range.2
    (wrap_done calls engine pad (parameter first) (domain_at first.header) (slot_at slots second))
service_done calls standard engine drawn slots (request.Unwrap pad kek target kind export uses wrapped) range =
    let first : Slot = slot_at slots kek in
    let done = second_done (IsVacant slots target × IsUnwrapped slots pad kek kind wrapped) engine slots kek target (source_fault first.header kinds.Kek (is_approved (unwrapping_service pad) 0))
    (unwrap_at calls engine pad kind export uses wrapped) range.2
    (unwrap_done calls standard engine pad kind export uses wrapped (parameter first) (domain_at first.header) (slot_at slots target)) in
    (λ ok. let all = done.0 ok in (all.0, all.1.0, all.1.1), λ all. done.1 (all.0, (all.1, all.2)))
service_done calls standard engine drawn slots (request.Derive source target kind export uses long label context) range =
    let first : Slot = slot_at slots source in
    let found : Slot = slot_at slots target in
    second_done (IsVacant slots target) engine slots source target (source_fault first.header kinds.Kdf (is_approved service.Derive 0)) (derive_at calls engine kind export uses long label context) range.2
    (vacant_done engine (calls.derive_after engine (parameter first) label context long) (header_under kind export uses (domain_at first.header)) (calls.derive engine (parameter first) label context long)
    found (vacancy_fault found.header))
service_done calls standard engine drawn slots (request.Random long additional) range = (λ ok. tt, λ _. refl)
service_done calls standard engine drawn slots (request.Generate target header long) range =
    let found : Slot = slot_at slots target in vacant_done engine engine header drawn found (vacancy_fault found.header)
service_done calls standard engine drawn slots (request.Reseed additional) range = (λ ok. tt, λ _. refl)

-- what holds of a test that passed, or of none, holds of what is tested where the answers are right
tested_right : {V : Type 0} (calls : Calls V) (engine : V) (public : PublicState) (tests : ℕ) (P : Tested V → Type 0)
    → ((more : ℕ) (engine' : V) → P (record { judgement = record { public = public; tests_passed = more; refused = None }; engine = engine' }))
    → (due : Option Test) → IfSome due (λ test. answers_right calls engine test ≡ true) → P (tested calls engine public tests due)
tested_right calls engine public tests P passes None right = passes tests engine
tested_right {V} calls engine public tests P passes (Some test) right =
    let Holds : Bool → Type 0 = λ b. P (record { judgement = judgement public tests test b; engine = engine_after calls engine test }) in
    subst Holds (sym right) (passes (with_test tests test) (engine_after calls engine test))

-- a request is served exactly where its draw doesn't fail, and then nothing at the slots refuses it
abbrev IsServedWhere : {V : Type 0} → Calls V → MachineState V → List Sample → CryptographicRequest → Stepped V → Type 0
IsServedWhere calls s events what after = (after.status ≡ status.Ok) ↔ (IsDrawnWell calls s.shared events what × IsServable what s.slots)

cryptographic_done : {V : Type 0} (calls : Calls V) → IsStandard calls → (s : MachineState V) (events : List Sample) (what : CryptographicRequest) → IsCryptographicInRange what → IsTestedRight calls s.shared what
    → IsServedWhere calls s events what (cryptographic_step calls s events what)
cryptographic_done {V} calls standard s events what range right =
    let Done : Tested V → Type 0 = λ t. IsServedWhere calls s events what (served calls s (ready_tested calls (with_tested s.shared t) t.judgement.refused events what) what) in
    tested_right calls s.shared.engine (use_counted s.shared.public) s.shared.tests_passed Done
    (λ more engine. let d = drawn_for calls engine s.shared.generator s.shared.samples events what in
    by_failure more engine d d.failure (drawn_fails calls s.shared.engine engine s.shared.generator s.shared.samples events what))
    (due_at_first_use s.shared.tests_passed (test_for what)) right
  where
    by_failure : (more : ℕ) (engine : V) (d : Drawn V) (failure : Option Failure) → (drawn_for calls s.shared.engine s.shared.generator s.shared.samples events what).failure ≡ failure
        → (let counted : Shared V = record s.shared { public = use_counted s.shared.public; tests_passed = more; engine = engine } in
        IsServedWhere calls s events what (served calls s (ready_drawn (with_drawn counted d) d failure what) what))
    by_failure more engine d None is =
        let done = service_done calls standard d.engine d.bytes s.slots what range in
        (λ ok. (is, done.0 ok), λ both. done.1 both.1)
    by_failure more engine d (Some fault) is = (λ ok. cc, λ both. let none = both.0 in cc)

requested_done : {V : Type 0} (calls : Calls V) → IsStandard calls → (s : MachineState V) (events : List Sample) (what : CryptographicRequest) (found : Service) (body : List ℕ) (read : Option RequestValue)
    → read ≡ Some (request.Cryptographic what) → IfSome read (IsRead found body) → IsPermittedIn (request.Cryptographic what) (state_of s) → IsTestedRight calls s.shared what
    → (let after : Stepped V = if is_permitted found (state_of s) then dispatch_request calls s events read else refused s status.NotInState events in IsServedWhere calls s events what after)
requested_done {V} calls standard s events what found body read is are permitted right =
    let Read : Option RequestValue → Type 0 = λ r. IfSome r (IsRead found body) in
    let there : IsRead found body (request.Cryptographic what) = subst Read is are in
    let allowed : is_permitted found (state_of s) ≡ true = sym (ap (λ f. is_permitted f (state_of s)) there.1) ∙ permitted in
    let Done : Bool → Option RequestValue → Type 0 = λ b r. (let after : Stepped V = if b then dispatch_request calls s events r else refused s status.NotInState events in IsServedWhere calls s events what after) in
    let Allowed : Bool → Type 0 = λ b. Done b read in
    let Requested : Option RequestValue → Type 0 = λ r. Done true r in
    let done : Done true read = subst Requested (sym is) (cryptographic_done calls standard s events what there.0 right) in
    subst Allowed (sym allowed) done

dispatched_done : {V : Type 0} (calls : Calls V) → IsStandard calls → (s : MachineState V) (events : List Sample) (what : CryptographicRequest) (found : Option Service) (body : List ℕ)
    → request_at found body ≡ Some (request.Cryptographic what) → IsPermittedIn (request.Cryptographic what) (state_of s) → IsTestedRight calls s.shared what
    → IsServedWhere calls s events what (dispatch calls s events found body)
dispatched_done calls standard s events what None body is permitted right = cc
dispatched_done calls standard s events what (Some found) body is permitted right =
    requested_done calls standard s events what found body (request_of found body) is (request_read found body) permitted right

-- a numbered command isn't both in its order and out of it
never_both : (sequence : Option ℕ) (number expected : ℕ) → sequence ≡ Some number → is_in_order sequence expected ≡ true → (number == expected) ≡ false → ⊥
never_both sequence number expected is order other =
    let InOrder : Option ℕ → Type 0 = λ q. is_in_order q expected ≡ true in
    let same : (number == expected) ≡ true = subst InOrder is order in
    false≢true (sym other ∙ same)

pub services_complete : {V : Type 0} (calls : Calls V) → ServicesAreComplete calls
services_complete {V} calls standard s events command what is_next is permitted right =
    let Done : Stepped V → Type 0 = λ after. IsServedWhere calls s events what after in
    by_order calls s events command Done (λ _. dispatched_done calls standard s events what (service_numbered command.service) command.body is permitted right)
    (λ number _ _. dispatched_done calls standard (with_public s (sequence_taken s.shared.public)) events what (service_numbered command.service) command.body is permitted right)
    (λ number numbered other. absurd (never_both command.sequence number s.shared.public.next_sequence numbered is_next other))
