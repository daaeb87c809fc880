-- A step gives data in a role alone, by a service of class data alone, and only where it was done.
use Rattle.std.proofs.Common.{◌≡◌, ◌≢◌, ◌⊎◌, ◌+◌, Bool, true, false, List, [], ℕ, Option, Some, None, length, take, refl, ap, subst, ◌∙◌, if◌then◌else◌}
use Rattle.std.specs.Prelude.{nat_le, IfSome}
use Rattle.service_table.specs.declared.class.Class.TheVariants as class
use Rattle.service_table.specs.declared.service.Service.{Service}
use Rattle.service_table.specs.declared.service.Service.TheVariants as service
use Rattle.service_table.specs.declared.state.State.TheVariants as state
use Rattle.service_table.specs.declared.status.Status.TheVariants as status
use Rattle.service_table.specs.Numbers.{service_numbered}
use Rattle.service_table.specs.Services.{is_permitted, is_approved, class_of, unwrapping_service}
use Rattle.bits_core.specs.Parameters.{length_fits}
use Rattle.bits_core.specs.declared.parameter.Domain.{Domain}
use Rattle.bits_core.specs.declared.parameter.Header.{Header}
use Rattle.bits_core.specs.declared.parameter.Kind.TheVariants as kind
use Rattle.ssp_slots.specs.declared.slot.Slot.{Slot}
use Rattle.ssp_slots.specs.declared.slot_fault.SlotFault.{SlotFault}
use Rattle.ssp_slots.specs.Refusals.{source_fault, vacancy_fault, export_fault}
use Rattle.ssp_slots.specs.Slots.{parameter}
use Rattle.outside.specs.declared.traits.Sample.{Sample}
use Rattle.module_frames.specs.Requests.{RequestValue, CryptographicRequest, request_of, service_for, cryptographic_service_for}
use Rattle.module_frames.specs.Requests as request
use Rattle.module_frames.specs.PublicState.{no_block}
use Rattle.module_frames.specs.PublicEffects.{sequence_taken}
use Rattle.engine_core.specs.Calls.{Calls}
use Rattle.engine_core.specs.Results.{Opened}
use Rattle.crypto_services.specs.AtSlots.{Answer, SlotResult, slot_at, on_source, source_by, second_under, unless_fault, refused_at, filled_at, success, refusal}
use Rattle.crypto_services.specs.Services.{is_leftmost, verified}
use Rattle.crypto_services.specs.Sealing.{opened}
use Rattle.crypto_services.specs.Wrapping.{wrap_at, unwrap_at, is_wrappable, wrapping_in, filled_by_unwrapping}
use Rattle.crypto_services.specs.Derivation.{derive_at}
use Rattle.state_model.specs.Permission.{IsPermittedIn}
use Rattle.state_model.specs.Entries.{with_piece, entry_length}
use Rattle.state_model.specs.MachineState.{MachineState, state_of}
use Rattle.state_model.specs.Management.{Stepped, refused, done, with_public, test_step}
use Rattle.state_model.specs.Cryptographic.{Ready, service_at, served, cryptographic_step}
use Rattle.state_model.specs.Step.{dispatch, dispatch_request, perform}
use Rattle.state_model.specs.Laws.{DataNeedsARole}
use Rattle.state_model.proofs.Permitted.{role_for_hash}
use Rattle.state_model.proofs.Keeping.{hash_for_cryptographic}
use Rattle.state_model.proofs.Sequences.{by_order}
use Rattle.state_model.proofs.Readiness.{ready_cases}
use Rattle.state_model.proofs.TestSteps.{test_step_by}
use Rattle.state_model.proofs.RequestReading.{IsRead, request_read}

-- an answer with data is one of a service of class data that was done
abbrev GivesAs : Service → Answer → Type 0
GivesAs found answer = answer.payload ≢ [] → (answer.status ≡ status.Ok) × (class_of found ≡ class.Payload)

source_gives : {V : Type 0} (found : Service) (engine : V) (slot : Slot) (fault : Option SlotFault) (after : List ℕ → V) (answer : List ℕ → Answer) → ((key : List ℕ) → GivesAs found (answer key))
    → GivesAs found (on_source engine (source_by slot fault) after answer).answer
source_gives found engine slot None after answer gives = gives _
source_gives found engine slot (Some why) after answer gives = λ some. absurd (some refl)

verified_gives : (right : Bool) → GivesAs service.MacVerify (if right then success [] else refusal status.AuthFailed)
verified_gives true = λ some. absurd (some refl)
verified_gives false = λ some. absurd (some refl)

opened_gives : (result : Opened) → GivesAs service.Open (opened result)
opened_gives result = by_tag result.authentic
  where
    by_tag : (right : Bool) → GivesAs service.Open (if right then success result.text else refusal status.AuthFailed)
    by_tag true = λ some. (refl, refl)
    by_tag false = λ some. absurd (some refl)

fault_gives : {V : Type 0} (found : Service) (engine : V) (slot : Slot) (fault : Option SlotFault) (served : SlotResult V) → GivesAs found served.answer → GivesAs found (unless_fault engine slot fault served).answer
fault_gives found engine slot None served gives = gives
fault_gives found engine slot (Some reason) served gives = λ some. absurd (some refl)

second_gives : {V : Type 0} (found : Service) (engine : V) (slots : List Slot) (second : ℕ) (slot : Slot) (fault : Option SlotFault) (service : List ℕ → Domain → Slot → SlotResult V)
    → ((key : List ℕ) (domain : Domain) (slot : Slot) → GivesAs found (service key domain slot).answer)
    → (let sourced = source_by slot fault in GivesAs found (second_under engine slots second sourced sourced.refused service).answer)
second_gives found engine slots second slot None service gives = gives _ _ _
second_gives found engine slots second slot (Some reason) service gives = λ some. absurd (some refl)

wrap_gives : {V : Type 0} (calls : Calls V) (engine : V) (pad : Bool) (key : List ℕ) (domain : Domain) (slot : Slot) (found : Service) → class_of found ≡ class.Payload
    → GivesAs found (wrap_at calls engine pad key domain slot).answer
wrap_gives {V} calls engine pad key domain slot found data_class = fault_gives found engine slot (export_fault slot.header domain) _ (by_length (is_wrappable pad slot.length))
  where
    by_length : (good : Bool) → (let wrapped : SlotResult V = record {
      engine = calls.wrap_after engine pad key (parameter slot);
      slot = slot;
      answer = success (wrapping_in (calls.wrap engine pad key (parameter slot)));
    } in GivesAs found (if good then wrapped else refused_at engine slot status.BadLength).answer)
    by_length true = λ some. (refl, data_class)
    by_length false = λ some. absurd (some refl)

unwrapped_gives : {V : Type 0} (found : Service) (engine : V) (slot : Slot) (header : Header) (buf : List ℕ) (size : Option ℕ) → GivesAs found (filled_by_unwrapping engine slot header buf size).answer
unwrapped_gives found engine slot header buf None = λ some. absurd (some refl)
unwrapped_gives {V} found engine slot header buf (Some size) = by_length (length_fits header.kind header.domain (length (take size buf)))
  where
    by_length : (fits : Bool) → (let filled : SlotResult V = filled_at engine header (take size buf) in GivesAs found (if fits then filled else refused_at engine slot status.BadLength).answer)
    by_length true = λ some. absurd (some refl)
    by_length false = λ some. absurd (some refl)

service_gives : {V : Type 0} (calls : Calls V) (engine : V) (drawn : List ℕ) (slots : List Slot) (what : CryptographicRequest)
    → GivesAs (cryptographic_service_for what) (service_at calls engine drawn slots what).answer
service_gives calls engine drawn slots (request.Hash alg text) = λ some. (refl, refl)
service_gives calls engine drawn slots (request.Mac slot alg mac_length text) =
    source_gives service.Mac engine (slot_at slots slot) (source_fault (slot_at slots slot).header kind.Mac (is_approved service.Mac mac_length))
    (λ key. calls.mac_after engine alg key text) (λ key. success (take mac_length (calls.mac engine alg key text))) (λ key some. (refl, refl))
service_gives calls engine drawn slots (request.MacVerify slot alg tag text) =
    source_gives service.MacVerify engine (slot_at slots slot) (source_fault (slot_at slots slot).header kind.Mac (is_approved service.MacVerify (length tag)))
    (λ key. calls.mac_after engine alg key text) (λ key. verified tag (calls.mac engine alg key text))
    (λ key. verified_gives (is_leftmost tag (calls.mac engine alg key text)))
service_gives calls engine drawn slots (request.Seal slot tag_length aad text) =
    source_gives service.Seal engine (slot_at slots slot) (source_fault (slot_at slots slot).header kind.Aes (is_approved service.Seal 0)) _ _ (λ key some. (refl, refl))
service_gives calls engine drawn slots (request.SealIv slot tag_length iv aad text) =
    source_gives service.SealIv engine (slot_at slots slot) (source_fault (slot_at slots slot).header kind.Aes (is_approved service.SealIv 0)) _ _ (λ key some. (refl, refl))
service_gives calls engine drawn slots (request.Open slot iv aad text tag) =
    source_gives service.Open engine (slot_at slots slot) (source_fault (slot_at slots slot).header kind.Aes (is_approved service.Open 0)) _ (λ key. opened (calls.open engine key iv aad text tag))
    (λ key. opened_gives (calls.open engine key iv aad text tag))
service_gives calls engine drawn slots (request.Wrap true kek second) =
    second_gives service.WrapPad engine _ second (slot_at slots kek) (source_fault (slot_at slots kek).header kind.Kek (is_approved service.WrapPad 0)) (wrap_at calls engine true)
    (λ key domain slot. wrap_gives calls engine true key domain slot service.WrapPad refl)
service_gives calls engine drawn slots (request.Wrap false kek second) =
    second_gives service.Wrap engine _ second (slot_at slots kek) (source_fault (slot_at slots kek).header kind.Kek (is_approved service.Wrap 0)) (wrap_at calls engine false)
    (λ key domain slot. wrap_gives calls engine false key domain slot service.Wrap refl)
service_gives calls engine drawn slots (request.Unwrap pad kek target kind' export uses wrapped) =
    second_gives (unwrapping_service pad) engine _ target (slot_at slots kek) (source_fault (slot_at slots kek).header kind.Kek (is_approved (unwrapping_service pad) 0)) (unwrap_at calls engine pad kind' export uses wrapped)
    (λ key domain slot. fault_gives (unwrapping_service pad) engine slot (vacancy_fault slot.header) _ (unwrapped_gives (unwrapping_service pad) _ slot _ _ (calls.unwrap engine pad key wrapped).size))
service_gives calls engine drawn slots (request.Derive source target kind' export uses long label context) =
    second_gives service.Derive engine _ target (slot_at slots source) (source_fault (slot_at slots source).header kind.Kdf (is_approved service.Derive 0)) (derive_at calls engine kind' export uses long label context)
    (λ key domain slot. fault_gives service.Derive engine slot (vacancy_fault slot.header) _ (λ some. absurd (some refl)))
service_gives calls engine drawn slots (request.Random long additional) = λ some. (refl, refl)
service_gives calls engine drawn slots (request.Generate target header long) =
    fault_gives service.Generate engine (slot_at slots target) (vacancy_fault (slot_at slots target).header) _ (λ some. absurd (some refl))
service_gives calls engine drawn slots (request.Reseed additional) = λ some. absurd (some refl)

-- where data is given, a service of class data was done in a role
abbrev Gives : {V : Type 0} → Service → MachineState V → Stepped V → Type 0
Gives found s after =
    after.payload ≢ [] → (after.status ≡ status.Ok) × ((state_of s ≡ state.Officer) ⊎ (state_of s ≡ state.User)) × (class_of found ≡ class.Payload)

either_none : {V : Type 0} (first : Bool) (a b : Stepped V) → a.payload ≡ [] → b.payload ≡ [] → (if first then a else b).payload ≡ []
either_none true a b h k = h
either_none false a b h k = k

test_gives : {V : Type 0} (calls : Calls V) (s : MachineState V) (events : List Sample) → Gives service.TestStep s (test_step calls s events)
test_gives {V} calls s events =
    let Given : Stepped V → Type 0 = λ after. Gives service.TestStep s after in
    test_step_by calls s events Given (λ tests engine generator samples left some. absurd (some refl)) (λ why tests engine generator samples left some. absurd (some refl))
    (λ why tests engine generator samples left some. absurd (some refl))

cryptographic_gives : {V : Type 0} (calls : Calls V) (s : MachineState V) (events : List Sample) (what : CryptographicRequest) → is_permitted (cryptographic_service_for what) (state_of s) ≡ true
    → Gives (cryptographic_service_for what) s (cryptographic_step calls s events what)
cryptographic_gives {V} calls s events what allowed =
    let Given : Ready V → Type 0 = λ ready. Gives (cryptographic_service_for what) s (served calls s ready what) in
    ready_cases calls s.shared events what Given (λ more engine generator samples drawn left some.
    let gives = service_gives calls engine drawn s.slots what some in
    (gives.0, role_for_hash (state_of s) (hash_for_cryptographic what (state_of s) allowed), gives.1)) (λ test engine some. absurd (some refl))
    (λ fault more engine generator samples left some. absurd (some refl))

perform_gives : {V : Type 0} (calls : Calls V) (s : MachineState V) (events : List Sample) (what : RequestValue) → IsPermittedIn what (state_of s) → Gives (service_for what) s (perform calls s events what)
perform_gives calls s events (request.Cryptographic what) allowed = cryptographic_gives calls s events what allowed
perform_gives calls s events (request.EntryBytes piece) allowed = λ some.
    absurd (some (either_none (nat_le (s.entry.filled + length piece) (entry_length s.entry)) (done (record s { entry = with_piece s.entry piece }) no_block events) (refused s status.BadLength events) refl refl))
perform_gives calls s events (request.PowerOn period) allowed = λ some. absurd (some refl)
perform_gives calls s events request.TestStep allowed = test_gives calls s events
perform_gives calls s events request.RequestTests allowed = λ some. absurd (some refl)
perform_gives calls s events request.ShowStatus allowed = λ some. absurd (some refl)
perform_gives calls s events request.ShowVersion allowed = λ some. absurd (some refl)
perform_gives calls s events (request.SelectRole role) allowed = λ some. absurd (some refl)
perform_gives calls s events request.Reset allowed = λ some. absurd (some refl)
perform_gives calls s events (request.EntryBegin slot header long) allowed = λ some. absurd (some refl)
perform_gives calls s events (request.EntryCommit check) allowed = λ some. absurd (some refl)
perform_gives calls s events request.EntryAbort allowed = λ some. absurd (some refl)
perform_gives calls s events (request.Zeroise slot) allowed = λ some. absurd (some refl)
perform_gives calls s events (request.ZeroiseTree slot) allowed = λ some. absurd (some refl)
perform_gives calls s events request.ZeroiseAll allowed = λ some. absurd (some refl)
perform_gives calls s events (request.ShowSlot slot) allowed = λ some. absurd (some refl)

requested_gives : {V : Type 0} (calls : Calls V) (s : MachineState V) (events : List Sample) (found : Service) (body : List ℕ) (read : Option RequestValue) → IfSome read (IsRead found body)
    → is_permitted found (state_of s) ≡ true → Gives found s (dispatch_request calls s events read)
requested_gives calls s events found body None is_read allowed = λ some. absurd (some refl)
requested_gives calls s events found body (Some what) is_read allowed =
    subst (λ f. Gives f s (perform calls s events what)) is_read.1 (perform_gives calls s events what (ap (λ f. is_permitted f (state_of s)) is_read.1 ∙ allowed))

choice_gives : {V : Type 0} (calls : Calls V) (s : MachineState V) (events : List Sample) (found : Service) (allowed : Bool) (body : List ℕ) → is_permitted found (state_of s) ≡ allowed
    → Gives found s (if allowed then dispatch_request calls s events (request_of found body) else refused s status.NotInState events)
choice_gives calls s events found true body is = requested_gives calls s events found body (request_of found body) (request_read found body) is
choice_gives calls s events found false body is = λ some. absurd (some refl)

dispatched_gives : {V : Type 0} (calls : Calls V) (s : MachineState V) (events : List Sample) (numbered : Option Service) (body : List ℕ) → (dispatch calls s events numbered body).payload ≢ []
    → ((dispatch calls s events numbered body).status ≡ status.Ok) × ((state_of s ≡ state.Officer) ⊎ (state_of s ≡ state.User))
    × ((found : Service) × (numbered ≡ Some found) × (class_of found ≡ class.Payload))
dispatched_gives calls s events None body some = absurd (some refl)
dispatched_gives calls s events (Some found) body some =
    let gives = choice_gives calls s events found (is_permitted found (state_of s)) body refl some in
    (gives.0, gives.1, (found, refl, gives.2))

pub data_in_roles : {V : Type 0} (calls : Calls V) → DataNeedsARole calls
data_in_roles {V} calls s events command =
    let Gives : Stepped V → Type 0 = λ after. after.payload ≢ []
    → (after.status ≡ status.Ok) × ((state_of s ≡ state.Officer) ⊎ (state_of s ≡ state.User))
    × ((found : Service) × (service_numbered command.service ≡ Some found) × (class_of found ≡ class.Payload)) in
    by_order calls s events command Gives (λ _. dispatched_gives calls s events (service_numbered command.service) command.body)
    (λ number _ _. dispatched_gives calls (with_public s (sequence_taken s.shared.public)) events (service_numbered command.service) command.body)
    (λ number _ _ some. absurd (some refl))
