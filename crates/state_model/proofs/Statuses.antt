-- What is left of the events of noise, which statuses there are, and what the indicator is where nothing was done.
use Rattle.std.proofs.Common.{◌≡◌, ◌≢◌, ◌⊎◌, ◌+◌, ℕ, List, [], Bool, true, false, Option, Some, None, length, take, refl, inl, inr, if◌then◌else◌}
use Rattle.std.specs.Prelude.{◌==◌, nat_le, not, bytes_eq}
use Rattle.service_table.specs.declared.service.Service.{Service}
use Rattle.service_table.specs.declared.service.Service.TheVariants as service
use Rattle.service_table.specs.declared.status.Status.{Status}
use Rattle.service_table.specs.declared.status.Status.TheVariants as status
use Rattle.service_table.specs.Services.{is_permitted, is_cryptographic, is_approved, wrapping_service, unwrapping_service}
use Rattle.bits_core.specs.Parameters.{length_fits}
use Rattle.bits_core.specs.declared.parameter.Domain.{Domain}
use Rattle.bits_core.specs.declared.parameter.Header.{Header}
use Rattle.bits_core.specs.declared.parameter.Kind.TheVariants as kind
use Rattle.ssp_slots.specs.declared.slot.Slot.{Slot}
use Rattle.ssp_slots.specs.declared.slot_fault.SlotFault.{SlotFault}
use Rattle.ssp_slots.specs.declared.slot_fault.SlotFault.TheVariants as fault
use Rattle.ssp_slots.specs.Refusals.{source_fault, vacancy_fault, export_fault}
use Rattle.ssp_slots.specs.Slots.{parameter}
use Rattle.outside.specs.declared.traits.Sample.{Sample}
use Rattle.module_frames.specs.PublicState.{no_block}
use Rattle.module_frames.specs.Requests.{RequestValue, CryptographicRequest, service_for, cryptographic_service_for, request_of, IsInRange, IsCryptographicInRange}
use Rattle.module_frames.specs.Requests as request
use Rattle.engine_core.specs.Calls.{Calls}
use Rattle.engine_core.specs.Results.{Opened}
use Rattle.crypto_services.specs.AtSlots.{Answer, SlotResult, slot_at, fault_status, source_by, on_source, second_under, unless_fault, refused_at, filled_at, refusal, success}
use Rattle.crypto_services.specs.Services.{is_leftmost, verified}
use Rattle.crypto_services.specs.Sealing.{opened}
use Rattle.crypto_services.specs.Wrapping.{wrap_at, unwrap_at, is_wrappable, wrapping_in, filled_if_fits, filled_by_unwrapping}
use Rattle.crypto_services.specs.Derivation.{derive_at}
use Rattle.crypto_services.specs.Indicator.{is_ok}
use Rattle.state_model.specs.declared.entry.Target.{Target}
use Rattle.state_model.specs.Commit.{unless, check_value, entered}
use Rattle.state_model.specs.Entries.{with_piece, entry_length}
use Rattle.state_model.specs.MachineState.{MachineState, state_of}
use Rattle.state_model.specs.Management.{Stepped, refused, done, committed, test_step}
use Rattle.state_model.specs.Cryptographic.{Ready, service_at, served, cryptographic_step}
use Rattle.state_model.specs.Step.{dispatch, dispatch_request, perform, indicated}
use Rattle.state_model.proofs.Readiness.{ready_cases}
use Rattle.state_model.proofs.TestSteps.{test_step_by}

-- a cryptographic request is for a cryptographic service
is_cryptographic_use : (what : CryptographicRequest) → is_cryptographic (cryptographic_service_for what) ≡ true
is_cryptographic_use (request.Hash alg text) = refl
is_cryptographic_use (request.Mac slot alg mac_length text) = refl
is_cryptographic_use (request.MacVerify slot alg tag text) = refl
is_cryptographic_use (request.Seal slot tag_length aad text) = refl
is_cryptographic_use (request.SealIv slot tag_length iv aad text) = refl
is_cryptographic_use (request.Open slot iv aad text tag) = refl
is_cryptographic_use (request.Wrap true kek second) = refl
is_cryptographic_use (request.Wrap false kek second) = refl
is_cryptographic_use (request.Unwrap true kek target kind export uses wrapped) = refl
is_cryptographic_use (request.Unwrap false kek target kind export uses wrapped) = refl
is_cryptographic_use (request.Derive source target kind export uses long label context) = refl
is_cryptographic_use (request.Random long additional) = refl
is_cryptographic_use (request.Generate target header long) = refl
is_cryptographic_use (request.Reseed additional) = refl

is_no_management : (what : CryptographicRequest) → is_cryptographic (cryptographic_service_for what) ≢ false
is_no_management what = λ managed. let used = is_cryptographic_use what in cc

-- no service but TestStep and the cryptographic ones takes an event of noise
pub perform_left : {V : Type 0} (calls : Calls V) (s : MachineState V) (events : List Sample) (what : RequestValue) → what ≢ request.TestStep → is_cryptographic (service_for what) ≡ false
    → (perform calls s events what).left ≡ events
perform_left calls s events (request.EntryBytes piece) other managed = by_room (nat_le (s.entry.filled + length piece) (entry_length s.entry))
  where
    by_room : (fits : Bool) → (if fits then done (record s { entry = with_piece s.entry piece }) no_block events else refused s status.BadLength events).left ≡ events
    by_room true = refl
    by_room false = refl
perform_left calls s events (request.PowerOn period) other managed = refl
perform_left calls s events request.TestStep other managed = absurd (other refl)
perform_left calls s events request.RequestTests other managed = refl
perform_left calls s events request.ShowStatus other managed = refl
perform_left calls s events request.ShowVersion other managed = refl
perform_left calls s events (request.SelectRole role) other managed = refl
perform_left calls s events request.Reset other managed = refl
perform_left calls s events (request.EntryBegin slot header long) other managed = refl
perform_left calls s events (request.EntryCommit check) other managed = refl
perform_left calls s events request.EntryAbort other managed = refl
perform_left calls s events (request.Zeroise slot) other managed = refl
perform_left calls s events (request.ZeroiseTree slot) other managed = refl
perform_left calls s events request.ZeroiseAll other managed = refl
perform_left calls s events (request.ShowSlot slot) other managed = refl
perform_left calls s events (request.Cryptographic what) other managed = absurd (is_no_management what managed)

-- What holds of each status that a cryptographic service may answer at the slots.
pub record OfSlots (P : Status → Type 0) : Type 0 where
  pub ok : P status.Ok
  pub bad_length : P status.BadLength
  pub auth_failed : P status.AuthFailed
  pub unwrap_failed : P status.UnwrapFailed
  pub by_slot : (why : SlotFault) → P (fault_status why)

-- What holds of each status that a service may answer.
pub record OfServices (P : Status → Type 0) : Type 0 where
  pub ok : P status.Ok
  pub test_failed : P status.TestFailed
  pub bad_length : P status.BadLength
  pub check_failed : P status.CheckFailed
  pub auth_failed : P status.AuthFailed
  pub unwrap_failed : P status.UnwrapFailed
  pub by_slot : (why : SlotFault) → P (fault_status why)

at_slots_too : (P : Status → Type 0) → OfServices P → OfSlots P
at_slots_too P of = record { ok = of.ok; bad_length = of.bad_length; auth_failed = of.auth_failed; unwrap_failed = of.unwrap_failed; by_slot = of.by_slot }

source_status : {V : Type 0} (P : Status → Type 0) → OfSlots P → (engine : V) (slot : Slot) (fault : Option SlotFault) (after : List ℕ → V) (answer : List ℕ → Answer)
    → ((key : List ℕ) → P (answer key).status) → P (on_source engine (source_by slot fault) after answer).answer.status
source_status P of engine slot None after answer right = right _
source_status P of engine slot (Some why) after answer right = of.by_slot why

verified_status : (P : Status → Type 0) → OfSlots P → (right : Bool) → P (if right then success [] else refusal status.AuthFailed).status
verified_status P of true = of.ok
verified_status P of false = of.auth_failed

unless_status : {V : Type 0} (P : Status → Type 0) (engine : V) (slot : Slot) (applies : Bool) (why : Status) (served : SlotResult V) → P why → P served.answer.status
    → P (unless engine slot applies why served).answer.status
unless_status P engine slot true why served refusal' next = refusal'
unless_status P engine slot false why served refusal' next = next

fault_or_status : {V : Type 0} (P : Status → Type 0) → OfSlots P → (engine : V) (slot : Slot) (fault : Option SlotFault) (served : SlotResult V) → P served.answer.status
    → P (unless_fault engine slot fault served).answer.status
fault_or_status P of engine slot None served next = next
fault_or_status P of engine slot (Some why) served next = of.by_slot why

opened_status : (P : Status → Type 0) → OfSlots P → (result : Opened) → P (opened result).status
opened_status P of result = by (λ right. P (if right then success result.text else refusal status.AuthFailed).status) result.authentic of.ok of.auth_failed
  where
    by : (Q : Bool → Type 0) → (right : Bool) → Q true → Q false → Q right
    by Q true yes' no' = yes'
    by Q false yes' no' = no'

second_status : {V : Type 0} (P : Status → Type 0) → OfSlots P → (engine : V) (slots : List Slot) (second : ℕ) (slot : Slot) (fault : Option SlotFault) (service : List ℕ → Domain → Slot → SlotResult V)
    → ((key : List ℕ) (domain : Domain) (slot : Slot) → P (service key domain slot).answer.status)
    → (let sourced = source_by slot fault in P (second_under engine slots second sourced sourced.refused service).answer.status)
second_status P of engine slots second slot None service right = right _ _ _
second_status P of engine slots second slot (Some reason) service right = of.by_slot reason

wrap_status : {V : Type 0} (P : Status → Type 0) → OfSlots P → (calls : Calls V) (engine : V) (pad : Bool) (key : List ℕ) (domain : Domain) (slot : Slot) → P (wrap_at calls engine pad key domain slot).answer.status
wrap_status {V} P of calls engine pad key domain slot = fault_or_status P of engine slot (export_fault slot.header domain) _ (by_length (is_wrappable pad slot.length))
  where
    by_length : (good : Bool) → (let wrapped : SlotResult V = record {
      engine = calls.wrap_after engine pad key (parameter slot);
      slot = slot;
      answer = success (wrapping_in (calls.wrap engine pad key (parameter slot)));
    } in P (if good then wrapped else refused_at engine slot status.BadLength).answer.status)
    by_length true = of.ok
    by_length false = of.bad_length

filled_status : {V : Type 0} (P : Status → Type 0) → OfSlots P → (engine : V) (slot : Slot) (header : Header) (bytes : List ℕ) → P (filled_if_fits engine slot header bytes).answer.status
filled_status P of engine slot header bytes = by_length (length_fits header.kind header.domain (length bytes))
  where
    by_length : (fits : Bool) → P (if fits then filled_at engine header bytes else refused_at engine slot status.BadLength).answer.status
    by_length true = of.ok
    by_length false = of.bad_length

unwrapped_status : {V : Type 0} (P : Status → Type 0) → OfSlots P → (engine : V) (slot : Slot) (header : Header) (buf : List ℕ) (size : Option ℕ) → P (filled_by_unwrapping engine slot header buf size).answer.status
unwrapped_status P of engine slot header buf None = of.unwrap_failed
unwrapped_status P of engine slot header buf (Some size) = filled_status P of engine slot header (take size buf)

pub service_status : {V : Type 0} (P : Status → Type 0) → OfSlots P → (calls : Calls V) (engine : V) (drawn : List ℕ) (slots : List Slot) (what : CryptographicRequest)
    → P (service_at calls engine drawn slots what).answer.status
service_status P of calls engine drawn slots (request.Hash alg text) = of.ok
service_status P of calls engine drawn slots (request.Mac slot alg mac_length text) =
    source_status P of engine (slot_at slots slot) (source_fault (slot_at slots slot).header kind.Mac (is_approved service.Mac mac_length))
    (λ key. calls.mac_after engine alg key text) (λ key. success (take mac_length (calls.mac engine alg key text))) (λ key. of.ok)
service_status P of calls engine drawn slots (request.MacVerify slot alg tag text) =
    source_status P of engine (slot_at slots slot) (source_fault (slot_at slots slot).header kind.Mac (is_approved service.MacVerify (length tag)))
    (λ key. calls.mac_after engine alg key text) (λ key. verified tag (calls.mac engine alg key text)) (λ key. verified_status P of (is_leftmost tag (calls.mac engine alg key text)))
service_status P of calls engine drawn slots (request.Seal slot tag_length aad text) =
    source_status P of engine (slot_at slots slot) (source_fault (slot_at slots slot).header kind.Aes (is_approved service.Seal 0)) _ _ (λ key. of.ok)
service_status P of calls engine drawn slots (request.SealIv slot tag_length iv aad text) =
    source_status P of engine (slot_at slots slot) (source_fault (slot_at slots slot).header kind.Aes (is_approved service.SealIv 0)) _ _ (λ key. of.ok)
service_status P of calls engine drawn slots (request.Open slot iv aad text tag) =
    source_status P of engine (slot_at slots slot) (source_fault (slot_at slots slot).header kind.Aes (is_approved service.Open 0)) _ (λ key. opened (calls.open engine key iv aad text tag))
    (λ key. opened_status P of (calls.open engine key iv aad text tag))
service_status P of calls engine drawn slots (request.Wrap pad kek second) =
    second_status P of engine _ second (slot_at slots kek) (source_fault (slot_at slots kek).header kind.Kek (is_approved (wrapping_service pad) 0)) (wrap_at calls engine pad)
    (λ key domain slot. wrap_status P of calls engine pad key domain slot)
service_status P of calls engine drawn slots (request.Unwrap pad kek target kind' export uses wrapped) =
    second_status P of engine _ target (slot_at slots kek) (source_fault (slot_at slots kek).header kind.Kek (is_approved (unwrapping_service pad) 0)) (unwrap_at calls engine pad kind' export uses wrapped)
    (λ key domain slot. fault_or_status P of engine slot (vacancy_fault slot.header) _ (unwrapped_status P of _ slot _ _ (calls.unwrap engine pad key wrapped).size))
service_status P of calls engine drawn slots (request.Derive source target kind' export uses long label context) =
    second_status P of engine _ target (slot_at slots source) (source_fault (slot_at slots source).header kind.Kdf (is_approved service.Derive 0)) (derive_at calls engine kind' export uses long label context)
    (λ key domain slot. fault_or_status P of engine slot (vacancy_fault slot.header) _ of.ok)
service_status P of calls engine drawn slots (request.Random long additional) = of.ok
service_status P of calls engine drawn slots (request.Generate target header long) = fault_or_status P of engine (slot_at slots target) (vacancy_fault (slot_at slots target).header) _ of.ok
service_status P of calls engine drawn slots (request.Reseed additional) = of.ok

committed_status : {V : Type 0} (P : Status → Type 0) → OfServices P → (calls : Calls V) (s : MachineState V) (target : Option Target) (check : List ℕ) → P (committed calls s target check).answer.status
committed_status P of calls s None check = of.bad_length
committed_status P of calls s (Some target) check =
    unless_status P _ _ (not (length (entered s.entry) == target.length)) status.BadLength _ of.bad_length
    (fault_or_status P (at_slots_too P of) _ _ (vacancy_fault (slot_at s.slots target.slot).header) _
    (unless_status P _ _ (not (bytes_eq check (check_value calls s.shared.engine target (entered s.entry)))) status.CheckFailed _ of.check_failed of.ok))

test_status : {V : Type 0} (P : Status → Type 0) → OfServices P → P status.NoiseFault → (calls : Calls V) (s : MachineState V) (events : List Sample) → P (test_step calls s events).status
test_status {V} P of noise calls s events =
    let Answered : Stepped V → Type 0 = λ after. P after.status in
    test_step_by calls s events Answered (λ tests engine generator samples left. of.ok) (λ why tests engine generator samples left. of.test_failed)
    (λ why tests engine generator samples left. noise)

cryptographic_status : {V : Type 0} (P : Status → Type 0) → OfServices P → P status.NoiseFault → (calls : Calls V) (s : MachineState V) (events : List Sample) (what : CryptographicRequest)
    → P (cryptographic_step calls s events what).status
cryptographic_status {V} P of noise calls s events what =
    let Answered : Ready V → Type 0 = λ ready. P (served calls s ready what).status in
    ready_cases calls s.shared events what Answered (λ more engine generator samples drawn left. service_status P (at_slots_too P of) calls engine drawn s.slots what) (λ test engine. of.test_failed)
    (λ fault more engine generator samples left. noise)

-- TestStep and cryptographic services alone may meet a fault of noise
abbrev pub TakesNoise : RequestValue → Type 0
TakesNoise what = (what ≡ request.TestStep) ⊎ (is_cryptographic (service_for what) ≡ true)

-- so it holds of the status of each request that is performed
pub performed_status : {V : Type 0} (P : Status → Type 0) → OfServices P → (calls : Calls V) (s : MachineState V) (events : List Sample) (what : RequestValue) → (TakesNoise what → P status.NoiseFault)
    → P (perform calls s events what).status
performed_status P of calls s events (request.EntryBytes piece) noise = by_room (nat_le (s.entry.filled + length piece) (entry_length s.entry))
  where
    by_room : (fits : Bool) → P (if fits then done (record s { entry = with_piece s.entry piece }) no_block events else refused s status.BadLength events).status
    by_room true = of.ok
    by_room false = of.bad_length
performed_status P of calls s events (request.EntryCommit check) noise = committed_status P of calls s s.entry.target check
performed_status P of calls s events (request.Cryptographic what) noise = cryptographic_status P of (noise (inr (is_cryptographic_use what))) calls s events what
performed_status P of calls s events (request.PowerOn period) noise = of.ok
performed_status P of calls s events request.TestStep noise = test_status P of (noise (inl refl)) calls s events
performed_status P of calls s events request.RequestTests noise = of.ok
performed_status P of calls s events request.ShowStatus noise = of.ok
performed_status P of calls s events request.ShowVersion noise = of.ok
performed_status P of calls s events (request.SelectRole role) noise = of.ok
performed_status P of calls s events request.Reset noise = of.ok
performed_status P of calls s events (request.EntryBegin slot header long) noise = of.ok
performed_status P of calls s events request.EntryAbort noise = of.ok
performed_status P of calls s events (request.Zeroise slot) noise = of.ok
performed_status P of calls s events (request.ZeroiseTree slot) noise = of.ok
performed_status P of calls s events request.ZeroiseAll noise = of.ok
performed_status P of calls s events (request.ShowSlot slot) noise = of.ok

-- what a slot refuses is no fault of noise
fault_is_none : (why : SlotFault) → fault_status why ≢ status.NoiseFault
fault_is_none fault.EmptySlot = λ e. cc
fault_is_none fault.WrongKind = λ e. cc
fault_is_none fault.WrongDomain = λ e. cc
fault_is_none fault.Spent = λ e. cc
fault_is_none fault.OccupiedSlot = λ e. cc
fault_is_none fault.NotExportable = λ e. cc

pub no_noise_fault : {V : Type 0} (calls : Calls V) (s : MachineState V) (events : List Sample) (what : RequestValue) → what ≢ request.TestStep → is_cryptographic (service_for what) ≡ false
    → (perform calls s events what).status ≢ status.NoiseFault
no_noise_fault calls s events what other managed = performed_status (λ why. why ≢ status.NoiseFault)
    (record { ok = λ e. cc; test_failed = λ e. cc; bad_length = λ e. cc; check_failed = λ e. cc; auth_failed = λ e. cc; unwrap_failed = λ e. cc; by_slot = fault_is_none })
    calls s events what (λ takes. elim takes [ inl is ↦ absurd (other is) | inr is ↦ cc ])

requested_status : {V : Type 0} (P : Status → Type 0) → OfServices P → P status.NoiseFault → P status.BadBody → (calls : Calls V) (s : MachineState V) (events : List Sample) (read : Option RequestValue)
    → P (dispatch_request calls s events read).status
requested_status P of noise bad calls s events None = bad
requested_status P of noise bad calls s events (Some what) = performed_status P of calls s events what (λ is. noise)

choice_status : {V : Type 0} (P : Status → Type 0) → OfServices P → P status.NoiseFault → P status.NotInState → P status.BadBody → (calls : Calls V) (s : MachineState V) (events : List Sample) (allowed : Bool)
    (read : Option RequestValue) → P (if allowed then dispatch_request calls s events read else refused s status.NotInState events).status
choice_status P of noise barred bad calls s events true read = requested_status P of noise bad calls s events read
choice_status P of noise barred bad calls s events false read = barred

-- so it holds of the status of each command in its order, where it holds of the refusals that come first
pub dispatched_status : {V : Type 0} (P : Status → Type 0) → OfServices P → P status.NoiseFault → P status.UnknownService → P status.NotInState → P status.BadBody
    → (calls : Calls V) (s : MachineState V) (events : List Sample) (found : Option Service) (body : List ℕ) → P (dispatch calls s events found body).status
dispatched_status P of noise unknown barred bad calls s events None body = unknown
dispatched_status P of noise unknown barred bad calls s events (Some found) body =
    choice_status P of noise barred bad calls s events (is_permitted found (state_of s)) (request_of found body)

-- a command that comes in its order isn't answered as one that doesn't
fault_is_in_order : (why : SlotFault) → fault_status why ≢ status.OutOfOrder
fault_is_in_order fault.EmptySlot = λ e. cc
fault_is_in_order fault.WrongKind = λ e. cc
fault_is_in_order fault.WrongDomain = λ e. cc
fault_is_in_order fault.Spent = λ e. cc
fault_is_in_order fault.OccupiedSlot = λ e. cc
fault_is_in_order fault.NotExportable = λ e. cc

of_order : OfServices (λ why. why ≢ status.OutOfOrder)
of_order = record { ok = λ e. cc; test_failed = λ e. cc; bad_length = λ e. cc; check_failed = λ e. cc; auth_failed = λ e. cc; unwrap_failed = λ e. cc; by_slot = fault_is_in_order }

pub dispatched_in_order : {V : Type 0} (calls : Calls V) (s : MachineState V) (events : List Sample) (found : Option Service) (body : List ℕ) → (dispatch calls s events found body).status ≢ status.OutOfOrder
dispatched_in_order calls s events found body = dispatched_status (λ why. why ≢ status.OutOfOrder) of_order (λ e. cc) (λ e. cc) (λ e. cc) (λ e. cc) calls s events found body

-- a request for a cryptographic service is one
pub cryptographic_request : (what : RequestValue) → is_cryptographic (service_for what) ≡ true → IsInRange what
    → (asked : CryptographicRequest) × (what ≡ request.Cryptographic asked) × IsCryptographicInRange asked
cryptographic_request (request.Cryptographic asked) is range = (asked, refl, range)
cryptographic_request (request.PowerOn period) is range = cc
cryptographic_request request.TestStep is range = cc
cryptographic_request request.RequestTests is range = cc
cryptographic_request request.ShowStatus is range = cc
cryptographic_request request.ShowVersion is range = cc
cryptographic_request (request.SelectRole role) is range = cc
cryptographic_request request.Reset is range = cc
cryptographic_request (request.EntryBegin slot header long) is range = cc
cryptographic_request (request.EntryBytes piece) is range = cc
cryptographic_request (request.EntryCommit check) is range = cc
cryptographic_request request.EntryAbort is range = cc
cryptographic_request (request.Zeroise slot) is range = cc
cryptographic_request (request.ZeroiseTree slot) is range = cc
cryptographic_request request.ZeroiseAll is range = cc
cryptographic_request (request.ShowSlot slot) is range = cc

-- what wasn't done is no approved use
pub not_indicated : (read : Option RequestValue) (why : Status) (slots : List Slot) → is_ok why ≡ false → indicated read why slots ≡ false
not_indicated None why slots h = refl
not_indicated (Some (request.Cryptographic what)) why slots h = rw h refl
not_indicated (Some (request.PowerOn period)) why slots h = refl
not_indicated (Some request.TestStep) why slots h = refl
not_indicated (Some request.RequestTests) why slots h = refl
not_indicated (Some request.ShowStatus) why slots h = refl
not_indicated (Some request.ShowVersion) why slots h = refl
not_indicated (Some (request.SelectRole role)) why slots h = refl
not_indicated (Some request.Reset) why slots h = refl
not_indicated (Some (request.EntryBegin slot header long)) why slots h = refl
not_indicated (Some (request.EntryBytes piece)) why slots h = refl
not_indicated (Some (request.EntryCommit check)) why slots h = refl
not_indicated (Some request.EntryAbort) why slots h = refl
not_indicated (Some (request.Zeroise slot)) why slots h = refl
not_indicated (Some (request.ZeroiseTree slot)) why slots h = refl
not_indicated (Some request.ZeroiseAll) why slots h = refl
not_indicated (Some (request.ShowSlot slot)) why slots h = refl
