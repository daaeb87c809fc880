-- What refusals at the slots leave as it was.
use Rattle.std.proofs.Common.{◌≡◌, ◌≢◌, ◌⊎◌, ◌≤◌, ◌+◌, ℕ, List, [], ◌∷◌, Bool, true, false, Option, Some, None, length, refl, ap, ◌∙◌, arith, inl, inr, if◌then◌else◌}
use Rattle.std.specs.Prelude.{◌==◌, not, nat_le, bytes_eq}
use Rattle.bits_core.specs.declared.parameter.Kind.TheVariants as kinds
use Rattle.service_table.specs.declared.service.Service.TheVariants as service
use Rattle.service_table.specs.declared.status.Status.{Status}
use Rattle.service_table.specs.declared.status.Status.TheVariants as status
use Rattle.service_table.specs.Services.{is_approved}
use Rattle.ssp_slots.specs.declared.slot.Slot.{Slot}
use Rattle.ssp_slots.specs.declared.slot_fault.SlotFault.{SlotFault}
use Rattle.ssp_slots.specs.declared.slot_fault.SlotFault.TheVariants as fault
use Rattle.ssp_slots.specs.Refusals.{source_fault, vacancy_fault}
use Rattle.ssp_slots.specs.Slots.{parameter}
use Rattle.outside.specs.declared.traits.Sample.{Sample}
use Rattle.module_frames.specs.PublicState.{no_block}
use Rattle.module_frames.specs.Requests.{RequestValue, CryptographicRequest}
use Rattle.module_frames.specs.Requests as request
use Rattle.engine_core.specs.Calls.{Calls}
use Rattle.crypto_services.specs.AtSlots.{Answer, SlotResult, slot_at, with_slot_at, fault_status, on_slot, on_source, source_by, unless_fault, refusal, success}
use Rattle.crypto_services.specs.Services.{is_leftmost, verified, mac_at, mac_verify_at}
use Rattle.crypto_services.specs.Sealing.{opened, seal_at, seal_iv_at, open_at}
use Rattle.crypto_services.specs.Drawing.{generate_at}
use Rattle.crypto_services.proofs.Sourcing.{laid_back_at}
use Rattle.state_model.specs.declared.entry.Target.{Target}
use Rattle.state_model.specs.Commit.{unless, commit_at, check_value, entered}
use Rattle.state_model.specs.Entries.{with_piece, entry_length}
use Rattle.state_model.specs.MachineState.{MachineState}
use Rattle.state_model.specs.Management.{Stepped, refused, done, committed, test_step}
use Rattle.state_model.specs.Cryptographic.{Ready, service_at, served, cryptographic_step, slots_named}
use Rattle.state_model.specs.Laws.{RefusalsChangeNoSlot, FailuresChangeNoSlot}
use Rattle.state_model.specs.Step.{perform}
use Rattle.state_model.proofs.Readiness.{ready_cases}
use Rattle.state_model.proofs.TestSteps.{test_step_by}
use Rattle.state_model.proofs.Statuses.{OfSlots, service_status}
use Rattle.state_model.proofs.Steps.{by_request}

-- a service that isn't done, and finds no wrong tag, leaves its slot
abbrev StaysIfRefused : {V : Type 0} → Slot → SlotResult V → Type 0
StaysIfRefused slot result = result.answer.status ≢ status.Ok → result.answer.status ≢ status.AuthFailed → result.slot ≡ slot

-- under a key it is done, or a tag is wrong
abbrev IsUsed : Status → Type 0
IsUsed reason = (reason ≡ status.Ok) ⊎ (reason ≡ status.AuthFailed)

source_stays : {V : Type 0} (engine : V) (slot : Slot) (fault : Option SlotFault) (after : List ℕ → V) (answer : List ℕ → Answer) → ((key : List ℕ) → IsUsed (answer key).status)
    → StaysIfRefused slot (on_source engine (source_by slot fault) after answer)
source_stays engine slot None after answer used a b = elim (used (parameter slot)) [ inl ok ↦ absurd (a ok) | inr wrong ↦ absurd (b wrong) ]
source_stays engine slot (Some reason) after answer used a b = refl

tag_used : (right : Bool) (text : List ℕ) → IsUsed (if right then success text else refusal status.AuthFailed).status
tag_used true text = inl refl
tag_used false text = inr refl

fault_stays : {V : Type 0} (engine : V) (slot : Slot) (fault : Option SlotFault) (served : SlotResult V) → StaysIfRefused slot served → StaysIfRefused slot (unless_fault engine slot fault served)
fault_stays engine slot None served next = next
fault_stays engine slot (Some reason) served next = λ a b. refl

unless_stays : {V : Type 0} (engine : V) (slot : Slot) (applies : Bool) (reason : Status) (served : SlotResult V) → StaysIfRefused slot served → StaysIfRefused slot (unless engine slot applies reason served)
unless_stays engine slot true reason served next = λ a b. refl
unless_stays engine slot false reason served next = next

commit_stays : {V : Type 0} (calls : Calls V) (engine : V) (target : Target) (bytes check : List ℕ) (slot : Slot) → StaysIfRefused slot (commit_at calls engine target bytes check slot)
commit_stays calls engine target bytes check slot =
    unless_stays engine slot (not (length bytes == target.length)) status.BadLength _ (fault_stays engine slot (vacancy_fault slot.header) _
    (unless_stays _ slot (not (bytes_eq check (check_value calls engine target bytes))) status.CheckFailed _ (λ a b. absurd (a refl))))

-- and so all slots stay
all_stay : {V : Type 0} (slots : List Slot) (id : ℕ) (service : Slot → SlotResult V) → StaysIfRefused (slot_at slots id) (service (slot_at slots id))
    → (on_slot slots id service).answer.status ≢ status.Ok → (on_slot slots id service).answer.status ≢ status.AuthFailed → (on_slot slots id service).slots ≡ slots
all_stay slots id service stays a b = ap (λ (slot : Slot). with_slot_at slots id slot) (stays a b) ∙ laid_back_at slots id

two_slots : (first second : ℕ) → length (first ∷ second ∷ []) ≤ 1 → ⊥
two_slots first second few = omega (arith, few)

service_stays : {V : Type 0} (calls : Calls V) (engine : V) (drawn : List ℕ) (slots : List Slot) (what : CryptographicRequest) → length (slots_named what) ≤ 1
    → (service_at calls engine drawn slots what).answer.status ≢ status.Ok → (service_at calls engine drawn slots what).answer.status ≢ status.AuthFailed
    → (service_at calls engine drawn slots what).slots ≡ slots
service_stays calls engine drawn slots (request.Hash alg text) few a b = refl
service_stays calls engine drawn slots (request.Mac slot alg mac_length text) few a b =
    all_stay slots slot (mac_at calls engine alg mac_length text)
    (source_stays engine (slot_at slots slot) (source_fault (slot_at slots slot).header kinds.Mac (is_approved service.Mac mac_length)) _ _ (λ key. inl refl)) a b
service_stays calls engine drawn slots (request.MacVerify slot alg tag text) few a b =
    all_stay slots slot (mac_verify_at calls engine alg tag text)
    (source_stays engine (slot_at slots slot) (source_fault (slot_at slots slot).header kinds.Mac (is_approved service.MacVerify (length tag)))
    (λ key. calls.mac_after engine alg key text) (λ key. verified tag (calls.mac engine alg key text)) (λ key. tag_used (is_leftmost tag (calls.mac engine alg key text)) [])) a b
service_stays calls engine drawn slots (request.Seal slot tag_length aad text) few a b =
    all_stay slots slot (seal_at calls engine tag_length drawn aad text)
    (source_stays engine (slot_at slots slot) (source_fault (slot_at slots slot).header kinds.Aes (is_approved service.Seal 0)) _ _ (λ key. inl refl)) a b
service_stays calls engine drawn slots (request.SealIv slot tag_length iv aad text) few a b =
    all_stay slots slot (seal_iv_at calls engine tag_length iv aad text)
    (source_stays engine (slot_at slots slot) (source_fault (slot_at slots slot).header kinds.Aes (is_approved service.SealIv 0)) _ _ (λ key. inl refl)) a b
service_stays calls engine drawn slots (request.Open slot iv aad text tag) few a b =
    all_stay slots slot (open_at calls engine iv aad text tag)
    (source_stays engine (slot_at slots slot) (source_fault (slot_at slots slot).header kinds.Aes (is_approved service.Open 0))
    (λ key. calls.open_after engine key iv aad text tag) (λ key. opened (calls.open engine key iv aad text tag))
    (λ key. tag_used (calls.open engine key iv aad text tag).authentic (calls.open engine key iv aad text tag).text)) a b
service_stays calls engine drawn slots (request.Wrap pad kek second) few a b = absurd (two_slots kek second few)
service_stays calls engine drawn slots (request.Unwrap pad kek target kind export uses wrapped) few a b = absurd (two_slots kek target few)
service_stays calls engine drawn slots (request.Derive source target kind export uses long label context) few a b = absurd (two_slots source target few)
service_stays calls engine drawn slots (request.Random long additional) few a b = refl
service_stays calls engine drawn slots (request.Generate target header long) few a b =
    all_stay slots target (generate_at engine header drawn) (fault_stays engine (slot_at slots target) (vacancy_fault (slot_at slots target).header) _ (λ a b. absurd (a refl))) a b
service_stays calls engine drawn slots (request.Reseed additional) few a b = refl

-- nothing but what is done, or a wrong tag, changes a slot
abbrev Stays : {V : Type 0} → MachineState V → Stepped V → Type 0
Stays s after = after.status ≢ status.Ok → after.status ≢ status.AuthFailed → after.machine.slots ≡ s.slots

committed_stays : {V : Type 0} (calls : Calls V) (s : MachineState V) (target : Option Target) (check : List ℕ) → (committed calls s target check).answer.status ≢ status.Ok
    → (committed calls s target check).answer.status ≢ status.AuthFailed → (committed calls s target check).slots ≡ s.slots
committed_stays calls s None check a b = refl
committed_stays calls s (Some target) check a b =
    all_stay s.slots target.slot (commit_at calls s.shared.engine target (entered s.entry) check)
    (commit_stays calls s.shared.engine target (entered s.entry) check (slot_at s.slots target.slot)) a b

pub test_stays : {V : Type 0} (calls : Calls V) (s : MachineState V) (events : List Sample) → (test_step calls s events).machine.slots ≡ s.slots
test_stays {V} calls s events =
    let Kept : Stepped V → Type 0 = λ after. after.machine.slots ≡ s.slots in
    test_step_by calls s events Kept (λ tests engine generator samples left. refl) (λ reason tests engine generator samples left. refl) (λ reason tests engine generator samples left. refl)

cryptographic_stays : {V : Type 0} (calls : Calls V) (s : MachineState V) (events : List Sample) (what : CryptographicRequest) → length (slots_named what) ≤ 1 → Stays s (cryptographic_step calls s events what)
cryptographic_stays {V} calls s events what few =
    let Kept : Ready V → Type 0 = λ ready. Stays s (served calls s ready what) in
    ready_cases calls s.shared events what Kept (λ more engine generator samples drawn left. service_stays calls engine drawn s.slots what few) (λ test engine a b. refl)
    (λ fault more engine generator samples left a b. refl)

-- What refuses a request changes no slot, if it leaves those of a cryptographic one.
performed_stays : {V : Type 0} (calls : Calls V) (s : MachineState V) (events : List Sample) (what : RequestValue) (P : Status → Type 0)
    → ((reason : Status) → P reason → (reason ≢ status.Ok) × (reason ≢ status.AuthFailed))
    → ((made : CryptographicRequest) → what ≡ request.Cryptographic made → P (cryptographic_step calls s events made).status → (cryptographic_step calls s events made).machine.slots ≡ s.slots)
    → P (perform calls s events what).status → (perform calls s events what).machine.slots ≡ s.slots
performed_stays {V} calls s events (request.EntryBytes piece) P refuses made which = by_room (nat_le (s.entry.filled + length piece) (entry_length s.entry))
  where
    by_room : (fits : Bool) → (if fits then done (record s { entry = with_piece s.entry piece }) no_block events else refused s status.BadLength events).machine.slots ≡ s.slots
    by_room true = refl
    by_room false = refl
performed_stays calls s events (request.EntryCommit check) P refuses made which =
    let unused = refuses _ which in committed_stays calls s s.entry.target check unused.0 unused.1
performed_stays calls s events (request.Cryptographic what) P refuses made which = made what refl which
performed_stays calls s events (request.PowerOn period) P refuses made which = refl
performed_stays calls s events request.TestStep P refuses made which = test_stays calls s events
performed_stays calls s events request.RequestTests P refuses made which = refl
performed_stays calls s events request.ShowStatus P refuses made which = refl
performed_stays calls s events request.ShowVersion P refuses made which = refl
performed_stays calls s events (request.SelectRole role) P refuses made which = refl
performed_stays calls s events request.Reset P refuses made which = absurd ((refuses status.Ok which).0 refl)
performed_stays calls s events (request.EntryBegin slot header long) P refuses made which = refl
performed_stays calls s events request.EntryAbort P refuses made which = refl
performed_stays calls s events (request.Zeroise slot) P refuses made which = absurd ((refuses status.Ok which).0 refl)
performed_stays calls s events (request.ZeroiseTree slot) P refuses made which = absurd ((refuses status.Ok which).0 refl)
performed_stays calls s events request.ZeroiseAll P refuses made which = absurd ((refuses status.Ok which).0 refl)
performed_stays calls s events (request.ShowSlot slot) P refuses made which = refl

-- neither done, nor a wrong tag
abbrev IsUnused : Status → Type 0
IsUnused reason = (reason ≢ status.Ok) × (reason ≢ status.AuthFailed)

pub refusals_stay : {V : Type 0} (calls : Calls V) → RefusalsChangeNoSlot calls
refusals_stay {V} calls s events command few a b =
    let Kept : Stepped V → Type 0 = λ after. IsUnused after.status → after.machine.slots ≡ s.slots in
    by_request calls s events command Kept (λ t same reason barred unused. ap (λ v. v.slots) same)
    (λ t same what is unused. performed_stays calls t events what IsUnused (λ reason unused. unused)
    (λ made is' unused. cryptographic_stays calls t events made (few made (is ∙ ap (λ w. Some w) is')) unused.0 unused.1) unused ∙ ap (λ v. v.slots) same) (λ unused. refl) (a, b)

-- a test or the noise failed
abbrev IsFailed : Status → Type 0
IsFailed reason = (reason ≡ status.TestFailed) ⊎ (reason ≡ status.NoiseFault)

not_failed : (reason : Status) → reason ≢ status.TestFailed → reason ≢ status.NoiseFault → IsFailed reason → ⊥
not_failed reason a b failed = elim failed [ inl x ↦ a x | inr y ↦ b y ]

fault_not_failed : (reason : SlotFault) → IsFailed (fault_status reason) → ⊥
fault_not_failed fault.EmptySlot = not_failed status.EmptySlot (λ e. cc) (λ e. cc)
fault_not_failed fault.WrongKind = not_failed status.WrongKind (λ e. cc) (λ e. cc)
fault_not_failed fault.WrongDomain = not_failed status.WrongDomain (λ e. cc) (λ e. cc)
fault_not_failed fault.Spent = not_failed status.Spent (λ e. cc) (λ e. cc)
fault_not_failed fault.OccupiedSlot = not_failed status.OccupiedSlot (λ e. cc) (λ e. cc)
fault_not_failed fault.NotExportable = not_failed status.NotExportable (λ e. cc) (λ e. cc)

-- nothing fails at the slots
never_failed : OfSlots (λ reason. IsFailed reason → ⊥)
never_failed = record {
  ok = not_failed status.Ok (λ e. cc) (λ e. cc);
  bad_length = not_failed status.BadLength (λ e. cc) (λ e. cc);
  auth_failed = not_failed status.AuthFailed (λ e. cc) (λ e. cc);
  unwrap_failed = not_failed status.UnwrapFailed (λ e. cc) (λ e. cc);
  by_slot = fault_not_failed;
}

failed_is_unused : (reason : Status) → IsFailed reason → IsUnused reason
failed_is_unused reason failed = elim failed [ inl x ↦ (λ ok. cc, λ wrong. cc) | inr y ↦ (λ ok. cc, λ wrong. cc) ]

step_failed : {V : Type 0} (calls : Calls V) (s : MachineState V) (events : List Sample) (what : CryptographicRequest) → IsFailed (cryptographic_step calls s events what).status
    → (cryptographic_step calls s events what).machine.slots ≡ s.slots
step_failed {V} calls s events what =
    let Kept : Ready V → Type 0 = λ ready. IsFailed (served calls s ready what).status → (served calls s ready what).machine.slots ≡ s.slots in
    ready_cases calls s.shared events what Kept
    (λ more engine generator samples drawn left failed. absurd (service_status (λ reason. IsFailed reason → ⊥) never_failed calls engine drawn s.slots what failed)) (λ test engine failed. refl)
    (λ fault more engine generator samples left failed. refl)

pub failures_stay : {V : Type 0} (calls : Calls V) → FailuresChangeNoSlot calls
failures_stay {V} calls s events command =
    let Kept : Stepped V → Type 0 = λ after. IsFailed after.status → after.machine.slots ≡ s.slots in
    by_request calls s events command Kept (λ t same reason barred failed. ap (λ v. v.slots) same)
    (λ t same what is failed. performed_stays calls t events what IsFailed failed_is_unused (λ made is' failed. step_failed calls t events made failed) failed ∙ ap (λ v. v.slots) same)
    (λ failed. refl)
