-- What a refusal spends: one use of the first slot, where that wasn't refused.
use Rattle.std.proofs.Common.{◌≡◌, ◌≢◌, ℕ, List, [], ◌∷◌, Bool, true, false, Option, Some, None, length, take, refl, sym, ap, subst, ◌∙◌, inl, inr, if◌then◌else◌}
use Rattle.bits_core.specs.Parameters.{length_fits}
use Rattle.bits_core.specs.declared.parameter.Domain.{Domain}
use Rattle.bits_core.specs.declared.parameter.Header.{Header}
use Rattle.bits_core.specs.declared.parameter.Kind.TheVariants as kinds
use Rattle.service_table.specs.declared.service.Service.TheVariants as service
use Rattle.service_table.specs.declared.status.Status.{Status}
use Rattle.service_table.specs.declared.status.Status.TheVariants as status
use Rattle.service_table.specs.Services.{is_approved, wrapping_service, unwrapping_service}
use Rattle.service_table.specs.Answers.{is_status_among}
use Rattle.ssp_slots.specs.declared.slot.Slot.{Slot}
use Rattle.ssp_slots.specs.declared.slot_fault.SlotFault.{SlotFault}
use Rattle.ssp_slots.specs.declared.slot_fault.SlotFault.TheVariants as fault
use Rattle.ssp_slots.specs.Refusals.{source_fault, vacancy_fault, export_fault}
use Rattle.ssp_slots.specs.Slots.{spent_slot}
use Rattle.outside.specs.declared.traits.Sample.{Sample}
use Rattle.module_frames.specs.Requests.{RequestValue, CryptographicRequest}
use Rattle.module_frames.specs.Requests as request
use Rattle.engine_core.specs.Calls.{Calls}
use Rattle.crypto_services.specs.AtSlots.{Answer, SlotResult, slot_at, with_slot_at, fault_status, on_source, source_by, second_under, unless_fault, filled_at}
use Rattle.crypto_services.specs.Wrapping.{wrap_at, unwrap_at, is_wrappable, filled_by_unwrapping}
use Rattle.crypto_services.specs.Derivation.{derive_at}
use Rattle.crypto_services.proofs.Sourcing.{laid_back_at}
use Rattle.state_model.specs.MachineState.{MachineState, vault_of}
use Rattle.state_model.specs.Management.{Stepped, refused}
use Rattle.state_model.specs.Cryptographic.{Ready, service_at, served, cryptographic_step, slots_named, key_fault}
use Rattle.state_model.specs.Laws.{IsRefusedAtOnce, slot_refusals, IsRefusedAtSlots, spent_unless, RefusalsSpendOneUse, WrongTagsSpendOneUse}
use Rattle.state_model.specs.Step.{perform}
use Rattle.state_model.proofs.Readiness.{ready_cases}
use Rattle.state_model.proofs.Steps.{by_request, same_request}

-- what is refused at the slots is neither done nor refused at once
done_is_unrefused : IsRefusedAtSlots status.Ok → ⊥
done_is_unrefused which = cc

barred_is_not_at_slots : (reason : Status) → IsRefusedAtOnce reason → IsRefusedAtSlots reason → ⊥
barred_is_not_at_slots reason barred which =
    let at : (known : Status) → reason ≡ known → IsRefusedAtSlots known = λ known is. subst IsRefusedAtSlots is which in
    elim barred [ inl x ↦ not_known status.UnknownService (at status.UnknownService x) refl | inr y ↦ (elim y [ inl z ↦ not_known status.NotInState (at status.NotInState z) refl | inr w ↦ not_known status.BadBody (at status.BadBody w) refl ]) ]
  where
    not_known : (known : Status) → IsRefusedAtSlots known → is_status_among slot_refusals known ≡ false → ⊥
    not_known known is is_not = cc

-- a service that is refused leaves its slot
abbrev LeavesIfRefused : {V : Type 0} → Slot → SlotResult V → Type 0
LeavesIfRefused slot result = IsRefusedAtSlots result.answer.status → result.slot ≡ slot

fault_leaves : {V : Type 0} (engine : V) (slot : Slot) (fault : Option SlotFault) (served : SlotResult V) → LeavesIfRefused slot served → LeavesIfRefused slot (unless_fault engine slot fault served)
fault_leaves engine slot None served next = next
fault_leaves engine slot (Some reason) served next = λ which. refl

either_leaves : {V : Type 0} (slot : Slot) (good : Bool) (served refused : SlotResult V) → LeavesIfRefused slot served → LeavesIfRefused slot refused → LeavesIfRefused slot (if good then served else refused)
either_leaves slot true served refused a b = a
either_leaves slot false served refused a b = b

wrap_leaves : {V : Type 0} (calls : Calls V) (engine : V) (pad : Bool) (key : List ℕ) (domain : Domain) (slot : Slot) → LeavesIfRefused slot (wrap_at calls engine pad key domain slot)
wrap_leaves calls engine pad key domain slot =
    fault_leaves engine slot (export_fault slot.header domain) _ (either_leaves slot (is_wrappable pad slot.length) _ _ (λ which. refl) (λ which. refl))

unwrapped_leaves : {V : Type 0} (engine : V) (slot : Slot) (header : Header) (buf : List ℕ) (size : Option ℕ) → LeavesIfRefused slot (filled_by_unwrapping engine slot header buf size)
unwrapped_leaves engine slot header buf None = λ which. refl
unwrapped_leaves engine slot header buf (Some size) =
    either_leaves slot (length_fits header.kind header.domain (length (take size buf))) _ _ (λ which. absurd (done_is_unrefused which)) (λ which. refl)

-- a second slot that refuses changes nothing but that a use of the first is spent
second_spends : {V : Type 0} (engine : V) (slots : List Slot) (first second : ℕ) (fault : Option SlotFault) (service : List ℕ → Domain → Slot → SlotResult V)
    → ((key : List ℕ) (domain : Domain) (slot : Slot) → LeavesIfRefused slot (service key domain slot))
    → (let sourced = source_by (slot_at slots first) fault in let result = second_under engine (with_slot_at slots first sourced.slot) second sourced sourced.refused service in
    IsRefusedAtSlots result.answer.status → result.slots ≡ spent_unless fault slots first)
second_spends engine slots first second None service leaves which =
    let sourced = source_by (slot_at slots first) None in let laid = with_slot_at slots first sourced.slot in
    ap (λ (slot : Slot). with_slot_at laid second slot) (leaves sourced.key sourced.domain (slot_at laid second) which) ∙ laid_back_at laid second
second_spends engine slots first second (Some reason) service leaves which = laid_back_at slots first

first_of : (a b c d : ℕ) → a ∷ b ∷ [] ≡ c ∷ d ∷ [] → a ≡ c
first_of a b c d is = cc

only_of : (a b : ℕ) → a ∷ [] ≡ b ∷ [] → a ≡ b
only_of a b is = cc

-- the slots after a refusal of a request, whose key is in the first that it names
abbrev LeavesFor : CryptographicRequest → List Slot → List Slot → ℕ → Type 0
LeavesFor what before after first = after ≡ spent_unless (key_fault what (slot_at before first)) before first

service_spends : {V : Type 0} (calls : Calls V) (engine : V) (drawn : List ℕ) (slots : List Slot) (what : CryptographicRequest) (first second : ℕ) → slots_named what ≡ first ∷ second ∷ []
    → IsRefusedAtSlots (service_at calls engine drawn slots what).answer.status → LeavesFor what slots (service_at calls engine drawn slots what).slots first
service_spends calls engine drawn slots (request.Hash alg text) first second named which = cc
service_spends calls engine drawn slots (request.Mac slot alg mac_length text) first second named which = cc
service_spends calls engine drawn slots (request.MacVerify slot alg tag text) first second named which = cc
service_spends calls engine drawn slots (request.Seal slot tag_length aad text) first second named which = cc
service_spends calls engine drawn slots (request.SealIv slot tag_length iv aad text) first second named which = cc
service_spends calls engine drawn slots (request.Open slot iv aad text tag) first second named which = cc
service_spends calls engine drawn slots (request.Wrap pad kek other) first second named which =
    let what = request.Wrap pad kek other in
    let Leaves : ℕ → Type 0 = λ id. LeavesFor what slots (service_at calls engine drawn slots what).slots id in
    subst Leaves (first_of kek other first second named)
    (second_spends engine slots kek other (source_fault (slot_at slots kek).header kinds.Kek (is_approved (wrapping_service pad) 0)) (wrap_at calls engine pad)
    (λ key domain slot. wrap_leaves calls engine pad key domain slot) which)
service_spends calls engine drawn slots (request.Unwrap pad kek target kind export uses wrapped) first second named which =
    let what = request.Unwrap pad kek target kind export uses wrapped in
    let Leaves : ℕ → Type 0 = λ id. LeavesFor what slots (service_at calls engine drawn slots what).slots id in
    subst Leaves (first_of kek target first second named)
    (second_spends engine slots kek target (source_fault (slot_at slots kek).header kinds.Kek (is_approved (unwrapping_service pad) 0)) (unwrap_at calls engine pad kind export uses wrapped)
    (λ key domain slot. fault_leaves engine slot (vacancy_fault slot.header) _ (unwrapped_leaves _ slot _ _ (calls.unwrap engine pad key wrapped).size)) which)
service_spends calls engine drawn slots (request.Derive source target kind export uses long label context) first second named which =
    let what = request.Derive source target kind export uses long label context in
    let Leaves : ℕ → Type 0 = λ id. LeavesFor what slots (service_at calls engine drawn slots what).slots id in
    subst Leaves (first_of source target first second named)
    (second_spends engine slots source target (source_fault (slot_at slots source).header kinds.Kdf (is_approved service.Derive 0)) (derive_at calls engine kind export uses long label context)
    (λ key domain slot. fault_leaves engine slot (vacancy_fault slot.header) _ (λ which. absurd (done_is_unrefused which))) which)
service_spends calls engine drawn slots (request.Random long additional) first second named which = cc
service_spends calls engine drawn slots (request.Generate target header long) first second named which = cc
service_spends calls engine drawn slots (request.Reseed additional) first second named which = cc

step_spends : {V : Type 0} (calls : Calls V) (s : MachineState V) (events : List Sample) (what : CryptographicRequest) (first second : ℕ) → slots_named what ≡ first ∷ second ∷ []
    → IsRefusedAtSlots (cryptographic_step calls s events what).status → LeavesFor what s.slots (cryptographic_step calls s events what).machine.slots first
step_spends {V} calls s events what first second named =
    let Leaves : Ready V → Type 0 = λ ready. IsRefusedAtSlots (served calls s ready what).status → LeavesFor what s.slots (served calls s ready what).machine.slots first in
    ready_cases calls s.shared events what Leaves (λ more engine generator samples drawn left. service_spends calls engine drawn s.slots what first second named) (λ test engine which. cc)
    (λ fault more engine generator samples left which. cc)

-- So a law of slots holds of a request if it holds of the step that it makes.
by_slots : {V : Type 0} (calls : Calls V) (s : MachineState V) (events : List Sample) (what : CryptographicRequest) (P : Status → Type 0) (Leaves : List Slot → List Slot → Type 0)
    → ((t : MachineState V) → P (cryptographic_step calls t events what).status → Leaves t.slots (cryptographic_step calls t events what).machine.slots)
    → (t : MachineState V) → vault_of t ≡ vault_of s → (made : RequestValue) → made ≡ request.Cryptographic what → P (perform calls t events made).status → Leaves s.slots (perform calls t events made).machine.slots
by_slots {V} calls s events what P Leaves holds t same made is which =
    let From : List Slot → Type 0 = λ before. Leaves before (perform calls t events made).machine.slots in
    let Made : RequestValue → Type 0 = λ made. P (perform calls t events made).status → Leaves t.slots (perform calls t events made).machine.slots in
    subst From (ap (λ vault. vault.slots) same) (subst Made (sym is) (holds t) which)

pub refusals_spend : {V : Type 0} (calls : Calls V) → RefusalsSpendOneUse calls
refusals_spend {V} calls s events command what first second is named =
    let Leaves : List Slot → List Slot → Type 0 = λ before after. LeavesFor what before after first in
    let Spends : Stepped V → Type 0 = λ after. IsRefusedAtSlots after.status → Leaves s.slots after.machine.slots in
    by_request calls s events command Spends (λ t same reason barred which. absurd (barred_is_not_at_slots reason barred which))
    (λ t same made is'. by_slots calls s events what IsRefusedAtSlots Leaves (λ t. step_spends calls t events what first second named) t same made (same_request _ (request.Cryptographic what) made is is'))
    (λ which. cc)

-- what a slot refuses is no wrong tag
fault_is_no_tag : (reason : SlotFault) → fault_status reason ≢ status.AuthFailed
fault_is_no_tag fault.EmptySlot = λ e. cc
fault_is_no_tag fault.WrongKind = λ e. cc
fault_is_no_tag fault.WrongDomain = λ e. cc
fault_is_no_tag fault.Spent = λ e. cc
fault_is_no_tag fault.OccupiedSlot = λ e. cc
fault_is_no_tag fault.NotExportable = λ e. cc

source_tag : {V : Type 0} (engine : V) (slot : Slot) (fault : Option SlotFault) (after : List ℕ → V) (answer : List ℕ → Answer)
    → (on_source engine (source_by slot fault) after answer).answer.status ≡ status.AuthFailed → (on_source engine (source_by slot fault) after answer).slot ≡ spent_slot slot
source_tag engine slot None after answer wrong = refl
source_tag engine slot (Some reason) after answer wrong = absurd (fault_is_no_tag reason wrong)

filled_no_tag : {V : Type 0} (engine after : V) (slot : Slot) (header : Header) (bytes : List ℕ) (fault : Option SlotFault)
    → (unless_fault engine slot fault (filled_at after header bytes)).answer.status ≢ status.AuthFailed
filled_no_tag engine after slot header bytes None = λ e. cc
filled_no_tag engine after slot header bytes (Some reason) = fault_is_no_tag reason

-- one use of a slot is spent
abbrev IsSpentAt : List Slot → List Slot → ℕ → Type 0
IsSpentAt before after id = after ≡ with_slot_at before id (spent_slot (slot_at before id))

tag_at : {V : Type 0} (engine : V) (slots : List Slot) (id slot : ℕ) (fault : Option SlotFault) (after : List ℕ → V) (answer : List ℕ → Answer) → id ∷ [] ≡ slot ∷ []
    → (on_source engine (source_by (slot_at slots id) fault) after answer).answer.status ≡ status.AuthFailed
    → IsSpentAt slots (with_slot_at slots id (on_source engine (source_by (slot_at slots id) fault) after answer).slot) slot
tag_at {V} engine slots id slot fault after answer named wrong =
    let laid : List Slot = with_slot_at slots id (on_source engine (source_by (slot_at slots id) fault) after answer).slot in
    let Spent : ℕ → Type 0 = λ at. IsSpentAt slots laid at in
    subst Spent (only_of id slot named) (ap (λ (spent : Slot). with_slot_at slots id spent) (source_tag engine (slot_at slots id) fault after answer wrong))

tag_spends : {V : Type 0} (calls : Calls V) (engine : V) (drawn : List ℕ) (slots : List Slot) (what : CryptographicRequest) (slot : ℕ) → slots_named what ≡ slot ∷ []
    → (service_at calls engine drawn slots what).answer.status ≡ status.AuthFailed → IsSpentAt slots (service_at calls engine drawn slots what).slots slot
tag_spends calls engine drawn slots (request.Hash alg text) slot named wrong = cc
tag_spends calls engine drawn slots (request.Mac id alg mac_length text) slot named wrong =
    tag_at engine slots id slot (source_fault (slot_at slots id).header kinds.Mac (is_approved service.Mac mac_length)) _ _ named wrong
tag_spends calls engine drawn slots (request.MacVerify id alg tag text) slot named wrong =
    tag_at engine slots id slot (source_fault (slot_at slots id).header kinds.Mac (is_approved service.MacVerify (length tag))) _ _ named wrong
tag_spends calls engine drawn slots (request.Seal id tag_length aad text) slot named wrong =
    tag_at engine slots id slot (source_fault (slot_at slots id).header kinds.Aes (is_approved service.Seal 0)) _ _ named wrong
tag_spends calls engine drawn slots (request.SealIv id tag_length iv aad text) slot named wrong =
    tag_at engine slots id slot (source_fault (slot_at slots id).header kinds.Aes (is_approved service.SealIv 0)) _ _ named wrong
tag_spends calls engine drawn slots (request.Open id iv aad text tag) slot named wrong =
    tag_at engine slots id slot (source_fault (slot_at slots id).header kinds.Aes (is_approved service.Open 0)) _ _ named wrong
tag_spends calls engine drawn slots (request.Wrap pad kek second) slot named wrong = cc
tag_spends calls engine drawn slots (request.Unwrap pad kek target kind export uses wrapped) slot named wrong = cc
tag_spends calls engine drawn slots (request.Derive source target kind export uses long label context) slot named wrong = cc
tag_spends calls engine drawn slots (request.Random long additional) slot named wrong = cc
tag_spends calls engine drawn slots (request.Generate target header long) slot named wrong =
    absurd (filled_no_tag engine engine (slot_at slots target) header drawn (vacancy_fault (slot_at slots target).header) wrong)
tag_spends calls engine drawn slots (request.Reseed additional) slot named wrong = cc

tag_step_spends : {V : Type 0} (calls : Calls V) (s : MachineState V) (events : List Sample) (what : CryptographicRequest) (slot : ℕ) → slots_named what ≡ slot ∷ []
    → (cryptographic_step calls s events what).status ≡ status.AuthFailed → IsSpentAt s.slots (cryptographic_step calls s events what).machine.slots slot
tag_step_spends {V} calls s events what slot named =
    let Leaves : Ready V → Type 0 = λ ready. (served calls s ready what).status ≡ status.AuthFailed → IsSpentAt s.slots (served calls s ready what).machine.slots slot in
    ready_cases calls s.shared events what Leaves (λ more engine generator samples drawn left. tag_spends calls engine drawn s.slots what slot named) (λ test engine wrong. cc)
    (λ fault more engine generator samples left wrong. cc)

-- no tag is looked at where a command is refused at once
barred_is_no_tag : IsRefusedAtOnce status.AuthFailed → ⊥
barred_is_no_tag which = elim which [ inl a ↦ cc | inr b ↦ (elim b [ inl c ↦ cc | inr d ↦ cc ]) ]

pub tags_spend : {V : Type 0} (calls : Calls V) → WrongTagsSpendOneUse calls
tags_spend {V} calls s events command what slot is named =
    let Leaves : List Slot → List Slot → Type 0 = λ before after. IsSpentAt before after slot in
    let IsWrong : Status → Type 0 = λ reason. reason ≡ status.AuthFailed in
    let Spends : Stepped V → Type 0 = λ after. IsWrong after.status → Leaves s.slots after.machine.slots in
    by_request calls s events command Spends (λ t same reason barred wrong. absurd (barred_is_no_tag (subst IsRefusedAtOnce wrong barred)))
    (λ t same made is'. by_slots calls s events what IsWrong Leaves (λ t. tag_step_spends calls t events what slot named) t same made (same_request _ (request.Cryptographic what) made is is'))
    (λ wrong. cc)
