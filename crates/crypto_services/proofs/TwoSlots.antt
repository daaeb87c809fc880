-- A source and a second slot: what is done where the source is refused, where the second slot is, and where neither is.
use Rattle.std.proofs.Common.{◌≡◌, ◌<◌, ℕ, Bool, true, false, not, List, [], length, Option, Some, None, refl, sym, ap, subst, ◌∙◌, inl, inr, if◌then◌else◌}
use Rattle.std.specs.Option.{option_map, option_map_or}
use Rattle.std.proofs.lemmas.Bool.{cases_lt}
use Rattle.std.proofs.lemmas.List.{get_or-set_same, get_or_past}
use Rattle.bits_core.specs.declared.parameter.Domain.{Domain}
use Rattle.bits_core.specs.declared.parameter.Header.{Header}
use Rattle.bits_core.specs.declared.parameter.Kind.{Kind}
use Rattle.bits_core.specs.declared.parameter.Kind.TheVariants.{Aes, Kek, Mac, Kdf}
use Rattle.ssp_slots.specs.declared.slot.Slot.{Slot}
use Rattle.ssp_slots.specs.declared.slot_fault.SlotFault.{SlotFault}
use Rattle.ssp_slots.specs.declared.slot_fault.SlotFault.TheVariants.{EmptySlot, WrongKind}
use Rattle.ssp_slots.specs.PreparedKeys.{is_prepared_kind, has_prepared_key}
use Rattle.ssp_slots.specs.Refusals.{is_kind, source_fault}
use Rattle.ssp_slots.specs.Slots.{Contents, empty_slot, one_use_less, parameter, spent_slot, spent_in}
use Rattle.service_table.specs.declared.status.Status.{Status}
use Rattle.crypto_services.specs.declared.outcome.Outcome.{Outcome}
use Rattle.crypto_services.specs.declared.parts.Parts.{Parts}
use Rattle.crypto_services.specs.AtSlots.{SlotResult, SlotsResult, slot_at, with_slot_at, on_slot, on_no_slot, on_two_slots, source, domain_at, refusal, fault_status}
use Rattle.crypto_services.specs.Indicator.{ServiceUse, indicator}
use Rattle.crypto_services.specs.Serves.{Serves, ServesInPart}
use Rattle.crypto_services.proofs.Sourcing.{laid_back_at}

-- where the source is refused, engine and slots are as they were
pub first_refused : {V : Type 0} (engine : V) (slots : List Slot) (first second : ℕ) (kind : Kind) (approved : Bool) (reason : SlotFault) (service : List ℕ → Domain → Slot → SlotResult V)
    → source_fault (slot_at slots first).header kind approved ≡ Some reason
    → on_two_slots engine slots first second (source kind approved) service ≡ on_no_slot engine slots (refusal (fault_status reason))
first_refused {V} engine slots first second kind approved reason service is =
    rw is (ap (λ (laid : List Slot). on_no_slot engine laid (refusal (fault_status reason))) (laid_back_at slots first))

-- and else one use is spent, and the service is done at the second slot
pub first_given : {V : Type 0} (engine : V) (slots : List Slot) (first second : ℕ) (kind : Kind) (approved : Bool) (service : List ℕ → Domain → Slot → SlotResult V)
    → source_fault (slot_at slots first).header kind approved ≡ None
    → (let slot = slot_at slots first in
    on_two_slots engine slots first second (source kind approved) service
    ≡ on_slot (with_slot_at slots first (spent_slot slot)) second (service (parameter slot) (domain_at slot.header)))
first_given {V} engine slots first second kind approved service is = rw is refl

-- the slot of which a use was spent
pub spent_at : (slots : List Slot) (id : ℕ) → id < length slots → slot_at (with_slot_at slots id (spent_slot (slot_at slots id))) id ≡ spent_slot (slot_at slots id)
spent_at slots id within = get_or-set_same slots id (spent_slot (slot_at slots id)) empty_slot within

-- a use less changes no domain
pub same_domain : (header : Option Header) → domain_at (option_map one_use_less header) ≡ domain_at header
same_domain None = refl
same_domain (Some header) = refl

abbrev pub where_none : Type 0 → Option SlotFault → Type 0
where_none A None = A
where_none A (Some reason) = Unit {0}

pub not_some : {A : Type 0} → (reason : SlotFault) → (let found : Option SlotFault = Some reason in found ≡ None) → A
not_some {A} reason is = subst (where_none A) is tt

prepared_kind : (found kind : Kind) (later : Option SlotFault) → is_prepared_kind kind ≡ true → (if not (is_kind found kind) then Some WrongKind else later) ≡ None
    → is_prepared_kind found ≡ true
prepared_kind Aes kind later prepared is = refl
prepared_kind Kek kind later prepared is = refl
prepared_kind Mac Aes later prepared is = not_some WrongKind is
prepared_kind Mac Kek later prepared is = not_some WrongKind is
prepared_kind Mac Mac later prepared is = prepared
prepared_kind Mac Kdf later prepared is = prepared
prepared_kind Kdf Aes later prepared is = not_some WrongKind is
prepared_kind Kdf Kek later prepared is = not_some WrongKind is
prepared_kind Kdf Mac later prepared is = prepared
prepared_kind Kdf Kdf later prepared is = prepared

prepared_header : (header : Option Header) (kind : Kind) (approved : Bool) → is_prepared_kind kind ≡ true → source_fault header kind approved ≡ None
    → option_map_or (λ (h : Header). is_prepared_kind h.kind) (option_map one_use_less header) false ≡ true
prepared_header None kind approved prepared is = not_some EmptySlot is
prepared_header (Some header) kind approved prepared is = prepared_kind header.kind kind _ prepared is

-- a source of a kind of which a key is prepared has one, once a use was spent too
pub source_is_prepared : (slot : Slot) (kind : Kind) (approved : Bool) → is_prepared_kind kind ≡ true → source_fault slot.header kind approved ≡ None
    → has_prepared_key (spent_slot slot) ≡ true
source_is_prepared slot kind approved prepared is = prepared_header slot.header kind approved prepared is

-- what is done at the second slot after a use of the first was spent is what is done at both
pub served_after_source : {V : Type 0} (engine : V) (before after : Contents) (first second : ℕ) (kind : Kind) (approved : Bool) (service : List ℕ → Domain → Slot → SlotResult V)
    → first < length before.slots → source_fault (slot_at before.slots first).header kind approved ≡ None → after ≡ spent_in before first
    → on_slot after.slots second (service (parameter (slot_at after.slots first)) (domain_at (slot_at after.slots first).header))
    ≡ on_two_slots engine before.slots first second (source kind approved) service
served_after_source {V} engine before after first second kind approved service within given spent =
    let slot : Slot = slot_at before.slots first in
    let slots : List Slot = with_slot_at before.slots first (spent_slot slot) in
    let Done : List Slot → Slot → SlotsResult V = λ (all : List Slot) (one : Slot). on_slot all second (service (parameter one) (domain_at one.header)) in
    let at_spent : Done after.slots (slot_at after.slots first) ≡ Done slots (slot_at slots first) = ap (λ (vault : Contents). Done vault.slots (slot_at vault.slots first)) spent in
    let at_slot : Done slots (slot_at slots first) ≡ Done slots (spent_slot slot) = ap (λ (one : Slot). Done slots one) (spent_at before.slots first within) in
    let at_domain : Done slots (spent_slot slot) ≡ Done slots slot = ap (λ (domain : Domain). on_slot slots second (service (parameter slot) domain)) (same_domain slot.header) in
    at_spent ∙ at_slot ∙ at_domain ∙ sym (first_given engine before.slots first second kind approved service given)

-- a part of a service serves it, with the indicator beside
serves_by : {V : Type 0} (use' : ServiceUse) (result : SlotsResult V) (old new : Parts V) (status : Status) (outcome : Outcome) (payload : List ℕ)
    → ServesInPart result old new status payload → outcome ≡ record { status = status; failure = None; approved = indicator use' status new.vault.slots }
    → Serves use' result old new outcome payload
serves_by {V} use' result old new status outcome payload part told =
    let Told : Status → List Slot → Outcome = λ (s : Status) (slots : List Slot). record { status = s; failure = None; approved = indicator use' s slots } in
    let by_status : outcome ≡ Told result.answer.status new.vault.slots = told ∙ ap (λ (s : Status). Told s new.vault.slots) part.same_status in
    record {
      leaves = part.leaves;
      same_outcome = by_status ∙ ap (λ (vault : Contents). Told result.answer.status vault.slots) part.leaves.vault;
      same_payload = part.same_payload;
    }

-- a service whose source was given, and whose part at the second slot is served from there on
pub serves_second : {V : Type 0} (use' : ServiceUse) (old new : Parts V) (vault : Contents) (first second : ℕ) (kind : Kind) (approved : Bool)
    (service : List ℕ → Domain → Slot → SlotResult V) (status : Status) (outcome : Outcome) (payload : List ℕ)
    → first < length old.vault.slots → source_fault (slot_at old.vault.slots first).header kind approved ≡ None → vault ≡ spent_in old.vault first
    → ServesInPart (on_slot vault.slots second (service (parameter (slot_at vault.slots first)) (domain_at (slot_at vault.slots first).header))) (record old { vault = vault }) new status payload
    → outcome ≡ record { status = status; failure = None; approved = indicator use' status new.vault.slots }
    → Serves use' (on_two_slots old.engine old.vault.slots first second (source kind approved) service) old new outcome payload
serves_second {V} use' old new vault first second kind approved service status outcome payload within given spent part told =
    let result : SlotsResult V = on_two_slots old.engine old.vault.slots first second (source kind approved) service in
    let whole : ServesInPart result (record old { vault = vault }) new status payload =
    subst (λ (r : SlotsResult V). ServesInPart r (record old { vault = vault }) new status payload)
    (served_after_source old.engine old.vault vault first second kind approved service within given spent) part in
    let before : ServesInPart result (record old { vault = spent_in old.vault first }) new status payload =
    subst (λ (v : Contents). ServesInPart result (record old { vault = v }) new status payload) spent whole in
    let same : ServesInPart result old new status payload = record {
      leaves = record { engine = before.leaves.engine; vault = before.leaves.vault; generator = before.leaves.generator; health = before.leaves.health };
      same_status = before.same_status;
      same_payload = before.same_payload;
    } in
    serves_by use' result old new status outcome payload same told

-- a source that is given stands among the slots
pub source_within : (slots : List Slot) (id : ℕ) (kind : Kind) (approved : Bool) → source_fault (slot_at slots id).header kind approved ≡ None → id < length slots
source_within slots id kind approved given =
    elim (cases_lt id (length slots)) [
      | inl within ↦ within
      | inr past ↦
          let none : source_fault (slot_at slots id).header kind approved ≡ Some EmptySlot = ap (λ (slot : Slot). source_fault slot.header kind approved) (get_or_past slots id empty_slot past) in
          not_some EmptySlot (sym none ∙ given)
    ]

-- a service that is served with no payload, where none was put
pub serves_silently : {V : Type 0} (use' : ServiceUse) (result : SlotsResult V) (old new : Parts V) (outcome : Outcome) (payload : List ℕ)
    → payload ≡ [] → Serves use' result old new outcome [] → Serves use' result old new outcome payload
serves_silently {V} use' result old new outcome payload none served = record {
  leaves = served.leaves;
  same_outcome = served.same_outcome;
  same_payload = none ∙ served.same_payload;
}
