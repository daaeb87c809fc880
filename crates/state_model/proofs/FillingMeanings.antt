-- What the services on two slots, and those that fill one, give where the engine is standard.
use Rattle.std.proofs.Common.{◌≡◌, ◌≢◌, ◌≤◌, ◌<◌, ◌-◌, ℕ, List, [], Bool, true, false, Option, Some, None, length, take, refl, sym, ap, subst, ◌∙◌, arith, if◌then◌else◌}
use Rattle.std.specs.Prelude.{IsTrue, MatchOption}
use Rattle.std.specs.Option.{option_map}
use Rattle.std.specs.Prelude.{unwrap_or}
use Rattle.std.proofs.lemmas.Bool.Decides.{nat_tests}
use Rattle.std.proofs.lemmas.List.{take_at, length-set, get_or-set_same, get_or-set_other}
use Rattle.bits_core.specs.declared.parameter.Domain.{Domain}
use Rattle.bits_core.specs.declared.parameter.Domain.TheVariants as domains
use Rattle.bits_core.specs.declared.parameter.Header.{Header}
use Rattle.bits_core.specs.declared.parameter.Kind.{Kind}
use Rattle.bits_core.specs.declared.parameter.Kind.TheVariants as kinds
use Rattle.bits_core.specs.ByteList.{zeros, zero_padded}
use Rattle.bits_core.specs.Parameters.{length_fits}
use Rattle.key_wrap.proofs.Lengths.{length-kw, length-kwp}
use Rattle.service_table.specs.declared.status.Status.TheVariants as status
use Rattle.ssp_slots.specs.declared.slot.Slot.{Slot}
use Rattle.ssp_slots.specs.declared.slot_fault.SlotFault.{SlotFault}
use Rattle.ssp_slots.specs.Refusals.{export_fault, vacancy_fault}
use Rattle.ssp_slots.specs.Slots.{empty_slot, parameter, filled_slot, spent_slot, HoldsParameter, IsWellFormed}
use Rattle.ssp_slots.proofs.WellFormedSlots.{length-parameter}
use Rattle.engine_core.specs.Calls.{Calls, IsStandard}
use Rattle.engine_core.specs.Results.{wrapped_length}
use Rattle.engine_core.specs.Standards.{wrapping, unwrapping, wrapped_in_buffer}
use Rattle.crypto_services.specs.AtSlots.{Answer, SlotResult, SlotsResult, slot_at, with_slot_at, domain_at, fault_status, source_by, second_under, on_slot, on_no_slot, unless_fault, refused_at, filled_at, success, refusal}
use Rattle.crypto_services.specs.Wrapping.{wrap_at, unwrap_at, is_wrappable, wrapping_in, filled_if_fits, filled_by_unwrapping, header_under}
use Rattle.state_model.proofs.Silence.{silent_fault}

-- what holds where the source is refused, and where it isn't, holds of a service on two slots
pub by_two : {V : Type 0} (P : SlotsResult V → Type 0) (engine : V) (slots : List Slot) (first second : ℕ) (fault : Option SlotFault) (service : List ℕ → Domain → Slot → SlotResult V)
    → ((slots' : List Slot) (reason : SlotFault) → P (on_no_slot engine slots' (refusal (fault_status reason))))
    → (let slot = slot_at slots first in P (on_slot (with_slot_at slots first (spent_slot slot)) second (service (parameter slot) (domain_at slot.header))))
    → (let source = source_by (slot_at slots first) fault in P (second_under engine (with_slot_at slots first source.slot) second source source.refused service))
by_two P engine slots first second None service refused served = served
by_two P engine slots first second (Some reason) service refused served = refused _ reason

-- the second slot is found as it was
pub second_found : (slots : List Slot) (first second : ℕ) (laid : Slot) → first ≢ second → slot_at (with_slot_at slots first laid) second ≡ slot_at slots second
second_found slots first second laid apart = get_or-set_other slots first second laid empty_slot (λ same. apart (sym same))

-- a slot that was laid is there
pub laid_there : (slots : List Slot) (id : ℕ) (laid : Slot) → id < length slots → slot_at (with_slot_at slots id laid) id ≡ laid
laid_there slots id laid within = get_or-set_same slots id laid empty_slot within

-- laying a slot keeps how many there are
pub laid_many : (slots : List Slot) (first : ℕ) (laid : Slot) (id : ℕ) → id < length slots → id < length (with_slot_at slots first laid)
laid_many slots first laid id within = omega (arith, within, length-set slots first laid)

-- a parameter has 1 to 64 bytes
fits_within : (kind : Kind) (domain : Domain) (n : ℕ) → IsTrue (length_fits kind domain n) → (1 ≤ n) × (n ≤ 64)
fits_within kinds.Aes _ n fits = (grind (arith, nat_tests, fits), grind (arith, nat_tests, fits))
fits_within kinds.Kek _ n fits = (grind (arith, nat_tests, fits), grind (arith, nat_tests, fits))
fits_within kinds.Mac domains.Other n fits = (grind (arith, nat_tests, fits), grind (arith, nat_tests, fits))
fits_within kinds.Mac domains.Approved n fits = (grind (arith, nat_tests, fits), grind (arith, nat_tests, fits))
fits_within kinds.Kdf domains.Other n fits = (grind (arith, nat_tests, fits), grind (arith, nat_tests, fits))
fits_within kinds.Kdf domains.Approved n fits = (grind (arith, nat_tests, fits), grind (arith, nat_tests, fits))

-- the length of a wrapping
wrapping_long : (pad : Bool) (key text : List ℕ) → 1 ≤ length text → length text ≤ 64 → IsTrue (is_wrappable pad (length text)) → length (wrapping pad key text) ≡ wrapped_length pad (length text)
wrapping_long true key text least most wrappable = length-kwp key text least most
wrapping_long false key text least most wrappable = length-kw key text (grind (arith, nat_tests, wrappable)) (grind (arith, nat_tests, wrappable))

-- what a standard engine wraps is what stands in the buffer
pub wrapped_front : (pad : Bool) (key text : List ℕ) → 1 ≤ length text → length text ≤ 64 → IsTrue (is_wrappable pad (length text)) → wrapping_in (wrapped_in_buffer pad key text) ≡ wrapping pad key text
wrapped_front pad key text least most wrappable =
    let w = wrapping pad key text in take_at w (zeros (80 - length w)) (wrapped_length pad (length text)) (wrapping_long pad key text least most wrappable)

-- what is wrapped is the wrapping of the slot's parameter
pub wrap_means : {V : Type 0} (calls : Calls V) → IsStandard calls → (engine : V) (pad : Bool) (key : List ℕ) (domain : Domain) (slot : Slot) → IsWellFormed slot
    → (let answer = (wrap_at calls engine pad key domain slot).answer in answer.status ≡ status.Ok → answer.payload ≡ wrapping pad key (parameter slot))
wrap_means {V} calls standard engine pad key domain slot well = by_header slot.header refl
  where
    Means : Answer → Type 0
    Means answer = answer.status ≡ status.Ok → answer.payload ≡ wrapping pad key (parameter slot)

    done : SlotResult V
    done = record { engine = calls.wrap_after engine pad key (parameter slot); slot = slot; answer = success (wrapping_in (calls.wrap engine pad key (parameter slot))) }

    right : (header : Header) → slot.header ≡ Some header → IsTrue (is_wrappable pad slot.length) → wrapping_in (calls.wrap engine pad key (parameter slot)) ≡ wrapping pad key (parameter slot)
    right header is wrappable =
        let Well : Option Header → Type 0 = λ h. MatchOption h (slot ≡ empty_slot) (λ header. HoldsParameter header slot) in
        let holds : HoldsParameter header slot = subst Well is well in
        let long = length-parameter header slot holds in
        let within = fits_within header.kind header.domain slot.length holds.fits in
        let Fits : ℕ → Type 0 = λ n. IsTrue (is_wrappable pad n) in
        ap wrapping_in (standard.wrap engine pad key (parameter slot))
        ∙ wrapped_front pad key (parameter slot) (omega (arith, long, within.0)) (omega (arith, long, within.1)) (subst Fits (sym long) wrappable)

    by_length : (header : Header) → slot.header ≡ Some header → (good : Bool) → is_wrappable pad slot.length ≡ good → Means (if good then done else refused_at engine slot status.BadLength).answer
    by_length header is true wrappable = λ ok. right header is wrappable
    by_length header is false wrappable = λ ok. cc

    by_fault : (header : Header) → slot.header ≡ Some header → (fault : Option SlotFault)
        → Means (unless_fault engine slot fault (if is_wrappable pad slot.length then done else refused_at engine slot status.BadLength)).answer
    by_fault header is None = by_length header is (is_wrappable pad slot.length) refl
    by_fault header is (Some reason) = λ ok. absurd ((silent_fault reason).undone ok)

    by_header : (header : Option Header) → slot.header ≡ header
        → Means (unless_fault engine slot (export_fault header domain) (if is_wrappable pad slot.length then done else refused_at engine slot status.BadLength)).answer
    by_header None is = λ ok. cc
    by_header (Some header) is = by_fault header is (export_fault (Some header) domain)

-- the answer is by what was wrapped, and the slot holds that
abbrev pub IsFilledBy : Option (List ℕ) → Header → Slot → Answer → Type 0
IsFilledBy text header slot answer =
    (answer.status ≡ status.Ok → (bytes : List ℕ) × (text ≡ Some bytes) × (slot ≡ filled_slot header bytes)) × (answer.status ≡ status.UnwrapFailed → text ≡ None)

filled_means : {V : Type 0} (engine : V) (header : Header) (slot : Slot) (bytes : List ℕ)
    → (let result = filled_if_fits engine slot header (take (length bytes) (zero_padded 80 bytes)) in IsFilledBy (Some bytes) header result.slot result.answer)
filled_means {V} engine header slot bytes =
    let Filled : List ℕ → Type 0 = λ found. (let result = filled_if_fits engine slot header found in IsFilledBy (Some bytes) header result.slot result.answer) in
    subst Filled (sym (take_at bytes (zeros (80 - length bytes)) (length bytes) refl)) (by_length (length_fits header.kind header.domain (length bytes)))
  where
    by_length : (fits : Bool) → (let result = if fits then filled_at engine header bytes else refused_at engine slot status.BadLength in IsFilledBy (Some bytes) header result.slot result.answer)
    by_length true = (λ ok. (bytes, refl, refl), λ failed. cc)
    by_length false = (λ ok. cc, λ failed. cc)

-- a slot is filled with what was wrapped
pub unwrap_means : {V : Type 0} (calls : Calls V) → IsStandard calls → (engine : V) (pad : Bool) (kind : Kind) (export : Bool) (uses : ℕ) (wrapped key : List ℕ) (domain : Domain) (slot : Slot)
    → (let result = unwrap_at calls engine pad kind export uses wrapped key domain slot in
    IsFilledBy (unwrapping pad key wrapped) (header_under kind export uses domain) result.slot result.answer)
unwrap_means {V} calls standard engine pad kind export uses wrapped key domain slot = by_fault (vacancy_fault slot.header)
  where
    header : Header
    header = header_under kind export uses domain

    after : V
    after = calls.unwrap_after engine pad key wrapped

    by_text : (text : Option (List ℕ)) → (let result = filled_by_unwrapping after slot header (zero_padded 80 (unwrap_or text [])) (option_map length text) in IsFilledBy text header result.slot result.answer)
    by_text None = (λ ok. cc, λ failed. refl)
    by_text (Some bytes) = filled_means after header slot bytes

    by_fault : (fault : Option SlotFault)
        → (let result = unless_fault engine slot fault (filled_by_unwrapping after slot header (calls.unwrap engine pad key wrapped).buf (calls.unwrap engine pad key wrapped).size) in
        IsFilledBy (unwrapping pad key wrapped) header result.slot result.answer)
    by_fault None = rw (standard.unwrap engine pad key wrapped) (by_text (unwrapping pad key wrapped))
    by_fault (Some reason) = (λ ok. absurd ((silent_fault reason).undone ok), λ failed. absurd ((silent_fault reason).wrapped failed))

-- a vacant slot is filled
pub vacant_filled : {V : Type 0} (engine after : V) (header : Header) (bytes : List ℕ) (slot : Slot) (fault : Option SlotFault)
    → (let result = unless_fault engine slot fault (filled_at after header bytes) in result.answer.status ≡ status.Ok → result.slot ≡ filled_slot header bytes)
vacant_filled engine after header bytes slot None = λ ok. refl
vacant_filled engine after header bytes slot (Some reason) = λ ok. absurd ((silent_fault reason).undone ok)
