-- What a cryptographic service does at the slots keeps their rules.
use Rattle.std.proofs.Common.{◌≡◌, ◌<◌, ◌^◌, ◌==◌, ◌&&◌, ℕ, List, [], ◌∷◌, Bool, true, false, Option, Some, None, length, take, refl, sym, subst, arith, if◌then◌else◌}
use Rattle.std.specs.Prelude.{not, IsTrue, MatchOption}
use Rattle.std.proofs.lemmas.Bool.Decides.{nat_tests}
use Rattle.bits_core.specs.ByteList.{IsBytes}
use Rattle.bits_core.specs.Parameters.{length_fits, is_aes_length}
use Rattle.bits_core.specs.declared.parameter.Domain.{Domain}
use Rattle.bits_core.specs.declared.parameter.Domain.TheVariants as domains
use Rattle.bits_core.specs.declared.parameter.Header.{Header}
use Rattle.bits_core.specs.declared.parameter.Kind.{Kind}
use Rattle.bits_core.specs.declared.parameter.Kind.TheVariants as kinds
use Rattle.bits_core.proofs.Bytes.{IsBytes-take}
use Rattle.service_table.specs.declared.service.Service.TheVariants as service
use Rattle.service_table.specs.Services.{is_approved, wrapping_service, unwrapping_service}
use Rattle.ssp_slots.specs.declared.slot.Slot.{Slot}
use Rattle.ssp_slots.specs.declared.slot_fault.SlotFault.{SlotFault}
use Rattle.ssp_slots.specs.declared.slot_fault.SlotFault.TheVariants as fault
use Rattle.ssp_slots.specs.Refusals.{source_fault, vacancy_fault, export_fault, first_refusal, is_kind, is_domain}
use Rattle.ssp_slots.specs.Slots.{Contents, AreWellFormed, HoldsParameter, parameter, empty_slot, slot_in}
use Rattle.ssp_slots.specs.Slots.{IsWellFormed as IsWellFormedSlot}
use Rattle.ssp_slots.proofs.WellFormedSlots.{AreWellFormed-with_slot, IsWellFormed-spent, IsWellFormed-filled, length-parameter}
use Rattle.module_frames.specs.Requests.{CryptographicRequest, IsCryptographicInRange}
use Rattle.module_frames.specs.WrappingBodies.{is_wrapped_length}
use Rattle.module_frames.specs.Requests as request
use Rattle.engine_core.specs.Calls.{Calls, Keeps}
use Rattle.engine_core.specs.Inputs.{IsAesKey, IsUnwrappable}
use Rattle.engine_core.specs.Results.{AreBytes}
use Rattle.crypto_services.specs.AtSlots.{SlotResult, with_slot_at, second_under, source, source_by, domain_at}
use Rattle.crypto_services.specs.Services.{mac_at, mac_verify_at}
use Rattle.crypto_services.specs.Sealing.{seal_at, seal_iv_at, open_at}
use Rattle.crypto_services.specs.Wrapping.{wrap_at, unwrap_at, is_wrappable, filled_if_fits, filled_by_unwrapping, header_under}
use Rattle.crypto_services.specs.Derivation.{derive_at}
use Rattle.crypto_services.specs.Drawing.{generate_at}
use Rattle.state_model.specs.Cryptographic.{service_at}
use Rattle.state_model.proofs.Rules.{on_slot_kept, on_source_kept, fault_kept}
use Rattle.state_model.proofs.Draws.{IsDrawnFor}
use Rattle.state_model.proofs.RequestReading.{IsCryptographicOfBytes}

-- a key that wraps is a key of AES
kek_fits : (kind : Kind) (domain : Domain) (uses : ℕ) (approved : Bool) (n : ℕ)
    → first_refusal ((not (is_kind kind kinds.Kek), fault.WrongKind) ∷ (is_domain domain domains.Approved && not approved, fault.WrongDomain) ∷ (uses == 0, fault.Spent) ∷ []) ≡ None
    → IsTrue (length_fits kind domain n) → IsTrue (is_aes_length n)
kek_fits kinds.Kek domain uses approved n none fits = fits
kek_fits kinds.Aes domain uses approved n none fits = cc
kek_fits kinds.Mac domain uses approved n none fits = cc
kek_fits kinds.Kdf domain uses approved n none fits = cc

pub kek_is_key : (slot : Slot) (header : Option Header) (approved : Bool) → source_fault header kinds.Kek approved ≡ None
    → MatchOption header (slot ≡ empty_slot) (λ known. HoldsParameter known slot) → IsAesKey (parameter slot)
kek_is_key slot None approved none well = cc
kek_is_key slot (Some header) approved none well = record {
  fits = subst (λ n. IsTrue (is_aes_length n)) (sym (length-parameter header slot well)) (kek_fits header.kind header.domain header.uses approved slot.length none well.fits);
  bytes = IsBytes-take slot.length slot.bytes well.byte_values;
}

-- a service on a source and a second slot
second_kept : {V : Type 0} (engine : V) (vault : Contents) (first second : ℕ) (refused : Option SlotFault) (service : List ℕ → Domain → Slot → SlotResult V) → AreWellFormed vault → first < 16 → second < 16
    → (refused ≡ None → (slot : Slot) → IsWellFormedSlot slot → IsWellFormedSlot (service (parameter (slot_in vault first)) (domain_at (slot_in vault first).header) slot).slot)
    → (let sourced = source_by (slot_in vault first) refused in
    AreWellFormed (record vault { slots = (second_under engine (with_slot_at vault.slots first sourced.slot) second sourced sourced.refused service).slots }))
second_kept engine vault first second None service are below below' kept =
    let spent : AreWellFormed _ = AreWellFormed-with_slot vault first _ are (IsWellFormed-spent (slot_in vault first) (are.each first below)) in
    on_slot_kept _ second (service (parameter (slot_in vault first)) (domain_at (slot_in vault first).header)) spent (kept refl _ (spent.each second below'))
second_kept engine vault first second (Some reason) service are below below' kept = AreWellFormed-with_slot vault first (slot_in vault first) are (are.each first below)

either_kept : {V : Type 0} (good : Bool) (served refused : SlotResult V) → IsWellFormedSlot served.slot → IsWellFormedSlot refused.slot → IsWellFormedSlot (if good then served else refused).slot
either_kept true served refused well well' = well
either_kept false served refused well well' = well'

-- wrapping changes no second slot
wrap_kept : {V : Type 0} (calls : Calls V) (engine : V) (pad : Bool) (key : List ℕ) (domain : Domain) (slot : Slot) → IsWellFormedSlot slot → IsWellFormedSlot (wrap_at calls engine pad key domain slot).slot
wrap_kept calls engine pad key domain slot well = fault_kept engine slot (export_fault slot.header domain) _ well (either_kept (is_wrappable pad slot.length) _ _ well well)

-- a target is filled where the length fits
if_fits_kept : {V : Type 0} (engine : V) (slot : Slot) (header : Header) (bytes : List ℕ) (fits : Bool) → length_fits header.kind header.domain (length bytes) ≡ fits → IsWellFormedSlot slot → header.uses < 2 ^ 32 → IsBytes bytes
    → IsWellFormedSlot (filled_if_fits engine slot header bytes).slot
if_fits_kept engine slot header bytes true is well uses are_bytes = rw is (IsWellFormed-filled header bytes (rw is refl) uses are_bytes)
if_fits_kept engine slot header bytes false is well uses are_bytes = rw is well

unwrapped_kept : {V : Type 0} (engine : V) (slot : Slot) (header : Header) (buf : List ℕ) (size : Option ℕ) → IsWellFormedSlot slot → header.uses < 2 ^ 32 → IsBytes buf
    → IsWellFormedSlot (filled_by_unwrapping engine slot header buf size).slot
unwrapped_kept engine slot header buf None well uses are_bytes = well
unwrapped_kept engine slot header buf (Some size) well uses are_bytes = if_fits_kept engine slot header (take size buf) _ refl well uses (IsBytes-take size buf are_bytes)

-- a length that fits a kind in the approved domain fits it in any
fits_any : (kind : Kind) (domain : Domain) (n : ℕ) → IsTrue (length_fits kind domains.Approved n) → IsTrue (length_fits kind domain n)
fits_any kinds.Aes domain n fits = fits
fits_any kinds.Kek domain n fits = fits
fits_any kinds.Mac domains.Approved n fits = fits
fits_any kinds.Mac domains.Other n fits = grind (arith, nat_tests)
fits_any kinds.Kdf domains.Approved n fits = fits
fits_any kinds.Kdf domains.Other n fits = grind (arith, nat_tests)

-- the lengths of wrapped bytes are those that an engine unwraps
pub unwrappable : (pad : Bool) (n : ℕ) → IsTrue (is_wrapped_length pad n) → IsUnwrappable pad n
unwrappable true n good = (grind (arith, nat_tests), grind (arith, nat_tests), grind (arith, nat_tests))
unwrappable false n good = (grind (arith, nat_tests), grind (arith, nat_tests), grind (arith, nat_tests))

unwrap_kept : {V : Type 0} (calls : Calls V) (engine : V) (pad : Bool) (kind : Kind) (export : Bool) (uses : ℕ) (wrapped key : List ℕ) (domain : Domain) (slot : Slot) → Keeps calls
    → IsAesKey key → IsUnwrappable pad (length wrapped) → IsBytes wrapped → uses < 2 ^ 32 → IsWellFormedSlot slot → IsWellFormedSlot (unwrap_at calls engine pad kind export uses wrapped key domain slot).slot
unwrap_kept calls engine pad kind export uses wrapped key domain slot keeps is_key long are_bytes small well =
    let result = calls.unwrap engine pad key wrapped in
    fault_kept engine slot (vacancy_fault slot.header) _ well
    (unwrapped_kept (calls.unwrap_after engine pad key wrapped) slot (header_under kind export uses domain) result.buf result.size well small (keeps.unwrap_bytes engine pad key wrapped is_key are_bytes long).small)

derive_kept : {V : Type 0} (calls : Calls V) (engine : V) (kind : Kind) (export : Bool) (uses n : ℕ) (label context key : List ℕ) (domain : Domain) (slot : Slot) → Keeps calls
    → IsTrue (length_fits kind domains.Approved n) → uses < 2 ^ 32 → IsWellFormedSlot slot → IsWellFormedSlot (derive_at calls engine kind export uses n label context key domain slot).slot
derive_kept calls engine kind export uses n label context key domain slot keeps fits small well =
    let made = keeps.derive_bytes engine key label context n in
    fault_kept engine slot (vacancy_fault slot.header) _ well
    (IsWellFormed-filled (header_under kind export uses domain) (calls.derive engine key label context n)
    (subst (λ long. IsTrue (length_fits kind domain long)) (sym made.long) (fits_any kind domain n fits)) small made.small)

generate_kept : {V : Type 0} (engine : V) (header : Header) (bytes : List ℕ) (n : ℕ) (slot : Slot) → AreBytes n bytes → IsTrue (length_fits header.kind header.domain n) → header.uses < 2 ^ 32
    → IsWellFormedSlot slot → IsWellFormedSlot (generate_at engine header bytes slot).slot
generate_kept engine header bytes n slot drawn fits small well =
    fault_kept engine slot (vacancy_fault slot.header) _ well
    (IsWellFormed-filled header bytes (subst (λ long. IsTrue (length_fits header.kind header.domain long)) (sym drawn.long) fits) small drawn.small)

-- what a cryptographic service leaves of the slots
pub service_kept : {V : Type 0} (calls : Calls V) (engine : V) (drawn : List ℕ) (vault : Contents) (what : CryptographicRequest) → Keeps calls → IsCryptographicInRange what
    → IsCryptographicOfBytes what → IsDrawnFor what drawn → AreWellFormed vault → AreWellFormed (record vault { slots = (service_at calls engine drawn vault.slots what).slots })
service_kept calls engine drawn vault (request.Hash alg text) keeps range bytes fresh are = are
service_kept calls engine drawn vault (request.Mac slot alg mac_length text) keeps range bytes fresh are =
    on_slot_kept vault slot (mac_at calls engine alg mac_length text) are (on_source_kept engine (slot_in vault slot) kinds.Mac (is_approved service.Mac mac_length) _ _ (are.each slot range.0))
service_kept calls engine drawn vault (request.MacVerify slot alg tag text) keeps range bytes fresh are =
    on_slot_kept vault slot (mac_verify_at calls engine alg tag text) are
    (on_source_kept engine (slot_in vault slot) kinds.Mac (is_approved service.MacVerify (length tag)) _ _ (are.each slot range.0))
service_kept calls engine drawn vault (request.Seal slot tag_length aad text) keeps range bytes fresh are =
    on_slot_kept vault slot (seal_at calls engine tag_length drawn aad text) are (on_source_kept engine (slot_in vault slot) kinds.Aes (is_approved service.Seal 0) _ _ (are.each slot range.0))
service_kept calls engine drawn vault (request.SealIv slot tag_length iv aad text) keeps range bytes fresh are =
    on_slot_kept vault slot (seal_iv_at calls engine tag_length iv aad text) are (on_source_kept engine (slot_in vault slot) kinds.Aes (is_approved service.SealIv 0) _ _ (are.each slot range.0))
service_kept calls engine drawn vault (request.Open slot iv aad text tag) keeps range bytes fresh are =
    on_slot_kept vault slot (open_at calls engine iv aad text tag) are (on_source_kept engine (slot_in vault slot) kinds.Aes (is_approved service.Open 0) _ _ (are.each slot range.0))
service_kept calls engine drawn vault (request.Wrap pad kek second) keeps range bytes fresh are =
    second_kept engine vault kek second (source_fault (slot_in vault kek).header kinds.Kek (is_approved (wrapping_service pad) 0)) (wrap_at calls engine pad) are range.0 range.1
    (λ none slot well. wrap_kept calls engine pad _ _ slot well)
service_kept calls engine drawn vault (request.Unwrap pad kek target kind export uses wrapped) keeps range bytes fresh are =
    second_kept engine vault kek target (source_fault (slot_in vault kek).header kinds.Kek (is_approved (unwrapping_service pad) 0)) (unwrap_at calls engine pad kind export uses wrapped) are range.0 range.1
    (λ none slot well. unwrap_kept calls engine pad kind export uses wrapped _ _ slot keeps
    (kek_is_key (slot_in vault kek) (slot_in vault kek).header (is_approved (unwrapping_service pad) 0) none (are.each kek range.0)) (unwrappable pad (length wrapped) range.4) bytes.1 bytes.0 well)
service_kept calls engine drawn vault (request.Derive source target kind export uses long label context) keeps range bytes fresh are =
    second_kept engine vault source target (source_fault (slot_in vault source).header kinds.Kdf (is_approved service.Derive 0)) (derive_at calls engine kind export uses long label context) are range.0 range.1
    (λ none slot well. derive_kept calls engine kind export uses long label context _ _ slot keeps range.4 bytes well)
service_kept calls engine drawn vault (request.Random long additional) keeps range bytes fresh are = are
service_kept calls engine drawn vault (request.Generate target header long) keeps range bytes fresh are =
    on_slot_kept vault target (generate_at engine header drawn) are (generate_kept engine header drawn long (slot_in vault target) fresh range.2 bytes (are.each target range.0))
service_kept calls engine drawn vault (request.Reseed additional) keeps range bytes fresh are = are
