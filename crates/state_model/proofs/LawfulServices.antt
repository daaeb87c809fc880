-- What a cryptographic service answers at the slots: no failure, and a payload of the length that the request tells.
use Rattle.std.proofs.Common.{◌≡◌, ◌≤◌, ◌<◌, ◌+◌, ◌++◌, ◌==◌, ◌&&◌, ℕ, List, [], ◌∷◌, Bool, true, false, Option, Some, None, length, take, refl, sym, ap, subst, ◌∙◌, arith, if◌then◌else◌}
use Rattle.std.specs.Prelude.{not, IsTrue, MatchOption}
use Rattle.std.proofs.lemmas.Bool.Decides.{nat_tests}
use Rattle.std.proofs.lemmas.List.{length-take-le, length-append}
use Rattle.bits_core.specs.Algorithms.{alg_size}
use Rattle.bits_core.specs.ByteList.{IsBytes}
use Rattle.bits_core.specs.Parameters.{length_fits, is_aes_length}
use Rattle.bits_core.specs.declared.algorithm.Alg.{Alg}
use Rattle.bits_core.specs.declared.algorithm.Alg.TheVariants as algs
use Rattle.bits_core.specs.declared.parameter.Domain.{Domain}
use Rattle.bits_core.specs.declared.parameter.Domain.TheVariants as domains
use Rattle.bits_core.specs.declared.parameter.Header.{Header}
use Rattle.bits_core.specs.declared.parameter.Kind.{Kind}
use Rattle.bits_core.specs.declared.parameter.Kind.TheVariants as kinds
use Rattle.bits_core.proofs.Bytes.{IsBytes-take}
use Rattle.service_table.specs.Answers.{is_status_among}
use Rattle.service_table.specs.declared.service.Service.TheVariants as service
use Rattle.service_table.specs.declared.status.Status.{Status}
use Rattle.service_table.specs.declared.status.Status.TheVariants as status
use Rattle.service_table.specs.Services.{is_approved, wrapping_service, unwrapping_service}
use Rattle.ssp_slots.specs.declared.slot.Slot.{Slot}
use Rattle.ssp_slots.specs.declared.slot_fault.SlotFault.{SlotFault}
use Rattle.ssp_slots.specs.declared.slot_fault.SlotFault.TheVariants as fault
use Rattle.ssp_slots.specs.Refusals.{source_fault, vacancy_fault, export_fault, first_refusal, is_kind, is_domain}
use Rattle.ssp_slots.specs.Slots.{Contents, AreWellFormed, HoldsParameter, parameter, empty_slot, slot_in}
use Rattle.ssp_slots.specs.Slots.{IsWellFormed as IsWellFormedSlot}
use Rattle.ssp_slots.proofs.WellFormedSlots.{AreWellFormed-with_slot, IsWellFormed-spent, length-parameter}
use Rattle.module_frames.specs.LawfulSteps.{failures, is_ok, ByDone, IsPayloadOf}
use Rattle.module_frames.specs.Requests.{CryptographicRequest, IsCryptographicInRange}
use Rattle.module_frames.specs.Requests as request
use Rattle.module_frames.specs.WrappingBodies.{is_wrapped_length}
use Rattle.engine_core.specs.Calls.{Calls, Keeps}
use Rattle.engine_core.specs.Inputs.{IsAesKey, IsWrappable}
use Rattle.engine_core.specs.Results.{Opened, wrapped_length}
use Rattle.crypto_services.specs.AtSlots.{Answer, SlotResult, with_slot_at, domain_at, fault_status, on_source, source_by, second_under, unless_fault, refused_at, filled_at, refusal, success}
use Rattle.crypto_services.specs.Services.{is_leftmost, verified}
use Rattle.crypto_services.specs.Sealing.{opened}
use Rattle.crypto_services.specs.Wrapping.{wrap_at, unwrap_at, is_wrappable, wrapping_in, filled_by_unwrapping}
use Rattle.crypto_services.specs.Derivation.{derive_at}
use Rattle.state_model.specs.Cryptographic.{service_at}
use Rattle.state_model.proofs.Draws.{IsDrawnFor}
use Rattle.state_model.proofs.RequestReading.{IsCryptographicOfBytes}
use Rattle.state_model.proofs.ServicesKept.{kek_is_key}

-- no test and no noise failed
abbrev pub IsFine : Status → Type 0
IsFine outcome = is_status_among failures outcome ≡ false

pub record IsServed (what : CryptographicRequest) (answer : Answer) : Type 0 where
  pub fine : IsFine answer.status
  pub payload : ByDone (is_ok answer.status) (IsPayloadOf what (length answer.payload)) (length answer.payload ≡ 0)

success_served : (what : CryptographicRequest) (bytes : List ℕ) → IsPayloadOf what (length bytes) → IsServed what (success bytes)
success_served what bytes long = record { fine = refl; payload = long }

refusal_served : (what : CryptographicRequest) (reason : Status) → IsFine reason → is_ok reason ≡ false → IsServed what (refusal reason)
refusal_served what reason fine refused = record { fine = fine; payload = rw refused refl }

-- what a slot refuses is no failure
pub fault_is_fine : (reason : SlotFault) → IsFine (fault_status reason)
fault_is_fine fault.EmptySlot = refl
fault_is_fine fault.WrongKind = refl
fault_is_fine fault.WrongDomain = refl
fault_is_fine fault.Spent = refl
fault_is_fine fault.OccupiedSlot = refl
fault_is_fine fault.NotExportable = refl

fault_is_refused : (reason : SlotFault) → is_ok (fault_status reason) ≡ false
fault_is_refused fault.EmptySlot = refl
fault_is_refused fault.WrongKind = refl
fault_is_refused fault.WrongDomain = refl
fault_is_refused fault.Spent = refl
fault_is_refused fault.OccupiedSlot = refl
fault_is_refused fault.NotExportable = refl

by_slot : (what : CryptographicRequest) (reason : SlotFault) → IsServed what (refusal (fault_status reason))
by_slot what reason = refusal_served what (fault_status reason) (fault_is_fine reason) (fault_is_refused reason)

source_served : {V : Type 0} (what : CryptographicRequest) (engine : V) (slot : Slot) (refused : Option SlotFault) (after : List ℕ → V) (answer : List ℕ → Answer)
    → (refused ≡ None → IsServed what (answer (parameter slot))) → IsServed what (on_source engine (source_by slot refused) after answer).answer
source_served what engine slot None after answer right = right refl
source_served what engine slot (Some reason) after answer right = by_slot what reason

fault_served : {V : Type 0} (what : CryptographicRequest) (engine : V) (slot : Slot) (refused : Option SlotFault) (served : SlotResult V) → (refused ≡ None → IsServed what served.answer)
    → IsServed what (unless_fault engine slot refused served).answer
fault_served what engine slot None served right = right refl
fault_served what engine slot (Some reason) served right = by_slot what reason

second_served : {V : Type 0} (what : CryptographicRequest) (engine : V) (vault : Contents) (first second : ℕ) (refused : Option SlotFault) (service : List ℕ → Domain → Slot → SlotResult V) → AreWellFormed vault
    → first < 16 → second < 16
    → (refused ≡ None → (slot : Slot) → IsWellFormedSlot slot → IsServed what (service (parameter (slot_in vault first)) (domain_at (slot_in vault first).header) slot).answer)
    → (let sourced = source_by (slot_in vault first) refused in IsServed what (second_under engine (with_slot_at vault.slots first sourced.slot) second sourced sourced.refused service).answer)
second_served what engine vault first second None service are below below' right =
    let spent : AreWellFormed _ = AreWellFormed-with_slot vault first _ are (IsWellFormed-spent (slot_in vault first) (are.each first below)) in right refl _ (spent.each second below')
second_served what engine vault first second (Some reason) service are below below' right = by_slot what reason

either_served : (what : CryptographicRequest) (right : Bool) (a b : Answer) → IsServed what a → IsServed what b → IsServed what (if right then a else b)
either_served what true a b x y = x
either_served what false a b x y = y

either_result : {V : Type 0} (what : CryptographicRequest) (good : Bool) (a b : SlotResult V) → (good ≡ true → IsServed what a.answer) → IsServed what b.answer → IsServed what (if good then a else b).answer
either_result what true a b x y = x refl
either_result what false a b x y = y

-- a digest has at most 64 bytes
most_of : (alg : Alg) → alg_size alg ≤ 64
most_of algs.Sha256 = omega arith
most_of algs.Sha384 = omega arith
most_of algs.Sha512 = omega arith

-- a key that seals is one of AES
aes_fits : (kind : Kind) (domain : Domain) (uses : ℕ) (approved : Bool) (n : ℕ)
    → first_refusal ((not (is_kind kind kinds.Aes), fault.WrongKind) ∷ (is_domain domain domains.Approved && not approved, fault.WrongDomain) ∷ (uses == 0, fault.Spent) ∷ []) ≡ None
    → IsTrue (length_fits kind domain n) → IsTrue (is_aes_length n)
aes_fits kinds.Aes domain uses approved n none fits = fits
aes_fits kinds.Kek domain uses approved n none fits = cc
aes_fits kinds.Mac domain uses approved n none fits = cc
aes_fits kinds.Kdf domain uses approved n none fits = cc

aes_is_key : (slot : Slot) (header : Option Header) (approved : Bool) → source_fault header kinds.Aes approved ≡ None
    → MatchOption header (slot ≡ empty_slot) (λ known. HoldsParameter known slot) → IsAesKey (parameter slot)
aes_is_key slot None approved none well = cc
aes_is_key slot (Some header) approved none well = record {
  fits = subst (λ n. IsTrue (is_aes_length n)) (sym (length-parameter header slot well)) (aes_fits header.kind header.domain header.uses approved slot.length none well.fits);
  bytes = IsBytes-take slot.length slot.bytes well.byte_values;
}

-- the ciphertext and its tag
sealed_long : {V : Type 0} (calls : Calls V) (engine : V) (tag_length : ℕ) (key iv aad text : List ℕ) → Keeps calls → IsAesKey key → IsBytes iv → tag_length ≤ 16
    → length ((calls.seal engine key iv aad text).ciphertext ++ take tag_length (calls.seal engine key iv aad text).tag) ≡ length text + tag_length
sealed_long calls engine tag_length key iv aad text keeps is_key are_bytes most =
    let sealed = calls.seal engine key iv aad text in
    let whole = (keeps.seal_tag engine key iv aad text is_key are_bytes).long in
    let tag : length (take tag_length sealed.tag) ≡ tag_length = length-take-le tag_length sealed.tag (omega (arith, whole, most)) in
    let body = keeps.seal_length engine key iv aad text in
    let both = length-append sealed.ciphertext (take tag_length sealed.tag) in
    omega (arith, tag, body, both)

-- a parameter has from 1 to 64 bytes
fits_within : (kind : Kind) (domain : Domain) (n : ℕ) → IsTrue (length_fits kind domain n) → (1 ≤ n) × (n ≤ 64)
fits_within kinds.Aes domain n fits = (grind (arith, nat_tests), grind (arith, nat_tests))
fits_within kinds.Kek domain n fits = (grind (arith, nat_tests), grind (arith, nat_tests))
fits_within kinds.Mac domains.Other n fits = (grind (arith, nat_tests), grind (arith, nat_tests))
fits_within kinds.Mac domains.Approved n fits = (grind (arith, nat_tests), grind (arith, nat_tests))
fits_within kinds.Kdf domains.Other n fits = (grind (arith, nat_tests), grind (arith, nat_tests))
fits_within kinds.Kdf domains.Approved n fits = (grind (arith, nat_tests), grind (arith, nat_tests))

wrappable : (pad : Bool) (n : ℕ) → 1 ≤ n → n ≤ 64 → is_wrappable pad n ≡ true → IsWrappable pad n
wrappable true n least most good = (least, most)
wrappable false n least most good = (grind (arith, nat_tests, good), most, grind (arith, nat_tests, good))

-- a wrapping has a length that can be unwrapped, and at most 72 bytes
wrapping_fits : (pad : Bool) (n : ℕ) → IsWrappable pad n → (is_wrapped_length pad (wrapped_length pad n) ≡ true) × (wrapped_length pad n ≤ 72)
wrapping_fits true n is = (grind (arith, nat_tests, is.0, is.1), omega (arith, is.0, is.1))
wrapping_fits false n is = (grind (arith, nat_tests, is.0, is.1, is.2), omega (arith, is.0, is.1))

wrapped_long : {V : Type 0} (calls : Calls V) (engine : V) (pad : Bool) (key : List ℕ) (domain : Domain) (slot : Slot) (header : Option Header) → Keeps calls → IsAesKey key → export_fault header domain ≡ None
    → is_wrappable pad slot.length ≡ true → MatchOption header (slot ≡ empty_slot) (λ known. HoldsParameter known slot)
    → is_wrapped_length pad (length (wrapping_in (calls.wrap engine pad key (parameter slot)))) ≡ true
wrapped_long calls engine pad key domain slot None keeps is_key none good well = cc
wrapped_long calls engine pad key domain slot (Some header) keeps is_key none good well =
    let text = parameter slot in
    let within = fits_within header.kind header.domain slot.length well.fits in
    let is : IsWrappable pad (length text) = subst (λ n. IsWrappable pad n) (sym (length-parameter header slot well)) (wrappable pad slot.length within.0 within.1 good) in
    let result = calls.wrap engine pad key text in
    let size = keeps.wrap_size engine pad key text is in
    let whole = (keeps.wrap_bytes engine pad key text is_key (IsBytes-take slot.length slot.bytes well.byte_values) is).long in
    let fits = wrapping_fits pad (length text) is in
    let long : length (take result.size result.buf) ≡ result.size = length-take-le result.size result.buf (omega (arith, size, whole, fits.1)) in
    ap (λ n. is_wrapped_length pad n) (long ∙ size) ∙ fits.0

wrap_served : {V : Type 0} (calls : Calls V) (engine : V) (pad : Bool) (kek second : ℕ) (key : List ℕ) (domain : Domain) (slot : Slot) → Keeps calls → IsAesKey key → IsWellFormedSlot slot
    → IsServed (request.Wrap pad kek second) (wrap_at calls engine pad key domain slot).answer
wrap_served calls engine pad kek second key domain slot keeps is_key well =
    let what = request.Wrap pad kek second in
    fault_served what engine slot (export_fault slot.header domain) _ (λ none. either_result what (is_wrappable pad slot.length) _ (refused_at engine slot status.BadLength)
    (λ good. success_served what (wrapping_in (calls.wrap engine pad key (parameter slot))) (wrapped_long calls engine pad key domain slot slot.header keeps is_key none good well))
    (refusal_served what status.BadLength refl refl))

unwrapped_served : {V : Type 0} (what : CryptographicRequest) (engine : V) (slot : Slot) (header : Header) (buf : List ℕ) (size : Option ℕ) → IsPayloadOf what 0
    → IsServed what (filled_by_unwrapping engine slot header buf size).answer
unwrapped_served what engine slot header buf None nothing = refusal_served what status.UnwrapFailed refl refl
unwrapped_served what engine slot header buf (Some n) nothing =
    let bytes = take n buf in
    either_result what (length_fits header.kind header.domain (length bytes)) (filled_at engine header bytes) (refused_at engine slot status.BadLength) (λ good. success_served what [] nothing)
    (refusal_served what status.BadLength refl refl)

pub service_served : {V : Type 0} (calls : Calls V) (engine : V) (drawn : List ℕ) (vault : Contents) (what : CryptographicRequest) → Keeps calls → IsCryptographicInRange what
    → IsCryptographicOfBytes what → IsDrawnFor what drawn → AreWellFormed vault → IsServed what (service_at calls engine drawn vault.slots what).answer
service_served calls engine drawn vault (request.Hash alg text) keeps range bytes fresh are =
    let whole = keeps.hash_length engine alg text in
    success_served (request.Hash alg text) (take (alg_size alg) (calls.hash engine alg text)) (length-take-le (alg_size alg) (calls.hash engine alg text) (let most = most_of alg in omega (arith, whole, most)))
service_served calls engine drawn vault (request.Mac slot alg mac_length text) keeps range bytes fresh are =
    let what = request.Mac slot alg mac_length text in
    let key = parameter (slot_in vault slot) in
    let whole = keeps.mac_length engine alg key text in
    source_served what engine (slot_in vault slot) (source_fault (slot_in vault slot).header kinds.Mac (is_approved service.Mac mac_length)) _ (λ k. success (take mac_length (calls.mac engine alg k text)))
    (λ none. success_served what (take mac_length (calls.mac engine alg key text))
    (length-take-le mac_length (calls.mac engine alg key text) (let most = most_of alg in let asked : mac_length ≤ alg_size alg = range.2 in omega (arith, whole, most, asked))))
service_served calls engine drawn vault (request.MacVerify slot alg tag text) keeps range bytes fresh are =
    let what = request.MacVerify slot alg tag text in
    source_served what engine (slot_in vault slot) (source_fault (slot_in vault slot).header kinds.Mac (is_approved service.MacVerify (length tag))) (λ k. calls.mac_after engine alg k text)
    (λ k. verified tag (calls.mac engine alg k text))
    (λ none. either_served what (is_leftmost tag (calls.mac engine alg (parameter (slot_in vault slot)) text)) (success []) (refusal status.AuthFailed) (success_served what [] refl)
    (refusal_served what status.AuthFailed refl refl))
service_served calls engine drawn vault (request.Seal slot tag_length aad text) keeps range bytes fresh are =
    let what = request.Seal slot tag_length aad text in
    let at = slot_in vault slot in
    source_served what engine at (source_fault at.header kinds.Aes (is_approved service.Seal 0)) _ _
    (λ none. let is_key = aes_is_key at at.header (is_approved service.Seal 0) none (are.each slot range.0) in
    let rest = sealed_long calls engine tag_length (parameter at) drawn aad text keeps is_key fresh.small range.2 in
    let sealed = calls.seal engine (parameter at) drawn aad text in
    success_served what (drawn ++ (sealed.ciphertext ++ take tag_length sealed.tag))
    (length-append drawn (sealed.ciphertext ++ take tag_length sealed.tag) ∙ (ap (λ n. n + length (sealed.ciphertext ++ take tag_length sealed.tag)) fresh.long ∙ ap (λ n. 12 + n) rest)))
service_served calls engine drawn vault (request.SealIv slot tag_length iv aad text) keeps range bytes fresh are =
    let what = request.SealIv slot tag_length iv aad text in
    let at = slot_in vault slot in
    source_served what engine at (source_fault at.header kinds.Aes (is_approved service.SealIv 0)) _ _
    (λ none. let is_key = aes_is_key at at.header (is_approved service.SealIv 0) none (are.each slot range.0) in
    success_served what _ (sealed_long calls engine tag_length (parameter at) iv aad text keeps is_key bytes range.2))
service_served calls engine drawn vault (request.Open slot iv aad text tag) keeps range bytes fresh are =
    let what = request.Open slot iv aad text tag in
    let at = slot_in vault slot in
    source_served what engine at (source_fault at.header kinds.Aes (is_approved service.Open 0)) (λ k. calls.open_after engine k iv aad text tag) (λ k. opened (calls.open engine k iv aad text tag))
    (λ none. let result : Opened = calls.open engine (parameter at) iv aad text tag in
    either_served what result.authentic (success result.text) (refusal status.AuthFailed) (success_served what result.text (keeps.open_length engine (parameter at) iv aad text tag))
    (refusal_served what status.AuthFailed refl refl))
service_served calls engine drawn vault (request.Wrap pad kek second) keeps range bytes fresh are =
    second_served (request.Wrap pad kek second) engine vault kek second (source_fault (slot_in vault kek).header kinds.Kek (is_approved (wrapping_service pad) 0)) (wrap_at calls engine pad) are range.0 range.1
    (λ none slot well. wrap_served calls engine pad kek second _ _ slot keeps
    (kek_is_key (slot_in vault kek) (slot_in vault kek).header (is_approved (wrapping_service pad) 0) none (are.each kek range.0)) well)
service_served calls engine drawn vault (request.Unwrap pad kek target kind export uses wrapped) keeps range bytes fresh are =
    let what = request.Unwrap pad kek target kind export uses wrapped in
    second_served what engine vault kek target (source_fault (slot_in vault kek).header kinds.Kek (is_approved (unwrapping_service pad) 0)) (unwrap_at calls engine pad kind export uses wrapped) are range.0 range.1
    (λ none slot well. fault_served what engine slot (vacancy_fault slot.header) _
    (λ vacant. let result = calls.unwrap engine pad (parameter (slot_in vault kek)) wrapped in unwrapped_served what _ slot _ result.buf result.size refl))
service_served calls engine drawn vault (request.Derive source target kind export uses long label context) keeps range bytes fresh are =
    let what = request.Derive source target kind export uses long label context in
    second_served what engine vault source target (source_fault (slot_in vault source).header kinds.Kdf (is_approved service.Derive 0)) (derive_at calls engine kind export uses long label context) are range.0 range.1
    (λ none slot well. fault_served what engine slot (vacancy_fault slot.header) _ (λ vacant. success_served what [] refl))
service_served calls engine drawn vault (request.Random long additional) keeps range bytes fresh are = success_served (request.Random long additional) drawn fresh.long
service_served calls engine drawn vault (request.Generate target header long) keeps range bytes fresh are =
    let what = request.Generate target header long in
    fault_served what engine (slot_in vault target) (vacancy_fault (slot_in vault target).header) _ (λ vacant. success_served what [] refl)
service_served calls engine drawn vault (request.Reseed additional) keeps range bytes fresh are = success_served (request.Reseed additional) [] refl
