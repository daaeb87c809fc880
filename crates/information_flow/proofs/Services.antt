-- What each cryptographic service leaves at the slots of two worlds, and answers.
use Rattle.std.proofs.Common.{◌≡◌, ℕ, Bool, true, false, List, [], ◌∷◌, Option, Some, None, length, take, refl, arith, if◌then◌else◌}
use Rattle.std.specs.Prelude.{◌==◌, ◌&&◌, ◌||◌, not, is_some}
use Rattle.std.specs.List.{list_any, list_all}
use Rattle.std.proofs.lemmas.Bool.Decides.{nat_tests}
use Rattle.bits_core.specs.Algorithms.{alg_size}
use Rattle.bits_core.specs.Parameters.{length_fits}
use Rattle.bits_core.specs.declared.parameter.Domain.{Domain}
use Rattle.bits_core.specs.declared.parameter.Header.{Header}
use Rattle.bits_core.specs.declared.parameter.Kind.TheVariants as kinds
use Rattle.service_table.specs.declared.service.Service.TheVariants as service
use Rattle.service_table.specs.declared.status.Status.{Status}
use Rattle.service_table.specs.Services.{is_approved}
use Rattle.ssp_slots.specs.declared.slot.Slot.{Slot}
use Rattle.ssp_slots.specs.declared.slot_fault.SlotFault.{SlotFault}
use Rattle.ssp_slots.specs.Refusals.{export_fault, vacancy_fault}
use Rattle.ssp_slots.specs.Slots.{parameter}
use Rattle.module_frames.specs.Requests.{CryptographicRequest}
use Rattle.module_frames.specs.Requests as request
use Rattle.engine_core.specs.Calls.{Calls, IsStandard}
use Rattle.crypto_services.specs.AtSlots.{Answer, SlotResult, SlotsResult, slot_at, success, source, under_key, unless_fault}
use Rattle.crypto_services.specs.Indicator.{indicator, is_in_approved}
use Rattle.crypto_services.specs.Services.{mac_at, mac_verify_at}
use Rattle.crypto_services.specs.Sealing.{seal_at, seal_iv_at, open_at}
use Rattle.crypto_services.specs.Wrapping.{wrap_at, unwrap_at, is_wrappable, wrapping_source, unwrapping_source, filled_by_unwrapping, header_under}
use Rattle.crypto_services.specs.Derivation.{derive_at, derivation_source}
use Rattle.crypto_services.specs.Drawing.{generate_at}
use Rattle.state_model.specs.Cryptographic.{service_at, slots_named, link_of, use_of}
use Rattle.information_flow.specs.Tainted.{SlotsAgree}
use Rattle.information_flow.specs.Taint.{taint_linked}
use Rattle.information_flow.proofs.Agreeing.{or_left, or_right}
use Rattle.information_flow.proofs.Frames.{ResultsAgree, none_agree, one_agree, two_agree}

-- an engine that stays where its call leaves it stays under a key
key_plain : {V : Type 0} (v : V) (slot : Slot) (key : List ℕ) (reason : Option Status) (after : List ℕ → V) (answer : List ℕ → Answer) → ((k : List ℕ) → after k ≡ v)
    → (under_key v slot key reason after answer).engine ≡ v
key_plain v slot key None after answer plain = plain key
key_plain v slot key (Some reason) after answer plain = refl

pub fault_plain : {V : Type 0} (v : V) (slot : Slot) (fault : Option SlotFault) (served : SlotResult V) → served.engine ≡ v → (unless_fault v slot fault served).engine ≡ v
fault_plain v slot None served plain = plain
fault_plain v slot (Some reason) served plain = refl

fault_stays : {V : Type 0} (v : V) (slot : Slot) (fault : Option SlotFault) (served : SlotResult V) → served.slot ≡ slot → (unless_fault v slot fault served).slot ≡ slot
fault_stays v slot None served same = same
fault_stays v slot (Some reason) served same = refl

-- a full slot isn't filled
pub full_stays : {V : Type 0} (v : V) (slot : Slot) (header : Option Header) (served : SlotResult V) → is_some header ≡ true → (unless_fault v slot (vacancy_fault header) served).slot ≡ slot
full_stays v slot None served full = cc
full_stays v slot (Some header) served full = refl

either_plain : {V : Type 0} (v : V) (good : Bool) (served refused : SlotResult V) → served.engine ≡ v → refused.engine ≡ v → (if good then served else refused).engine ≡ v
either_plain v true served refused plain plain' = plain
either_plain v false served refused plain plain' = plain'

either_stays : {V : Type 0} (slot : Slot) (good : Bool) (served refused : SlotResult V) → served.slot ≡ slot → refused.slot ≡ slot → (if good then served else refused).slot ≡ slot
either_stays slot true served refused same same' = same
either_stays slot false served refused same same' = same'

wrap_plain : {V : Type 0} (calls : Calls V) → IsStandard calls → (v : V) (pad : Bool) (key : List ℕ) (domain : Domain) (slot : Slot) → (wrap_at calls v pad key domain slot).engine ≡ v
wrap_plain calls plain v pad key domain slot =
    fault_plain v slot (export_fault slot.header domain) _ (either_plain v (is_wrappable pad slot.length) _ _ (plain.wrap_after v pad key (parameter slot)) refl)

wrap_stays : {V : Type 0} (calls : Calls V) (v : V) (pad : Bool) (key : List ℕ) (domain : Domain) (slot : Slot) → (wrap_at calls v pad key domain slot).slot ≡ slot
wrap_stays calls v pad key domain slot = fault_stays v slot (export_fault slot.header domain) _ (either_stays slot (is_wrappable pad slot.length) _ _ refl refl)

unwrapped_plain : {V : Type 0} (w v : V) (slot : Slot) (header : Header) (buf : List ℕ) (size : Option ℕ) → w ≡ v → (filled_by_unwrapping w slot header buf size).engine ≡ v
unwrapped_plain w v slot header buf None same = same
unwrapped_plain w v slot header buf (Some size) same = either_plain v (length_fits header.kind header.domain (length (take size buf))) _ _ same same

unwrap_plain : {V : Type 0} (calls : Calls V) → IsStandard calls → (v : V) (pad : Bool) (header : Domain → Header) (wrapped key : List ℕ) (domain : Domain) (slot : Slot)
    → (let result = calls.unwrap v pad key wrapped in
    (unless_fault v slot (vacancy_fault slot.header) (filled_by_unwrapping (calls.unwrap_after v pad key wrapped) slot (header domain) result.buf result.size)).engine ≡ v)
unwrap_plain calls plain v pad header wrapped key domain slot =
    let result = calls.unwrap v pad key wrapped in
    fault_plain v slot (vacancy_fault slot.header) _ (unwrapped_plain (calls.unwrap_after v pad key wrapped) v slot (header domain) result.buf result.size (plain.unwrap_after v pad key wrapped))

-- a target that isn't tainted afterwards, under a tainted source, is full
full_if_unjoined : (tainted source full : Bool) (id : ℕ) → source ≡ true → (tainted || (source && (not full && (id == id)))) ≡ false → full ≡ true
full_if_unjoined tainted source full id h u = let self : (id == id) ≡ true = grind (arith, nat_tests) in grind (arith, nat_tests)

-- nothing that is observed: of two slots that are named neither is tainted
named_two : (first second : Bool) → (first || (second || false)) ≡ false → (first || second) ≡ false
named_two true second h = cc
named_two false true h = cc
named_two false false h = refl

named_one : (first : Bool) → (first || false) ≡ false → first ≡ false
named_one true h = cc
named_one false h = refl

-- what is observed is weakened to what a request names
by_named : {V : Type 0} (v : V) (tainted : ℕ → Bool) (observed named : Bool) (a b : SlotsResult V) → (named ≡ false → observed ≡ false) → ResultsAgree v tainted observed a b → ResultsAgree v tainted named a b
by_named v tainted observed named a b less agree = record { left = agree.left; right = agree.right; slots = agree.slots; same = λ u. agree.same (less u) }

-- each service at its slots
pub service_agrees : {V : Type 0} (calls : Calls V) → IsStandard calls → (v : V) (drawn : List ℕ) (tainted : ℕ → Bool) (a b : List Slot) (what : CryptographicRequest) → SlotsAgree tainted a b
    → ResultsAgree v (taint_linked a tainted (link_of what)) (list_any tainted (slots_named what)) (service_at calls v drawn a what) (service_at calls v drawn b what)
service_agrees calls plain v drawn tainted a b (request.Hash alg text) agree =
    none_agree v (calls.hash_after v alg text) tainted false a b (success (take (alg_size alg) (calls.hash v alg text))) (plain.hash_after v alg text) agree
service_agrees calls plain v drawn tainted a b (request.Mac slot alg mac_length text) agree =
    by_named v tainted (tainted slot) (tainted slot || false) _ _ (named_one (tainted slot))
    (one_agree v tainted a b slot (mac_at calls v alg mac_length text) (λ x. key_plain v _ _ (source kinds.Mac (is_approved service.Mac mac_length) x).refused _ _ (λ key. plain.mac_after v alg key text)) agree)
service_agrees calls plain v drawn tainted a b (request.MacVerify slot alg tag text) agree =
    by_named v tainted (tainted slot) (tainted slot || false) _ _ (named_one (tainted slot))
    (one_agree v tainted a b slot (mac_verify_at calls v alg tag text) (λ x. key_plain v _ _ (source kinds.Mac (is_approved service.MacVerify (length tag)) x).refused _ _ (λ key. plain.mac_after v alg key text)) agree)
service_agrees calls plain v drawn tainted a b (request.Seal slot tag_length aad text) agree =
    by_named v tainted (tainted slot) (tainted slot || false) _ _ (named_one (tainted slot))
    (one_agree v tainted a b slot (seal_at calls v tag_length drawn aad text) (λ x. key_plain v _ _ (source kinds.Aes (is_approved service.Seal 0) x).refused _ _ (λ key. plain.seal_after v key drawn aad text)) agree)
service_agrees calls plain v drawn tainted a b (request.SealIv slot tag_length iv aad text) agree =
    by_named v tainted (tainted slot) (tainted slot || false) _ _ (named_one (tainted slot))
    (one_agree v tainted a b slot (seal_iv_at calls v tag_length iv aad text) (λ x. key_plain v _ _ (source kinds.Aes (is_approved service.SealIv 0) x).refused _ _ (λ key. plain.seal_after v key iv aad text)) agree)
service_agrees calls plain v drawn tainted a b (request.Open slot iv aad text tag) agree =
    by_named v tainted (tainted slot) (tainted slot || false) _ _ (named_one (tainted slot))
    (one_agree v tainted a b slot (open_at calls v iv aad text tag) (λ x. key_plain v _ _ (source kinds.Aes (is_approved service.Open 0) x).refused _ _ (λ key. plain.open_after v key iv aad text tag)) agree)
service_agrees calls plain v drawn tainted a b (request.Wrap pad kek second) agree =
    by_named v tainted (tainted kek || tainted second) (tainted kek || (tainted second || false)) _ _ (named_two (tainted kek) (tainted second))
    (two_agree v tainted tainted a b kek second (wrapping_source pad) (wrap_at calls v pad) (λ key domain x. wrap_plain calls plain v pad key domain x) agree (λ k u. u)
    (λ h u key domain. wrap_stays calls v pad key domain (slot_at a second)))
service_agrees calls plain v drawn tainted a b (request.Unwrap pad kek target kind export uses wrapped) agree =
    by_named v _ (tainted kek || tainted target) (tainted kek || (tainted target || false)) _ _ (named_two (tainted kek) (tainted target))
    (two_agree v tainted (taint_linked a tainted (Some (record { source = kek; target = target }))) a b kek target (unwrapping_source pad) (unwrap_at calls v pad kind export uses wrapped)
    (λ key domain x. unwrap_plain calls plain v pad (header_under kind export uses) wrapped key domain x) agree (λ k u. or_left (tainted k) _ u)
    (λ h u key domain. full_stays v (slot_at a target) (slot_at a target).header _ (full_if_unjoined (tainted target) (tainted kek) (is_some (slot_at a target).header) target h u)))
service_agrees calls plain v drawn tainted a b (request.Derive from target kind export uses long label context) agree =
    by_named v _ (tainted from || tainted target) (tainted from || (tainted target || false)) _ _ (named_two (tainted from) (tainted target))
    (two_agree v tainted (taint_linked a tainted (Some (record { source = from; target = target }))) a b from target derivation_source (derive_at calls v kind export uses long label context)
    (λ key domain x. fault_plain v x (vacancy_fault x.header) _ (plain.derive_after v key label context long)) agree (λ k u. or_left (tainted k) _ u)
    (λ h u key domain. full_stays v (slot_at a target) (slot_at a target).header _ (full_if_unjoined (tainted target) (tainted from) (is_some (slot_at a target).header) target h u)))
service_agrees calls plain v drawn tainted a b (request.Random long additional) agree = none_agree v v tainted false a b (success drawn) refl agree
service_agrees calls plain v drawn tainted a b (request.Generate target header long) agree =
    by_named v tainted (tainted target) (tainted target || false) _ _ (named_one (tainted target))
    (one_agree v tainted a b target (generate_at v header drawn) (λ x. fault_plain v x (vacancy_fault x.header) _ refl) agree)
service_agrees calls plain v drawn tainted a b (request.Reseed additional) agree = none_agree v v tainted false a b (success []) refl agree

-- what isn't tainted, and isn't observed, isn't tainted after a link
pub unlinked : (slots : List Slot) (tainted : ℕ → Bool) (what : CryptographicRequest) → list_any tainted (slots_named what) ≡ false → (id : ℕ) → tainted id ≡ false
    → taint_linked slots tainted (link_of what) id ≡ false
unlinked slots tainted (request.Hash alg text) h id u = u
unlinked slots tainted (request.Mac slot alg mac_length text) h id u = u
unlinked slots tainted (request.MacVerify slot alg tag text) h id u = u
unlinked slots tainted (request.Seal slot tag_length aad text) h id u = u
unlinked slots tainted (request.SealIv slot tag_length iv aad text) h id u = u
unlinked slots tainted (request.Open slot iv aad text tag) h id u = u
unlinked slots tainted (request.Wrap pad kek second) h id u = u
unlinked slots tainted (request.Unwrap pad kek target kind export uses wrapped) h id u = rw (u, or_left (tainted kek) (tainted target || false) h) refl
unlinked slots tainted (request.Derive from target kind export uses long label context) h id u = rw (u, or_left (tainted from) (tainted target || false) h) refl
unlinked slots tainted (request.Random long additional) h id u = u
unlinked slots tainted (request.Generate target header long) h id u = u
unlinked slots tainted (request.Reseed additional) h id u = u

-- slots that aren't tainted are approved or not in both worlds
approved_agree : (tainted : ℕ → Bool) (a b : List Slot) → ((id : ℕ) → tainted id ≡ false → slot_at a id ≡ slot_at b id) → (named : List ℕ) → list_any tainted named ≡ false
    → list_all (λ id. is_in_approved (slot_at a id)) named ≡ list_all (λ id. is_in_approved (slot_at b id)) named
approved_agree tainted a b same [] h = refl
approved_agree tainted a b same (id ∷ more) h =
    rw (same id (or_left (tainted id) (list_any tainted more) h), approved_agree tainted a b same more (or_right (tainted id) (list_any tainted more) h)) refl

-- so is the indicator, where nothing that is tainted is observed
pub indicators_agree : (tainted : ℕ → Bool) (a b : List Slot) (what : CryptographicRequest) (outcome : Status) → ((id : ℕ) → tainted id ≡ false → slot_at a id ≡ slot_at b id)
    → list_any tainted (slots_named what) ≡ false → indicator (use_of what) outcome a ≡ indicator (use_of what) outcome b
indicators_agree tainted a b what outcome same h = rw (approved_agree tainted a b same (slots_named what) h) refl
