-- What is read from a body is in range, and is for the service whose body it is.
use Rattle.std.proofs.Common.{◌≡◌, ◌≤◌, ◌<◌, ◌^◌, ◌+◌, ◌-◌, ℕ, List, [], ◌∷◌, Bool, true, false, Option, Some, None, length, refl, arith, if◌then◌else◌, take, drop}
use Rattle.std.specs.Prelude.{◌==◌, ◌&&◌, not, nat_le, nat_lt, slice_index, IfSome, IsTrue}
use Rattle.std.specs.Option.{option_map}
use Rattle.std.specs.Int.{from_be_bytes, w32}
use Rattle.std.proofs.lemmas.Bool.Decides.{nat_tests}
use Rattle.bits_core.specs.ByteList.{IsBytes}
use Rattle.bits_core.proofs.Bytes.{IsBytes-drop, IsBytes-take}
use Rattle.bits_core.specs.declared.algorithm.Alg.{Alg}
use Rattle.bits_core.specs.declared.parameter.Kind.{Kind}
use Rattle.bits_core.specs.declared.parameter.Domain.{Domain}
use Rattle.bits_core.specs.Algorithms.{alg_of}
use Rattle.bits_core.specs.Parameters.{kind_of, domain_of, length_fits}
use Rattle.std.proofs.lemmas.List.{length-take-le, length-drop}
use Rattle.service_table.specs.declared.service.Service.{Service}
use Rattle.service_table.specs.declared.service.Service.TheVariants as service
use Rattle.bits_core.specs.declared.parameter.Domain.TheVariants.{Approved}
use Rattle.service_table.specs.Services.{wrapping_service, unwrapping_service}
use Rattle.module_frames.specs.declared.shared_parts.NewParameter.{NewParameter}
use Rattle.module_frames.specs.declared.shared_parts.Target.{Target}
use Rattle.module_frames.specs.SharedParts.{number_at, new_parameter_with, new_parameter_of, IsNewParameterInRange, target_with, target_of, IsTargetInRange}
use Rattle.module_frames.specs.SealingBodies.{is_tag_length, is_iv_length, has_head, seal_with, seal_iv_with, opened, open_with}
use Rattle.module_frames.specs.WrappingBodies.{wrap_of, is_wrapped_length, unwrapped_fits, unwrap_with}
use Rattle.module_frames.specs.DeriveBodies.{derive_with}
use Rattle.module_frames.specs.GeneratorBodies.{is_additional, random_with}
use Rattle.module_frames.specs.Requests.{RequestValue, CryptographicRequest, IsInRange, service_for, request_of, slot_of, mac_with, verify_with, is_mac_length}
use Rattle.module_frames.specs.Requests as request

-- what is kept of a body of bytes is of their size: a piece is bytes, and uses have 32 bits
abbrev pub IsCryptographicOfBytes : CryptographicRequest → Type 0
IsCryptographicOfBytes (request.SealIv slot tag_length iv aad text) = IsBytes iv
IsCryptographicOfBytes (request.Unwrap pad kek target kind export uses wrapped) = (uses < 2 ^ 32) × IsBytes wrapped
IsCryptographicOfBytes (request.Derive source target kind export uses long label context) = uses < 2 ^ 32
IsCryptographicOfBytes (request.Generate target header long) = header.uses < 2 ^ 32
IsCryptographicOfBytes other = Unit {0}

abbrev pub IsOfBytes : RequestValue → Type 0
IsOfBytes (request.Cryptographic what) = IsCryptographicOfBytes what
IsOfBytes (request.EntryBytes piece) = IsBytes piece
IsOfBytes (request.EntryBegin slot header long) = header.uses < 2 ^ 32
IsOfBytes other = Unit {0}

abbrev pub IsRead : Service → List ℕ → RequestValue → Type 0
IsRead found body what = IsInRange what × (service_for what ≡ found) × (IsBytes body → IsOfBytes what)

if_good : (good : Bool) (what : RequestValue) (P : RequestValue → Type 0) → (good ≡ true → P what) → IfSome (if good then Some what else None) P
if_good true what P holds = holds refl
if_good false what P holds = tt

if_whole : (whole : Bool) (read : Option RequestValue) (P : RequestValue → Type 0) → IfSome read P → IfSome (if whole then read else None) P
if_whole true read P holds = holds
if_whole false read P holds = tt

empty_read : (found : Service) (body : List ℕ) (what : RequestValue) → IsRead found body what → IfSome (request.empty_of body what) (IsRead found body)
empty_read found body what holds = if_good (length body == 0) what (IsRead found body) (λ _. holds)

slot_read : (found : Service) (body : List ℕ) (what : ℕ → RequestValue) → ((n : ℕ) → nat_lt n 16 ≡ true → IsRead found body (what n))
    → IfSome (option_map what (slot_of body)) (IsRead found body)
slot_read found body what holds = chosen (length body == 1) (nat_lt (slice_index body 0) 16) refl
  where
    chosen : (one small : Bool) → nat_lt (slice_index body 0) 16 ≡ small
        → IfSome (option_map what (if one && small then Some (slice_index body 0) else None)) (IsRead found body)
    chosen false small h = tt
    chosen true false h = tt
    chosen true true h = holds (slice_index body 0) h

-- four bytes are a number of 32 bits
four_bytes : (a b c d : ℕ) → a < 256 → b < 256 → c < 256 → d < 256 → from_be_bytes w32 (a ∷ b ∷ c ∷ d ∷ []) < 2 ^ 32
four_bytes a b c d ha hb hc hd = omega arith

number_small : (body : List ℕ) (place : ℕ) → IsBytes body → number_at body place < 2 ^ 32
number_small body place are =
    four_bytes (slice_index body place) (slice_index body (place + 1)) (slice_index body (place + 2)) (slice_index body (place + 3)) (are place) (are (place + 1)) (are (place + 2)) (are (place + 3))

if_mapped : {A : Type 0} (good : Bool) (x : A) (value : A → RequestValue) (P : RequestValue → Type 0) → (good ≡ true → P (value x)) → IfSome (option_map value (if good then Some x else None)) P
if_mapped true x value P holds = holds refl
if_mapped false x value P holds = tt

-- a parameter that is entered or drawn
with_read : (body : List ℕ) (slot : ℕ) (kind : Option Kind) (domain : Option Domain) (export uses long : ℕ) (value : NewParameter → RequestValue) (P : RequestValue → Type 0) → (IsBytes body → uses < 2 ^ 32)
    → ((new : NewParameter) → IsNewParameterInRange new → (IsBytes body → new.header.uses < 2 ^ 32) → P (value new))
    → IfSome (option_map value (new_parameter_with slot kind domain export uses long)) P
with_read body slot None domain export uses long value P small holds = tt
with_read body slot (Some kind) None export uses long value P small holds = tt
with_read body slot (Some kind) (Some domain) export uses long value P small holds =
    let new : NewParameter = record { slot = slot; header = record { kind = kind; domain = domain; export = export == 1; uses = uses }; length = long } in
    if_mapped (nat_lt slot 16 && (nat_le export 1 && (nat_le 1 uses && length_fits kind domain long))) new value P
    (λ h. holds new (tests slot export uses (length_fits kind domain long) h) small)
  where
    tests : (slot export uses : ℕ) (fits : Bool) → (nat_lt slot 16 && (nat_le export 1 && (nat_le 1 uses && fits))) ≡ true
        → (slot < 16) × (1 ≤ uses) × IsTrue fits
    tests slot export uses true h = (grind (arith, nat_tests), grind (arith, nat_tests), refl)
    tests slot export uses false h = absurd (grind (arith, nat_tests))

mapped_whole : (whole : Bool) (read : Option NewParameter) (value : NewParameter → RequestValue) (P : RequestValue → Type 0) → IfSome (option_map value read) P
    → IfSome (option_map value (if whole then read else None)) P
mapped_whole true read value P holds = holds
mapped_whole false read value P holds = tt

new_read : (body : List ℕ) (value : NewParameter → RequestValue) (P : RequestValue → Type 0)
    → ((new : NewParameter) → IsNewParameterInRange new → (IsBytes body → new.header.uses < 2 ^ 32) → P (value new)) → IfSome (option_map value (new_parameter_of body)) P
new_read body value P holds =
    mapped_whole (length body == 9) _ value P
    (with_read body (slice_index body 0) (kind_of (slice_index body 1)) (domain_of (slice_index body 2)) (slice_index body 3) (number_at body 4) (slice_index body 8) value P (number_small body 4) holds)

-- a target and the slot that it is made from
abbrev IsFine : List ℕ → Target → Type 0
IsFine body target = IsTargetInRange target × (IsBytes body → target.uses < 2 ^ 32)

target_read : (body : List ℕ) → IfSome (target_of body) (IsFine body)
target_read body = whole (nat_le 8 (length body)) (kind_of (slice_index body 2))
  where
    by_tests : (source slot export : ℕ) (kind : Kind) (good : Bool) → (nat_lt source 16 && (nat_lt slot 16 && (not (source == slot) && (nat_le export 1 && nat_le 1 (number_at body 4))))) ≡ good
        → IfSome (if good then Some (record { source = source; slot = slot; kind = kind; export = export == 1; uses = number_at body 4 }) else None) (IsFine body)
    by_tests source slot export kind true h = ((grind (arith, nat_tests, h), grind (arith, nat_tests, h), λ same. grind (arith, nat_tests, h, same), grind (arith, nat_tests, h)), number_small body 4)
    by_tests source slot export kind false h = tt

    by_kind : (kind : Option Kind) → IfSome (target_with (slice_index body 0) (slice_index body 1) kind (slice_index body 3) (number_at body 4)) (IsFine body)
    by_kind None = tt
    by_kind (Some kind) = by_tests (slice_index body 0) (slice_index body 1) (slice_index body 3) kind _ refl

    whole : (long : Bool) (kind : Option Kind) → IfSome (if long then target_with (slice_index body 0) (slice_index body 1) kind (slice_index body 3) (number_at body 4) else None) (IsFine body)
    whole true kind = by_kind kind
    whole false kind = tt

unwrap_read : (found : Service) (pad : Bool) (body : List ℕ) (target : Option Target) → unwrapping_service pad ≡ found → IfSome target (IsFine body) → IfSome (unwrap_with pad target (drop 8 body)) (IsRead found body)
unwrap_read found pad body None is fine = tt
unwrap_read found pad body (Some target) is fine =
    if_good (is_wrapped_length pad (length (drop 8 body)) && unwrapped_fits pad target.kind (length (drop 8 body)))
    (request.Cryptographic (request.Unwrap pad target.source target.slot target.kind target.export target.uses (drop 8 body))) (IsRead found body)
    (λ h. let both = two (is_wrapped_length pad (length (drop 8 body))) (unwrapped_fits pad target.kind (length (drop 8 body))) h in
    ((fine.0.0, fine.0.1, fine.0.2, fine.0.3, both.0, both.1), is, λ are. (fine.1 are, IsBytes-drop 8 body are)))
  where
    two : (a b : Bool) → (a && b) ≡ true → IsTrue a × IsTrue b
    two true true h = (refl, refl)
    two true false h = cc
    two false b h = cc

derive_read : (body : List ℕ) (target : Option Target) (long label_length : ℕ) (remainder : List ℕ) → IfSome target (IsFine body) → IfSome (derive_with target long label_length remainder) (IsRead service.Derive body)
derive_read body None long label_length remainder fine = tt
derive_read body (Some target) long label_length remainder fine =
    if_good (length_fits target.kind Approved long && (nat_le label_length 255 && (nat_le label_length (length remainder) && nat_le (length (drop label_length remainder)) 255)))
    (request.Cryptographic (request.Derive target.source target.slot target.kind target.export target.uses long (take label_length remainder) (drop label_length remainder))) (IsRead service.Derive body)
    (λ h. let rest = tests (length_fits target.kind Approved long) (length (drop label_length remainder)) h in
    let label : length (take label_length remainder) ≡ label_length = length-take-le label_length remainder rest.2 in
    let short : label_length ≤ 255 = rest.1 in
    ((fine.0.0, fine.0.1, fine.0.2, fine.0.3, rest.0, omega (arith, label, short), rest.3), refl, fine.1))
  where
    tests : (fits : Bool) (context : ℕ) → (fits && (nat_le label_length 255 && (nat_le label_length (length remainder) && nat_le context 255))) ≡ true
        → IsTrue fits × (label_length ≤ 255) × (label_length ≤ length remainder) × (context ≤ 255)
    tests true context h = (refl, grind (arith, nat_tests), grind (arith, nat_tests), grind (arith, nat_tests))
    tests false context h = absurd (grind (arith, nat_tests))

-- a body with a head is read behind it, and no longer than a body may be
if_headed : (n : ℕ) (body : List ℕ) (read : Option RequestValue) (P : RequestValue → Type 0) → (length (drop n body) + n ≤ 65600 → IfSome read P) → IfSome (if has_head n body then read else None) P
if_headed n body read P holds = chosen (has_head n body) refl
  where
    chosen : (headed : Bool) → has_head n body ≡ headed → IfSome (if headed then read else None) P
    chosen true h =
        let cut : length (drop n body) ≡ length body - n = length-drop n body in
        holds (grind (arith, nat_tests, h, cut))
    chosen false h = tt

seal_read : (body : List ℕ) (slot tag_length aad_length : ℕ) (remainder : List ℕ) → length remainder + 6 ≤ 65600 → IfSome (seal_with slot tag_length aad_length remainder) (IsRead service.Seal body)
seal_read body slot tag_length aad_length remainder most =
    if_good (nat_lt slot 16 && (is_tag_length tag_length && nat_le aad_length (length remainder)))
    (request.Cryptographic (request.Seal slot tag_length (take aad_length remainder) (drop aad_length remainder))) (IsRead service.Seal body)
    (λ h. let within : aad_length ≤ length remainder = grind (arith, nat_tests, h) in
    let tag : (12 ≤ tag_length) × (tag_length ≤ 16) = (grind (arith, nat_tests, h), grind (arith, nat_tests, h)) in
    let aad : length (take aad_length remainder) ≡ aad_length = length-take-le aad_length remainder within in
    let text : length (drop aad_length remainder) ≡ length remainder - aad_length = length-drop aad_length remainder in
    ((grind (arith, nat_tests, h), tag.0, tag.1, omega (arith, within, most, aad), omega (arith, most, text), omega (arith, most, text, tag.1)), refl, λ _. tt))

seal_iv_read : (body : List ℕ) (slot tag_length iv_length aad_length : ℕ) (remainder : List ℕ) → (IsBytes body → IsBytes remainder) → length remainder + 7 ≤ 65600
    → IfSome (seal_iv_with slot tag_length iv_length aad_length remainder) (IsRead service.SealIv body)
seal_iv_read body slot tag_length iv_length aad_length remainder of_body most =
    if_good (nat_lt slot 16 && (is_tag_length tag_length && (is_iv_length iv_length && nat_le (iv_length + aad_length) (length remainder))))
    (request.Cryptographic (request.SealIv slot tag_length (take iv_length remainder) (take aad_length (drop iv_length remainder)) (drop aad_length (drop iv_length remainder)))) (IsRead service.SealIv body)
    (λ h. let within : iv_length + aad_length ≤ length remainder = grind (arith, nat_tests, h) in
    let tag : (12 ≤ tag_length) × (tag_length ≤ 16) = (grind (arith, nat_tests, h), grind (arith, nat_tests, h)) in
    let ivs : (1 ≤ iv_length) × (iv_length ≤ 255) = (grind (arith, nat_tests, h), grind (arith, nat_tests, h)) in
    let iv : length (take iv_length remainder) ≡ iv_length = length-take-le iv_length remainder (omega (arith, within)) in
    let behind : length (drop iv_length remainder) ≡ length remainder - iv_length = length-drop iv_length remainder in
    let aad : length (take aad_length (drop iv_length remainder)) ≡ aad_length = length-take-le aad_length (drop iv_length remainder) (omega (arith, within, behind)) in
    let text : length (drop aad_length (drop iv_length remainder)) ≡ length (drop iv_length remainder) - aad_length = length-drop aad_length (drop iv_length remainder) in
    ((grind (arith, nat_tests, h), tag.0, tag.1, omega (arith, iv, ivs.0), omega (arith, iv, ivs.1), omega (arith, within, most, aad), omega (arith, most, text, behind), omega (arith, most, text, behind, tag.1)), refl, λ are_bytes. IsBytes-take iv_length remainder (of_body are_bytes)))

open_read : (body : List ℕ) (slot tag_length iv_length aad_length : ℕ) (remainder : List ℕ) → length remainder + 7 ≤ 65600
    → IfSome (open_with slot tag_length iv_length aad_length remainder) (IsRead service.Open body)
open_read body slot tag_length iv_length aad_length remainder most =
    if_good (nat_lt slot 16 && (is_tag_length tag_length && (is_iv_length iv_length && nat_le (iv_length + aad_length + tag_length) (length remainder))))
    (request.Cryptographic (opened slot tag_length (take iv_length remainder) (take aad_length (drop iv_length remainder)) (drop aad_length (drop iv_length remainder)))) (IsRead service.Open body)
    (λ h. let within : iv_length + aad_length + tag_length ≤ length remainder = grind (arith, nat_tests, h) in
    let tag : (12 ≤ tag_length) × (tag_length ≤ 16) = (grind (arith, nat_tests, h), grind (arith, nat_tests, h)) in
    let ivs : (1 ≤ iv_length) × (iv_length ≤ 255) = (grind (arith, nat_tests, h), grind (arith, nat_tests, h)) in
    let iv : length (take iv_length remainder) ≡ iv_length = length-take-le iv_length remainder (omega (arith, within)) in
    let behind : length (drop iv_length remainder) ≡ length remainder - iv_length = length-drop iv_length remainder in
    let aad : length (take aad_length (drop iv_length remainder)) ≡ aad_length = length-take-le aad_length (drop iv_length remainder) (omega (arith, within, behind)) in
    let sealed : List ℕ = drop aad_length (drop iv_length remainder) in
    let rest : length sealed ≡ length (drop iv_length remainder) - aad_length = length-drop aad_length (drop iv_length remainder) in
    let text : length (take (length sealed - tag_length) sealed) ≡ length sealed - tag_length = length-take-le (length sealed - tag_length) sealed (omega arith) in
    let cut : length (drop (length sealed - tag_length) sealed) ≡ length sealed - (length sealed - tag_length) = length-drop (length sealed - tag_length) sealed in
    let whole : length (drop (length sealed - tag_length) sealed) ≡ tag_length = omega (arith, cut, rest, behind, within) in
    ((grind (arith, nat_tests, h), omega (arith, whole, tag.0), omega (arith, whole, tag.1), omega (arith, iv, ivs.0), omega (arith, iv, ivs.1), omega (arith, within, most, aad), omega (arith, most, text, rest, behind)), refl, λ _. tt))

wrap_read : (found : Service) (pad : Bool) (body : List ℕ) → wrapping_service pad ≡ found → IfSome (wrap_of pad body) (IsRead found body)
wrap_read found pad body is =
    if_good (length body == 2 && (nat_lt (slice_index body 0) 16 && (nat_lt (slice_index body 1) 16 && not (slice_index body 0 == slice_index body 1))))
    (request.Cryptographic (request.Wrap pad (slice_index body 0) (slice_index body 1))) (IsRead found body)
    (λ h. ((grind (arith, nat_tests, h), grind (arith, nat_tests, h), λ same. grind (arith, nat_tests, h, same)), is, λ _. tt))

random_read : (body : List ℕ) (long : ℕ) (additional : List ℕ) → IfSome (random_with long additional) (IsRead service.Random body)
random_read body long additional =
    if_good (nat_le 1 long && (nat_le long 65536 && is_additional additional)) (request.Cryptographic (request.Random long additional)) (IsRead service.Random body)
    (λ h. ((grind (arith, nat_tests, h), grind (arith, nat_tests, h), grind (arith, nat_tests, h)), refl, λ _. tt))

mac_read : (body : List ℕ) (slot : ℕ) (alg : Option Alg) (mac_length : ℕ) (text : List ℕ) → IfSome (mac_with slot alg mac_length text) (IsRead service.Mac body)
mac_read body slot None mac_length text = tt
mac_read body slot (Some alg) mac_length text =
    if_good (nat_lt slot 16 && is_mac_length alg mac_length) (request.Cryptographic (request.Mac slot alg mac_length text)) (IsRead service.Mac body)
    (λ h. ((grind (arith, nat_tests, h), grind (arith, nat_tests, h), grind (arith, nat_tests, h)), refl, λ _. tt))

verify_read : (body : List ℕ) (slot : ℕ) (alg : Option Alg) (mac_length : ℕ) (remainder : List ℕ) → IfSome (verify_with slot alg mac_length remainder) (IsRead service.MacVerify body)
verify_read body slot None mac_length remainder = tt
verify_read body slot (Some alg) mac_length remainder =
    if_good (nat_lt slot 16 && (is_mac_length alg mac_length && nat_le mac_length (length remainder))) (request.Cryptographic (request.MacVerify slot alg (take mac_length remainder) (drop mac_length remainder))) (IsRead service.MacVerify body)
    (λ h. let within : mac_length ≤ length remainder = grind (arith, nat_tests, h) in
    let long : length (take mac_length remainder) ≡ mac_length = length-take-le mac_length remainder within in
    ((grind (arith, nat_tests, h), grind (arith, nat_tests, h, long), grind (arith, nat_tests, h, long)), refl, λ _. tt))

hash_read : (body text : List ℕ) (alg : Option Alg) → IfSome (option_map (λ a. request.Cryptographic (request.Hash a text)) alg) (IsRead service.Hash body)
hash_read body text None = tt
hash_read body text (Some alg) = (tt, refl, λ _. tt)

pub request_read : (found : Service) (body : List ℕ) → IfSome (request_of found body) (IsRead found body)
request_read service.PowerOn body =
    if_good (length body == 4 && nat_le (from_be_bytes w32 body) 1000000) (request.PowerOn (from_be_bytes w32 body)) (IsRead service.PowerOn body)
    (λ h. (grind (arith, nat_tests, h), refl, λ _. tt))
request_read service.TestStep body = empty_read service.TestStep body request.TestStep (tt, refl, λ _. tt)
request_read service.RequestTests body = empty_read service.RequestTests body request.RequestTests (tt, refl, λ _. tt)
request_read service.ShowStatus body = empty_read service.ShowStatus body request.ShowStatus (tt, refl, λ _. tt)
request_read service.ShowVersion body = empty_read service.ShowVersion body request.ShowVersion (tt, refl, λ _. tt)
request_read service.SelectRole body =
    if_good (length body == 1 && nat_le (slice_index body 0) 2) (request.SelectRole (slice_index body 0)) (IsRead service.SelectRole body)
    (λ h. (grind (arith, nat_tests, h), refl, λ _. tt))
request_read service.Reset body = empty_read service.Reset body request.Reset (tt, refl, λ _. tt)
request_read service.EntryBegin body =
    new_read body (λ new. request.EntryBegin new.slot new.header new.length) (IsRead service.EntryBegin body) (λ new range small. (range, refl, small))
request_read service.EntryBytes body =
    if_good (nat_le 1 (length body) && nat_le (length body) 64) (request.EntryBytes body) (IsRead service.EntryBytes body)
    (λ h. ((grind (arith, nat_tests, h), grind (arith, nat_tests, h)), refl, λ are_bytes. are_bytes))
request_read service.EntryCommit body = if_good (length body == 8) (request.EntryCommit body) (IsRead service.EntryCommit body) (λ h. (grind (arith, nat_tests, h), refl, λ _. tt))
request_read service.EntryAbort body = empty_read service.EntryAbort body request.EntryAbort (tt, refl, λ _. tt)
request_read service.Zeroise body = slot_read service.Zeroise body (λ n. request.Zeroise n) (λ n h. (grind (arith, nat_tests, h), refl, λ _. tt))
request_read service.ZeroiseAll body = empty_read service.ZeroiseAll body request.ZeroiseAll (tt, refl, λ _. tt)
request_read service.ShowSlot body = slot_read service.ShowSlot body (λ n. request.ShowSlot n) (λ n h. (grind (arith, nat_tests, h), refl, λ _. tt))
request_read service.Hash body = if_whole (nat_le 1 (length body)) (option_map (λ alg. request.Cryptographic (request.Hash alg (drop 1 body))) (alg_of (slice_index body 0))) (IsRead service.Hash body) (hash_read body (drop 1 body) (alg_of (slice_index body 0)))
request_read service.Mac body =
    if_whole (nat_le 3 (length body)) (mac_with (slice_index body 0) (alg_of (slice_index body 1)) (slice_index body 2) (drop 3 body)) (IsRead service.Mac body)
    (mac_read body (slice_index body 0) (alg_of (slice_index body 1)) (slice_index body 2) (drop 3 body))
request_read service.MacVerify body =
    if_whole (nat_le 3 (length body)) (verify_with (slice_index body 0) (alg_of (slice_index body 1)) (slice_index body 2) (drop 3 body)) (IsRead service.MacVerify body)
    (verify_read body (slice_index body 0) (alg_of (slice_index body 1)) (slice_index body 2) (drop 3 body))
request_read service.ZeroiseTree body = slot_read service.ZeroiseTree body (λ n. request.ZeroiseTree n) (λ n h. (grind (arith, nat_tests, h), refl, λ _. tt))
request_read service.Seal body = if_headed 6 body _ (IsRead service.Seal body) (seal_read body (slice_index body 0) (slice_index body 1) (number_at body 2) (drop 6 body))
request_read service.SealIv body = if_headed 7 body _ (IsRead service.SealIv body) (seal_iv_read body (slice_index body 0) (slice_index body 1) (slice_index body 2) (number_at body 3) (drop 7 body) (λ are_bytes. IsBytes-drop 7 body are_bytes))
request_read service.Open body = if_headed 7 body _ (IsRead service.Open body) (open_read body (slice_index body 0) (slice_index body 1) (slice_index body 2) (number_at body 3) (drop 7 body))
request_read service.Wrap body = wrap_read service.Wrap false body refl
request_read service.Unwrap body = unwrap_read service.Unwrap false body (target_of body) refl (target_read body)
request_read service.WrapPad body = wrap_read service.WrapPad true body refl
request_read service.UnwrapPad body = unwrap_read service.UnwrapPad true body (target_of body) refl (target_read body)
request_read service.Derive body = if_whole (nat_le 10 (length body)) _ (IsRead service.Derive body) (derive_read body (target_of body) (slice_index body 8) (slice_index body 9) (drop 10 body) (target_read body))
request_read service.Random body = if_whole (nat_le 4 (length body)) _ (IsRead service.Random body) (random_read body (number_at body 0) (drop 4 body))
request_read service.Generate body =
    new_read body (λ new. request.Cryptographic (request.Generate new.slot new.header new.length)) (IsRead service.Generate body) (λ new range small. (range, refl, small))
request_read service.Reseed body =
    if_good (is_additional body) (request.Cryptographic (request.Reseed body)) (IsRead service.Reseed body) (λ h. (grind (arith, nat_tests, h), refl, λ _. tt))
