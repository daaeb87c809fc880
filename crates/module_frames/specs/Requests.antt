-- The forms of bodies: what a body asks of a service, and else nothing.
use Rattle.std.specs.Prelude.{ℕ, ◌≡◌, ◌≢◌, ◌≤◌, ◌<◌, ◌+◌, ◌==◌, ◌&&◌, nat_le, nat_lt, Bool, true, false, List, length, take, drop, slice_index, Option, Some, None, IsTrue, if◌then◌else◌}
use Rattle.std.specs.Option.{option_map}
use Rattle.std.specs.Int.{from_be_bytes, w32}
use Rattle.bits_core.specs.declared.algorithm.Alg.{Alg}
use Rattle.bits_core.specs.declared.limits.TheConstants.{LARGEST_BODY, LARGEST_PAYLOAD}
use Rattle.bits_core.specs.declared.parameter.Domain.TheVariants.{Approved}
use Rattle.bits_core.specs.Parameters.{length_fits}
use Rattle.bits_core.specs.Algorithms.{alg_of, alg_size}
use Rattle.service_table.specs.declared.service.Service.{Service}
use Rattle.service_table.specs.declared.service.Service.TheVariants as service
use Rattle.service_table.specs.Services.{wrapping_service, unwrapping_service}
use Rattle.module_frames.specs.declared.request.Request.{Request}
use Rattle.module_frames.specs.declared.request.Request.TheVariants as request
pub use Rattle.module_frames.specs.RequestValues.{CryptographicRequest, Hash, Mac, MacVerify, Seal, SealIv, Open, Wrap, Unwrap, Derive, Random, Generate, Reseed}
pub use Rattle.module_frames.specs.RequestValues.{RequestValue, PowerOn, TestStep, RequestTests, ShowStatus, ShowVersion, SelectRole, Reset, EntryBegin, EntryBytes, EntryCommit, EntryAbort, Zeroise, ZeroiseAll, ShowSlot, ZeroiseTree, Cryptographic}
use Rattle.module_frames.specs.SharedParts.{new_parameter_of}
use Rattle.module_frames.specs.SealingBodies.{seal_of, seal_iv_of, open_of}
use Rattle.module_frames.specs.WrappingBodies.{wrap_of, unwrap_of, is_wrapped_length, unwrapped_fits}
use Rattle.module_frames.specs.DeriveBodies.{derive_of}
use Rattle.module_frames.specs.GeneratorBodies.{random_of, generate_of, reseed_of}

abbrev pub request_value : Request → RequestValue
request_value (request.PowerOn period) = PowerOn period
request_value request.TestStep = TestStep
request_value request.RequestTests = RequestTests
request_value request.ShowStatus = ShowStatus
request_value request.ShowVersion = ShowVersion
request_value (request.SelectRole role) = SelectRole role
request_value request.Reset = Reset
request_value (request.EntryBegin slot header long) = EntryBegin slot header long
request_value (request.EntryBytes piece) = EntryBytes piece.now
request_value (request.EntryCommit check) = EntryCommit check.now
request_value request.EntryAbort = EntryAbort
request_value (request.Zeroise slot) = Zeroise slot
request_value request.ZeroiseAll = ZeroiseAll
request_value (request.ShowSlot slot) = ShowSlot slot
request_value (request.ZeroiseTree slot) = ZeroiseTree slot
request_value (request.Hash alg text) = Cryptographic (Hash alg text.now)
request_value (request.Mac slot alg mac_length text) = Cryptographic (Mac slot alg mac_length text.now)
request_value (request.MacVerify slot alg tag text) = Cryptographic (MacVerify slot alg tag.now text.now)
request_value (request.Seal slot tag_length aad text) = Cryptographic (Seal slot tag_length aad.now text.now)
request_value (request.SealIv slot tag_length iv aad text) = Cryptographic (SealIv slot tag_length iv.now aad.now text.now)
request_value (request.Open slot iv aad text tag) = Cryptographic (Open slot iv.now aad.now text.now tag.now)
request_value (request.Wrap kek second) = Cryptographic (Wrap false kek second)
request_value (request.Unwrap kek target kind export uses wrapped) = Cryptographic (Unwrap false kek target kind export uses wrapped.now)
request_value (request.WrapPad kek second) = Cryptographic (Wrap true kek second)
request_value (request.UnwrapPad kek target kind export uses wrapped) = Cryptographic (Unwrap true kek target kind export uses wrapped.now)
request_value (request.Derive source target kind export uses long label context) =
    Cryptographic (Derive source target kind export uses long label.now context.now)
request_value (request.Random long additional) = Cryptographic (Random long additional.now)
request_value (request.Generate target header long) = Cryptographic (Generate target header long)
request_value (request.Reseed additional) = Cryptographic (Reseed additional.now)

-- a period of four bytes, at most 1,000,000
abbrev pub power_on_of : List ℕ → Option RequestValue
power_on_of body =
    if length body == 4 && nat_le (from_be_bytes w32 body) 1000000
    then Some (PowerOn (from_be_bytes w32 body))
    else None

-- a role of one byte, at most 2
abbrev pub select_role_of : List ℕ → Option RequestValue
select_role_of body =
    if length body == 1 && nat_le (slice_index body 0) 2
    then Some (SelectRole (slice_index body 0))
    else None

-- a parameter that is to be entered
abbrev pub entry_begin_of : List ℕ → Option RequestValue
entry_begin_of body = option_map (λ new. EntryBegin new.slot new.header new.length) (new_parameter_of body)

-- 1 to 64 bytes of a parameter
abbrev pub piece_of : List ℕ → Option RequestValue
piece_of body = if nat_le 1 (length body) && nat_le (length body) 64 then Some (EntryBytes body) else None

-- a check value of eight bytes
abbrev pub commit_of : List ℕ → Option RequestValue
commit_of body = if length body == 8 then Some (EntryCommit body) else None

-- the number of a slot, of one byte, at most 15
abbrev pub slot_of : List ℕ → Option ℕ
slot_of body = if length body == 1 && nat_lt (slice_index body 0) 16 then Some (slice_index body 0) else None

-- a hash's number in a byte, then the text
abbrev pub hash_of : List ℕ → Option RequestValue
hash_of body =
    if nat_le 1 (length body)
    then option_map (λ alg. Cryptographic (Hash alg (drop 1 body))) (alg_of (slice_index body 0))
    else None

-- a MAC has at least one byte, and at most the hash's size
abbrev pub is_mac_length : Alg → ℕ → Bool
is_mac_length alg mac_length = nat_le 1 mac_length && nat_le mac_length (alg_size alg)

-- a MAC of that length with a known hash, under a slot below 16
abbrev pub mac_with : ℕ → Option Alg → ℕ → List ℕ → Option RequestValue
mac_with slot (Some alg) mac_length text =
    if nat_lt slot 16 && is_mac_length alg mac_length
    then Some (Cryptographic (Mac slot alg mac_length text))
    else None
mac_with slot None mac_length text = None

-- slot, hash and the MAC's length in a byte each, then the text
abbrev pub mac_of : List ℕ → Option RequestValue
mac_of body =
    if nat_le 3 (length body)
    then mac_with (slice_index body 0) (alg_of (slice_index body 1)) (slice_index body 2) (drop 3 body)
    else None

-- a MAC of that length to check in front of the text, with a known hash, under a slot below 16
abbrev pub verify_with : ℕ → Option Alg → ℕ → List ℕ → Option RequestValue
verify_with slot (Some alg) mac_length remainder =
    if nat_lt slot 16 && (is_mac_length alg mac_length && nat_le mac_length (length remainder))
    then Some (Cryptographic (MacVerify slot alg (take mac_length remainder) (drop mac_length remainder)))
    else None
verify_with slot None mac_length remainder = None

-- slot, hash and the MAC's length in a byte each, then the MAC and the text
abbrev pub mac_verify_of : List ℕ → Option RequestValue
mac_verify_of body =
    if nat_le 3 (length body)
    then verify_with (slice_index body 0) (alg_of (slice_index body 1)) (slice_index body 2) (drop 3 body)
    else None

-- a body without bytes
abbrev pub empty_of : List ℕ → RequestValue → Option RequestValue
empty_of body value = if length body == 0 then Some value else None

abbrev pub request_of : Service → List ℕ → Option RequestValue
request_of service.PowerOn body = power_on_of body
request_of service.TestStep body = empty_of body TestStep
request_of service.RequestTests body = empty_of body RequestTests
request_of service.ShowStatus body = empty_of body ShowStatus
request_of service.ShowVersion body = empty_of body ShowVersion
request_of service.SelectRole body = select_role_of body
request_of service.Reset body = empty_of body Reset
request_of service.EntryBegin body = entry_begin_of body
request_of service.EntryBytes body = piece_of body
request_of service.EntryCommit body = commit_of body
request_of service.EntryAbort body = empty_of body EntryAbort
request_of service.Zeroise body = option_map (λ slot. Zeroise slot) (slot_of body)
request_of service.ZeroiseAll body = empty_of body ZeroiseAll
request_of service.ShowSlot body = option_map (λ slot. ShowSlot slot) (slot_of body)
request_of service.ZeroiseTree body = option_map (λ slot. ZeroiseTree slot) (slot_of body)
request_of service.Hash body = hash_of body
request_of service.Mac body = mac_of body
request_of service.MacVerify body = mac_verify_of body
request_of service.Seal body = seal_of body
request_of service.SealIv body = seal_iv_of body
request_of service.Open body = open_of body
request_of service.Wrap body = wrap_of false body
request_of service.Unwrap body = unwrap_of false body
request_of service.WrapPad body = wrap_of true body
request_of service.UnwrapPad body = unwrap_of true body
request_of service.Derive body = derive_of body
request_of service.Random body = random_of body
request_of service.Generate body = generate_of body
request_of service.Reseed body = reseed_of body

-- the numbers of a request are within their bounds
abbrev pub IsCryptographicInRange : CryptographicRequest → Type 0
IsCryptographicInRange (Hash alg text) = Unit {0}
IsCryptographicInRange (Mac slot alg mac_length text) = (slot < 16) × (1 ≤ mac_length) × (mac_length ≤ alg_size alg)
IsCryptographicInRange (MacVerify slot alg tag text) = (slot < 16) × (1 ≤ length tag) × (length tag ≤ alg_size alg)
IsCryptographicInRange (Seal slot tag_length aad text) =
    (slot < 16) × (12 ≤ tag_length) × (tag_length ≤ 16) × (length aad ≤ LARGEST_BODY) × (length text ≤ LARGEST_BODY)
    × (12 + length text + tag_length ≤ LARGEST_PAYLOAD)
IsCryptographicInRange (SealIv slot tag_length iv aad text) =
    (slot < 16) × (12 ≤ tag_length) × (tag_length ≤ 16) × (1 ≤ length iv) × (length iv ≤ 255) × (length aad ≤ LARGEST_BODY)
    × (length text ≤ LARGEST_BODY) × (length text + tag_length ≤ LARGEST_PAYLOAD)
IsCryptographicInRange (Open slot iv aad text tag) =
    (slot < 16) × (12 ≤ length tag) × (length tag ≤ 16) × (1 ≤ length iv) × (length iv ≤ 255) × (length aad ≤ LARGEST_BODY)
    × (length text ≤ LARGEST_BODY)
IsCryptographicInRange (Wrap pad kek second) = (kek < 16) × (second < 16) × (kek ≢ second)
IsCryptographicInRange (Unwrap pad kek target kind export uses wrapped) =
    (kek < 16) × (target < 16) × (kek ≢ target) × (1 ≤ uses) × IsTrue (is_wrapped_length pad (length wrapped))
    × IsTrue (unwrapped_fits pad kind (length wrapped))
IsCryptographicInRange (Derive source target kind export uses long label context) =
    (source < 16) × (target < 16) × (source ≢ target) × (1 ≤ uses) × IsTrue (length_fits kind Approved long)
    × (length label ≤ 255) × (length context ≤ 255)
IsCryptographicInRange (Random long additional) = (1 ≤ long) × (long ≤ 65536) × (length additional ≤ 256)
IsCryptographicInRange (Generate target header long) =
    (target < 16) × (1 ≤ header.uses) × IsTrue (length_fits header.kind header.domain long)
IsCryptographicInRange (Reseed additional) = length additional ≤ 256

abbrev pub IsInRange : RequestValue → Type 0
IsInRange (PowerOn period) = period ≤ 1000000
IsInRange TestStep = Unit {0}
IsInRange RequestTests = Unit {0}
IsInRange ShowStatus = Unit {0}
IsInRange ShowVersion = Unit {0}
IsInRange (SelectRole role) = role ≤ 2
IsInRange Reset = Unit {0}
IsInRange (EntryBegin slot header long) = (slot < 16) × (1 ≤ header.uses) × IsTrue (length_fits header.kind header.domain long)
IsInRange (EntryBytes piece) = (1 ≤ length piece) × (length piece ≤ 64)
IsInRange (EntryCommit check) = length check ≡ 8
IsInRange EntryAbort = Unit {0}
IsInRange (Zeroise slot) = slot < 16
IsInRange ZeroiseAll = Unit {0}
IsInRange (ShowSlot slot) = slot < 16
IsInRange (ZeroiseTree slot) = slot < 16
IsInRange (Cryptographic what) = IsCryptographicInRange what

-- the service that a request is for
abbrev pub cryptographic_service_for : CryptographicRequest → Service
cryptographic_service_for (Hash alg text) = service.Hash
cryptographic_service_for (Mac slot alg mac_length text) = service.Mac
cryptographic_service_for (MacVerify slot alg tag text) = service.MacVerify
cryptographic_service_for (Seal slot tag_length aad text) = service.Seal
cryptographic_service_for (SealIv slot tag_length iv aad text) = service.SealIv
cryptographic_service_for (Open slot iv aad text tag) = service.Open
cryptographic_service_for (Wrap pad kek second) = wrapping_service pad
cryptographic_service_for (Unwrap pad kek target kind export uses wrapped) = unwrapping_service pad
cryptographic_service_for (Derive source target kind export uses long label context) = service.Derive
cryptographic_service_for (Random long additional) = service.Random
cryptographic_service_for (Generate target header long) = service.Generate
cryptographic_service_for (Reseed additional) = service.Reseed

abbrev pub service_for : RequestValue → Service
service_for (PowerOn period) = service.PowerOn
service_for TestStep = service.TestStep
service_for RequestTests = service.RequestTests
service_for ShowStatus = service.ShowStatus
service_for ShowVersion = service.ShowVersion
service_for (SelectRole role) = service.SelectRole
service_for Reset = service.Reset
service_for (EntryBegin slot header long) = service.EntryBegin
service_for (EntryBytes piece) = service.EntryBytes
service_for (EntryCommit check) = service.EntryCommit
service_for EntryAbort = service.EntryAbort
service_for (Zeroise slot) = service.Zeroise
service_for ZeroiseAll = service.ZeroiseAll
service_for (ShowSlot slot) = service.ShowSlot
service_for (ZeroiseTree slot) = service.ZeroiseTree
service_for (Cryptographic what) = cryptographic_service_for what
