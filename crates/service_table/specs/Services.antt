-- The table of services, which is this project's own (ISO/IEC 19790:2012, 7.4.3, asks for one): the states in which each is permitted,
-- the class of its output, and which of its uses are approved. It has a row for each service and no default.
use Rattle.std.specs.Prelude.{ℕ, ◌==◌, nat_le, Bool, true, false, List, [], ◌∷◌}
use Rattle.std.specs.List.{list_any}
use Rattle.service_table.specs.declared.approval.Approval.{Approval}
use Rattle.service_table.specs.declared.approval.Approval.TheVariants as approval
use Rattle.service_table.specs.declared.class.Class.{Class}
use Rattle.service_table.specs.declared.class.Class.TheVariants as class
use Rattle.service_table.specs.declared.service.Service.{Service}
use Rattle.service_table.specs.declared.service.Service.TheVariants as service
use Rattle.service_table.specs.declared.state.State.{State}
use Rattle.service_table.specs.declared.state.State.TheVariants as state
use Rattle.service_table.specs.Numbers.{service_number, state_number, all_states}

-- a row of the table: where the service is permitted
abbrev pub states_of : Service → List State
states_of service.PowerOn = state.Off ∷ []
states_of service.TestStep = state.SelfTest ∷ []
states_of service.RequestTests = state.Init ∷ state.Approved ∷ state.Officer ∷ state.User ∷ []
states_of service.ShowStatus = all_states
states_of service.ShowVersion = all_states
states_of service.SelectRole = state.Approved ∷ state.Officer ∷ state.User ∷ []
states_of service.Reset = state.Init ∷ state.SelfTest ∷ state.Approved ∷ state.Officer ∷ state.User ∷ state.Entry ∷ state.Error ∷ []
states_of service.EntryBegin = state.Officer ∷ []
states_of service.EntryBytes = state.Entry ∷ []
states_of service.EntryCommit = state.Entry ∷ []
states_of service.EntryAbort = state.Entry ∷ []
states_of service.Zeroise = state.Officer ∷ []
states_of service.ZeroiseAll = state.Officer ∷ []
states_of service.ShowSlot = state.Officer ∷ state.User ∷ []
states_of service.ZeroiseTree = state.Officer ∷ []
states_of service.Hash = state.Officer ∷ state.User ∷ []
states_of service.Mac = state.User ∷ []
states_of service.MacVerify = state.User ∷ []
states_of service.Seal = state.User ∷ []
states_of service.SealIv = state.User ∷ []
states_of service.Open = state.User ∷ []
states_of service.Wrap = state.Officer ∷ []
states_of service.Unwrap = state.Officer ∷ []
states_of service.WrapPad = state.Officer ∷ []
states_of service.UnwrapPad = state.Officer ∷ []
states_of service.Derive = state.Officer ∷ state.User ∷ []
states_of service.Random = state.Officer ∷ state.User ∷ []
states_of service.Generate = state.Officer ∷ []
states_of service.Reseed = state.Officer ∷ []

abbrev pub is_permitted : Service → State → Bool
is_permitted requested found = list_any (λ s. state_number s == state_number found) (states_of requested)

-- what the reply of each service may have: a payload, or nothing
abbrev pub class_of : Service → Class
class_of service.PowerOn = class.Nothing
class_of service.TestStep = class.Nothing
class_of service.RequestTests = class.Nothing
class_of service.ShowStatus = class.Nothing
class_of service.ShowVersion = class.Nothing
class_of service.SelectRole = class.Nothing
class_of service.Reset = class.Nothing
class_of service.EntryBegin = class.Nothing
class_of service.EntryBytes = class.Nothing
class_of service.EntryCommit = class.Nothing
class_of service.EntryAbort = class.Nothing
class_of service.Zeroise = class.Nothing
class_of service.ZeroiseAll = class.Nothing
class_of service.ShowSlot = class.Nothing
class_of service.ZeroiseTree = class.Nothing
class_of service.Hash = class.Payload
class_of service.Mac = class.Payload
class_of service.MacVerify = class.Nothing
class_of service.Seal = class.Payload
class_of service.SealIv = class.Payload
class_of service.Open = class.Payload
class_of service.Wrap = class.Payload
class_of service.Unwrap = class.Nothing
class_of service.WrapPad = class.Payload
class_of service.UnwrapPad = class.Nothing
class_of service.Derive = class.Nothing
class_of service.Random = class.Payload
class_of service.Generate = class.Nothing
class_of service.Reseed = class.Nothing

-- which uses of each service are approved
abbrev pub approval_of : Service → Approval
approval_of service.PowerOn = approval.NotCryptographic
approval_of service.TestStep = approval.NotCryptographic
approval_of service.RequestTests = approval.NotCryptographic
approval_of service.ShowStatus = approval.NotCryptographic
approval_of service.ShowVersion = approval.NotCryptographic
approval_of service.SelectRole = approval.NotCryptographic
approval_of service.Reset = approval.NotCryptographic
approval_of service.EntryBegin = approval.NotCryptographic
approval_of service.EntryBytes = approval.NotCryptographic
approval_of service.EntryCommit = approval.NotCryptographic
approval_of service.EntryAbort = approval.NotCryptographic
approval_of service.Zeroise = approval.NotCryptographic
approval_of service.ZeroiseAll = approval.NotCryptographic
approval_of service.ShowSlot = approval.NotCryptographic
approval_of service.ZeroiseTree = approval.NotCryptographic
approval_of service.Hash = approval.Always
approval_of service.Mac = approval.ByMacLength
approval_of service.MacVerify = approval.ByMacLength
approval_of service.Seal = approval.Always
approval_of service.SealIv = approval.Never
approval_of service.Open = approval.Always
approval_of service.Wrap = approval.Always
approval_of service.Unwrap = approval.Always
approval_of service.WrapPad = approval.Always
approval_of service.UnwrapPad = approval.Always
approval_of service.Derive = approval.Always
approval_of service.Random = approval.Always
approval_of service.Generate = approval.Always
approval_of service.Reseed = approval.Always

abbrev pub has_cryptography : Approval → Bool
has_cryptography approval.NotCryptographic = false
has_cryptography approval.Always = true
has_cryptography approval.ByMacLength = true
has_cryptography approval.Never = true

-- the cryptographic services
abbrev pub is_cryptographic : Service → Bool
is_cryptographic requested = has_cryptography (approval_of requested)

-- the least length of a MAC, in bytes, that is an approved use: a rule of this project's own
abbrev pub mac_least : ℕ
mac_least = 4

abbrev pub approves : Approval → ℕ → Bool
approves approval.NotCryptographic mac = false
approves approval.Always mac = true
approves approval.ByMacLength mac = nat_le mac_least mac
approves approval.Never mac = false

-- the service is one of these
abbrev pub is_among : List Service → Service → Bool
is_among these requested = list_any (λ s. service_number s == service_number requested) these

-- the services that use a slot's key
abbrev pub source_services : List Service
source_services =
    service.Mac ∷ service.MacVerify ∷ service.Seal ∷ service.SealIv ∷ service.Open ∷ service.Wrap ∷ service.Unwrap ∷ service.WrapPad
    ∷ service.UnwrapPad ∷ service.Derive ∷ []

-- the service that wraps a key, with padding (SP 800-38F, 6.3) or without (6.2)
abbrev pub wrapping_service : Bool → Service
wrapping_service true = service.WrapPad
wrapping_service false = service.Wrap

-- and the one that unwraps what it wrapped
abbrev pub unwrapping_service : Bool → Service
unwrapping_service true = service.UnwrapPad
unwrapping_service false = service.Unwrap

-- whether a service, with a MAC of this length where it has one, is an approved use
abbrev pub is_approved : Service → ℕ → Bool
is_approved requested mac = approves (approval_of requested) mac
