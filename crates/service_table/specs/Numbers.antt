-- The numbers by which frames name states, statuses and services: a table of this project's own.
use Rattle.std.specs.Prelude.{ℕ, ◌==◌, List, [], ◌∷◌, Option, find}
use Rattle.service_table.specs.declared.state.State.{State}
use Rattle.service_table.specs.declared.state.State.TheVariants as state
use Rattle.service_table.specs.declared.status.Status.{Status}
use Rattle.service_table.specs.declared.status.Status.TheVariants as status
use Rattle.service_table.specs.declared.service.Service.{Service}
use Rattle.service_table.specs.declared.service.Service.TheVariants as service

abbrev pub state_number : State → ℕ
state_number state.Off = 0
state_number state.Init = 1
state_number state.SelfTest = 2
state_number state.Approved = 3
state_number state.Officer = 4
state_number state.User = 5
state_number state.Entry = 6
state_number state.Error = 7

abbrev pub all_states : List State
all_states = state.Off ∷ state.Init ∷ state.SelfTest ∷ state.Approved ∷ state.Officer ∷ state.User ∷ state.Entry ∷ state.Error ∷ []

-- the state with this number, where one has it
abbrev pub state_numbered : ℕ → Option State
state_numbered number = find (λ s. state_number s == number) all_states

abbrev pub status_number : Status → ℕ
status_number status.Ok = 0
status_number status.UnknownService = 1
status_number status.NotInState = 2
status_number status.BadBody = 3
status_number status.TestFailed = 4
status_number status.NoiseFault = 5
status_number status.EmptySlot = 6
status_number status.WrongKind = 7
status_number status.WrongDomain = 8
status_number status.Spent = 9
status_number status.OccupiedSlot = 10
status_number status.NotExportable = 11
status_number status.BadLength = 12
status_number status.CheckFailed = 13
status_number status.AuthFailed = 14
status_number status.UnwrapFailed = 15
status_number status.OutOfOrder = 16

abbrev pub all_statuses : List Status
all_statuses =
    status.Ok ∷ status.UnknownService ∷ status.NotInState ∷ status.BadBody ∷ status.TestFailed ∷ status.NoiseFault ∷ status.EmptySlot
    ∷ status.WrongKind ∷ status.WrongDomain ∷ status.Spent ∷ status.OccupiedSlot ∷ status.NotExportable ∷ status.BadLength ∷ status.CheckFailed ∷ status.AuthFailed
    ∷ status.UnwrapFailed ∷ status.OutOfOrder ∷ []

abbrev pub status_numbered : ℕ → Option Status
status_numbered number = find (λ s. status_number s == number) all_statuses

abbrev pub service_number : Service → ℕ
service_number service.PowerOn = 0x01
service_number service.TestStep = 0x02
service_number service.RequestTests = 0x03
service_number service.ShowStatus = 0x04
service_number service.ShowVersion = 0x05
service_number service.SelectRole = 0x06
service_number service.Reset = 0x07
service_number service.EntryBegin = 0x08
service_number service.EntryBytes = 0x09
service_number service.EntryCommit = 0x0a
service_number service.EntryAbort = 0x0b
service_number service.Zeroise = 0x0c
service_number service.ZeroiseAll = 0x0d
service_number service.ShowSlot = 0x0e
service_number service.ZeroiseTree = 0x0f
service_number service.Hash = 0x10
service_number service.Mac = 0x11
service_number service.MacVerify = 0x12
service_number service.Seal = 0x13
service_number service.SealIv = 0x14
service_number service.Open = 0x15
service_number service.Wrap = 0x16
service_number service.Unwrap = 0x17
service_number service.WrapPad = 0x18
service_number service.UnwrapPad = 0x19
service_number service.Derive = 0x1a
service_number service.Random = 0x1b
service_number service.Generate = 0x1c
service_number service.Reseed = 0x1d

abbrev pub all_services : List Service
all_services =
    service.PowerOn ∷ service.TestStep ∷ service.RequestTests ∷ service.ShowStatus ∷ service.ShowVersion ∷ service.SelectRole ∷ service.Reset
    ∷ service.EntryBegin ∷ service.EntryBytes ∷ service.EntryCommit ∷ service.EntryAbort ∷ service.Zeroise ∷ service.ZeroiseAll ∷ service.ShowSlot ∷ service.ZeroiseTree
    ∷ service.Hash ∷ service.Mac ∷ service.MacVerify ∷ service.Seal ∷ service.SealIv ∷ service.Open ∷ service.Wrap ∷ service.Unwrap ∷ service.WrapPad
    ∷ service.UnwrapPad ∷ service.Derive ∷ service.Random ∷ service.Generate ∷ service.Reseed ∷ []

abbrev pub service_numbered : ℕ → Option Service
service_numbered number = find (λ s. service_number s == number) all_services
