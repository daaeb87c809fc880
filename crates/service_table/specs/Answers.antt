-- What each service may answer: a table of this project's own, with a row for each service and no default.
use Rattle.std.specs.Prelude.{◌==◌, ◌||◌, Bool, List, [], ◌∷◌}
use Rattle.std.specs.List.{list_any}
use Rattle.service_table.specs.declared.service.Service.{Service}
use Rattle.service_table.specs.declared.service.Service.TheVariants as service
use Rattle.service_table.specs.declared.status.Status.{Status}
use Rattle.service_table.specs.declared.status.Status.TheVariants as status
use Rattle.service_table.specs.Numbers.{status_number}

-- what every service may answer: that it was done, or that it wasn't begun
abbrev pub general_answers : List Status
general_answers = status.Ok ∷ status.NotInState ∷ status.BadBody ∷ []

-- a row of the table: what else the service may answer
abbrev pub answers_of : Service → List Status
answers_of service.PowerOn = []
answers_of service.TestStep = status.TestFailed ∷ status.NoiseFault ∷ []
answers_of service.RequestTests = []
answers_of service.ShowStatus = []
answers_of service.ShowVersion = []
answers_of service.SelectRole = []
answers_of service.Reset = []
answers_of service.EntryBegin = []
answers_of service.EntryBytes = status.BadLength ∷ []
answers_of service.EntryCommit = status.OccupiedSlot ∷ status.BadLength ∷ status.CheckFailed ∷ []
answers_of service.EntryAbort = []
answers_of service.Zeroise = []
answers_of service.ZeroiseAll = []
answers_of service.ShowSlot = []
answers_of service.ZeroiseTree = []
answers_of service.Hash = status.TestFailed ∷ []
answers_of service.Mac = status.TestFailed ∷ status.EmptySlot ∷ status.WrongKind ∷ status.WrongDomain ∷ status.Spent ∷ []
answers_of service.MacVerify = status.TestFailed ∷ status.EmptySlot ∷ status.WrongKind ∷ status.WrongDomain ∷ status.Spent ∷ status.AuthFailed ∷ []
answers_of service.Seal = status.TestFailed ∷ status.NoiseFault ∷ status.EmptySlot ∷ status.WrongKind ∷ status.Spent ∷ []
answers_of service.SealIv = status.TestFailed ∷ status.EmptySlot ∷ status.WrongKind ∷ status.WrongDomain ∷ status.Spent ∷ []
answers_of service.Open = status.TestFailed ∷ status.EmptySlot ∷ status.WrongKind ∷ status.Spent ∷ status.AuthFailed ∷ []
answers_of service.Wrap =
    status.TestFailed ∷ status.EmptySlot ∷ status.WrongKind ∷ status.WrongDomain ∷ status.Spent ∷ status.NotExportable ∷ status.BadLength ∷ []
answers_of service.Unwrap = status.TestFailed ∷ status.EmptySlot ∷ status.WrongKind ∷ status.Spent ∷ status.OccupiedSlot ∷ status.UnwrapFailed ∷ []
answers_of service.WrapPad = status.TestFailed ∷ status.EmptySlot ∷ status.WrongKind ∷ status.WrongDomain ∷ status.Spent ∷ status.NotExportable ∷ []
answers_of service.UnwrapPad =
    status.TestFailed ∷ status.EmptySlot ∷ status.WrongKind ∷ status.Spent ∷ status.OccupiedSlot ∷ status.BadLength ∷ status.UnwrapFailed ∷ []
answers_of service.Derive = status.TestFailed ∷ status.EmptySlot ∷ status.WrongKind ∷ status.Spent ∷ status.OccupiedSlot ∷ []
answers_of service.Random = status.NoiseFault ∷ []
answers_of service.Generate = status.NoiseFault ∷ status.OccupiedSlot ∷ []
answers_of service.Reseed = status.NoiseFault ∷ []

-- the status is one of these
abbrev pub is_status_among : List Status → Status → Bool
is_status_among these outcome = list_any (λ s. status_number s == status_number outcome) these

abbrev pub may_answer : Service → Status → Bool
may_answer requested outcome = is_status_among general_answers outcome || is_status_among (answers_of requested) outcome
