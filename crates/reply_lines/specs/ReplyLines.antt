-- The line of a reply (a form of this project's own).
use Rattle.std.specs.Prelude.{ℕ, Bool, true, false, List, [], ◌∷◌, ◌++◌, codes}
use Rattle.std.specs.Int.{to_be_bytes, w16}
use Rattle.hex.specs.Hex.{encode_lower}
use Rattle.line_words.specs.Words.{joined_words}
use Rattle.service_table.specs.declared.state.State.{State}
use Rattle.service_table.specs.declared.state.State.TheVariants as state
use Rattle.service_table.specs.declared.status.Status.{Status}
use Rattle.service_table.specs.declared.status.Status.TheVariants as status
use Rattle.module_frames.specs.ReplyFrames.{ReplyFrame}

abbrev pub status_name : Status → List ℕ
status_name status.Ok = codes "Ok"
status_name status.UnknownService = codes "UnknownService"
status_name status.NotInState = codes "NotInState"
status_name status.BadBody = codes "BadBody"
status_name status.TestFailed = codes "TestFailed"
status_name status.NoiseFault = codes "NoiseFault"
status_name status.EmptySlot = codes "EmptySlot"
status_name status.WrongKind = codes "WrongKind"
status_name status.WrongDomain = codes "WrongDomain"
status_name status.Spent = codes "Spent"
status_name status.OccupiedSlot = codes "OccupiedSlot"
status_name status.NotExportable = codes "NotExportable"
status_name status.BadLength = codes "BadLength"
status_name status.CheckFailed = codes "CheckFailed"
status_name status.AuthFailed = codes "AuthFailed"
status_name status.UnwrapFailed = codes "UnwrapFailed"
status_name status.OutOfOrder = codes "OutOfOrder"

abbrev pub state_name : State → List ℕ
state_name state.Off = codes "Off"
state_name state.Init = codes "Init"
state_name state.SelfTest = codes "SelfTest"
state_name state.Approved = codes "Approved"
state_name state.Officer = codes "Officer"
state_name state.User = codes "User"
state_name state.Entry = codes "Entry"
state_name state.Error = codes "Error"

-- the indicator of approved services
abbrev pub indicator_word : Bool → List ℕ
indicator_word true = codes "1"
indicator_word false = codes "0"

-- the bytes in lower-case hex digits, or a hyphen for no byte
abbrev pub payload_word : List ℕ → List ℕ
payload_word [] = codes "-"
payload_word (byte ∷ bytes) = encode_lower (byte ∷ bytes)

-- the words of a reply: status, state, indicator, error code in four hex digits, block in 24, and payload
abbrev pub reply_words : ReplyFrame → List (List ℕ)
reply_words reply =
    status_name reply.status ∷ state_name reply.state ∷ indicator_word reply.approved ∷ encode_lower (to_be_bytes w16 reply.code) ∷ encode_lower reply.block
    ∷ payload_word reply.payload ∷ []

-- the words, parted by single spaces, and an LF
abbrev pub reply_line : ReplyFrame → List ℕ
reply_line reply = joined_words (reply_words reply) ++ 0x0a ∷ []
