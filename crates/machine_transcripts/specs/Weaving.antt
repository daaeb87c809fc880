-- The transcript of commands and the replies to them: as bytes, and as pairs.
use Rattle.std.specs.Prelude.{ℕ, List, [], ◌∷◌, ◌++◌}
use Rattle.bits_core.specs.ByteList.{IsBytes}
use Rattle.module_frames.specs.CommandFrames.{CommandFrame, IsSendable, command_encoding}
use Rattle.module_frames.specs.ReplyFrames.{ReplyFrame, head_of, reply_encoding}
use Rattle.transcript_pairs.specs.PairStreams.{Recorded}

-- bytes may bring the command: it has a frame, and the frame is bytes
pub record IsSent (command : CommandFrame) : Type 0 where
  pub sendable : IsSendable command
  pub bytes : IsBytes (command_encoding command)

-- the frame of each command, and behind it the frame of its reply; a command or a reply that is left over is there too
abbrev pub woven : List CommandFrame → List ReplyFrame → List ℕ
woven [] [] = []
woven [] (reply ∷ replies) = reply_encoding reply ++ woven [] replies
woven (command ∷ commands) [] = command_encoding command ++ woven commands []
woven (command ∷ commands) (reply ∷ replies) = command_encoding command ++ (reply_encoding reply ++ woven commands replies)

-- a command, with the head of its reply and the reply's payload
abbrev pub recorded : CommandFrame → ReplyFrame → Recorded
recorded command reply = record { pair = record { command = command; reply = head_of reply }; payload = reply.payload }

-- each command with its reply
abbrev pub recorded_of : List CommandFrame → List ReplyFrame → List Recorded
recorded_of [] replies = []
recorded_of (command ∷ commands) [] = []
recorded_of (command ∷ commands) (reply ∷ replies) = recorded command reply ∷ recorded_of commands replies
