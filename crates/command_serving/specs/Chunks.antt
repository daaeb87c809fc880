-- Serving a chunk of a stream: a relation that composes over chunks.
use Rattle.std.specs.Prelude.{◌≡◌, ◌≤◌, ◌<◌, ◌+◌, ◌++◌, ℕ, List, [], ◌∷◌, length, take, Option, Some}
use Rattle.outside.specs.Contents.{Appends}
use Rattle.outside.specs.declared.traits.Sample.{Sample}
use Rattle.engine_core.specs.Calls.{Calls}
use Rattle.module_frames.specs.CommandFrames.{CommandFrame}
use Rattle.module_frames.specs.Fragments.{Fragment}
use Rattle.module_frames.specs.ReplyFrames.{ReplyFrame}
use Rattle.state_model.specs.ModuleView.{ModuleView}
use Rattle.state_model.specs.MachineState.{MachineState}
use Rattle.state_model.specs.Represents.{Represents}
use Rattle.state_model.specs.Step.{step, reply_to}
use Rattle.command_serving.specs.declared.serving.Ended.{Ended}
use Rattle.command_serving.specs.Grammars.{Grammar, fault_number, IsEndMark}
use Rattle.command_serving.specs.Decoding.{IsReady}
use Rattle.stream_calls.specs.PartialWrites.{AppendsPart}
use Rattle.state_model.specs.Runs.{Ran, run_commands}
use Rattle.command_serving.specs.Run.{encoded_replies, ending_of}

-- what serving works on: the module, and what the sink gained
pub record ServerState (V : Type 0) : Type 0 where
  pub view : ModuleView V
  pub gained : Option (List ℕ)

-- From s, with bytes held and events of noise, a chunk leads to t, to other bytes held, to replies and to the events left.
pub record CommandsServed {V : Type 0} (grammar : Grammar) (calls : Calls V) (s : MachineState V) (events : List Sample) (held chunk : List ℕ) (t : MachineState V) (left : List Sample) (remainder : List ℕ)
    (replies : List ReplyFrame) : Type 0 where
  pub commands : List CommandFrame
  pub front : List ℕ
  pub whole : held ++ chunk ≡ front ++ remainder
  pub encoded : grammar.Encodes front commands
  pub ran : run_commands calls s events commands ≡ record { machine = t; replies = replies; left = left }

-- From s, with bytes held and events, a chunk leads to t, and a write failed in the reply to the last command: the commands before it
-- were answered, and of its reply there went less than all.
pub record ReplyCutOff {V : Type 0} (grammar : Grammar) (calls : Calls V) (s : MachineState V) (events : List Sample) (held chunk : List ℕ) (t : MachineState V) (left : List Sample) (out : List ℕ) : Type 0 where
  pub commands : List CommandFrame
  pub last : CommandFrame
  pub front : List ℕ
  pub unit : List ℕ
  pub more : List ℕ
  pub whole : held ++ chunk ≡ front ++ (unit ++ more)
  pub encoded : grammar.Encodes front commands
  pub last_encoded : grammar.Encodes unit (last ∷ [])
  pub answered : Ran V
  pub ran : run_commands calls s events commands ≡ answered
  pub stepped : t ≡ (step calls answered.machine answered.left last).machine
  pub events_left : left ≡ (step calls answered.machine answered.left last).left
  pub count : ℕ
  pub less : count < length (grammar.reply_encoding (reply_to last (step calls answered.machine answered.left last)))
  pub gained : out ≡ encoded_replies grammar answered.replies ++ take count (grammar.reply_encoding (reply_to last (step calls answered.machine answered.left last)))

-- with bytes held and events of noise a chunk was served, by the machine's definition, and other bytes are held and events left
pub record ChunkServed {V : Type 0} (grammar : Grammar) (calls : Calls V) (before : ServerState V) (held chunk remainder : List ℕ) (after : ServerState V) (events left : List Sample) : Type 0 where
  pub each : (s : MachineState V) → Represents before.view s →
      (t : MachineState V) × (replies : List ReplyFrame) × Represents after.view t × Appends before.gained (encoded_replies grammar replies) after.gained
      × CommandsServed grammar calls s events held chunk t left remainder replies

-- with bytes held a chunk was served up to a failed write
pub record WriteFailed {V : Type 0} (grammar : Grammar) (calls : Calls V) (before : ServerState V) (held chunk : List ℕ) (after : ServerState V) (events left : List Sample) : Type 0 where
  pub each : (s : MachineState V) → Represents before.view s →
      (t : MachineState V) × (out : List ℕ) × Represents after.view t × Appends before.gained out after.gained × ReplyCutOff grammar calls s events held chunk t left out

-- with these events of noise the command of a unit was done, and its reply written
pub record CommandAnswered {V : Type 0} (grammar : Grammar) (calls : Calls V) (before : ServerState V) (unit : List ℕ) (after : ServerState V) (events left : List Sample) : Type 0 where
  pub command : CommandFrame
  pub encoded : grammar.Encodes unit (command ∷ [])
  pub each : (s : MachineState V) → Represents before.view s →
      (let stepped = step calls s events command in
      Represents after.view stepped.machine × (stepped.left ≡ left) × Appends before.gained (grammar.reply_encoding (reply_to command stepped)) after.gained)

-- the command of a unit was done, and a part of its reply written
pub record AnswerCutOff {V : Type 0} (grammar : Grammar) (calls : Calls V) (before : ServerState V) (unit : List ℕ) (after : ServerState V) (events left : List Sample) : Type 0 where
  pub command : CommandFrame
  pub encoded : grammar.Encodes unit (command ∷ [])
  pub each : (s : MachineState V) → Represents before.view s →
      (let stepped = step calls s events command in
      Represents after.view stepped.machine × (stepped.left ≡ left) × AppendsPart before.gained (grammar.reply_encoding (reply_to command stepped)) after.gained)

-- all of a chunk was served, and a unit may go on with the bytes held then
pub record ChunkDone (grammar : Grammar) (old : Fragment) (chunk : List ℕ) (new : Fragment) : Type 0 where
  pub ready : IsReady grammar new
  pub place : new.start + grammar.advance new.bytes ≡ old.start + grammar.advance old.bytes + grammar.advance chunk
  pub short : new.start + length new.bytes ≤ old.start + length old.bytes + length chunk

-- a chunk was served up to a fault, which the remainder shows, with this number in the stream
pub record FaultShown (grammar : Grammar) (old : Fragment) (chunk : List ℕ) (start : ℕ) (remainder : List ℕ) (number : ℕ) : Type 0 where
  pub begins : start + grammar.advance remainder ≡ old.start + grammar.advance old.bytes + grammar.advance chunk
  pub fault : fault_number grammar start remainder ≡ Some number

-- with bytes held the source's end was served: what is read then leaves a remainder, and the stream ends by it
pub record EndServed {V : Type 0} (grammar : Grammar) (calls : Calls V) (before : ServerState V) (held : Fragment) (ending : Ended) (after : ServerState V) (events left : List Sample) : Type 0 where
  pub mark : List ℕ
  pub is_mark : IsEndMark grammar mark
  pub start : ℕ
  pub remainder : List ℕ
  pub begins : start + grammar.advance remainder ≡ held.start + grammar.advance held.bytes + grammar.advance mark
  pub unfinished : grammar.BeginsNoUnit remainder
  pub ends : ending ≡ ending_of grammar start remainder
  pub served : ChunkServed grammar calls before held.bytes mark remainder after events left

-- with bytes held the source's end was served up to a failed write
pub record EndWriteFailed {V : Type 0} (grammar : Grammar) (calls : Calls V) (before : ServerState V) (held : List ℕ) (after : ServerState V) (events left : List Sample) : Type 0 where
  pub mark : List ℕ
  pub is_mark : IsEndMark grammar mark
  pub failed : WriteFailed grammar calls before held mark after events left
