-- What the machine leaves is a lawful transcript.
use Rattle.std.specs.Prelude.{◌≡◌, ℕ, Bool, List, [], ◌∷◌, Some, None}
use Rattle.std.specs.List.{AllByRecursion}
use Rattle.bits_core.specs.ByteList.{IsBytes}
use Rattle.outside.specs.declared.traits.Sample.{Sample}
use Rattle.engine_core.specs.Calls.{Calls}
use Rattle.module_frames.specs.CommandFrames.{CommandFrame}
use Rattle.module_frames.specs.PublicState.{unpowered}
use Rattle.module_frames.specs.ReplyFrames.{ReplyFrame}
use Rattle.module_frames.specs.Streams.{ParsesInto}
use Rattle.state_model.specs.MachineState.{initial_state}
use Rattle.state_model.specs.Runs.{run_commands}
use Rattle.transcript_check.specs.Checking.{IsChecked, first_no}
use Rattle.transcript_check.specs.Laws.{IsBlanked}
use Rattle.transcript_check.specs.Transcripts.{IsLawful}
use Rattle.transcript_pairs.specs.PairStreams.{ParsesIntoPairs, pairs_of}
use Rattle.machine_transcripts.specs.Weaving.{IsSent, woven, recorded_of}

-- Commands and replies leave a lawful transcript: their bytes are the frames of its pairs and nothing more, the pairs are lawful steps from
-- where there is no power, and no answer of a checker that is asked of them is no.
pub record LeaveLawful (commands : List CommandFrame) (replies : List ReplyFrame) : Type 0 where
  pub parses : ParsesIntoPairs (woven commands replies) (recorded_of commands replies) []
  pub lawful : IsLawful (pairs_of (recorded_of commands replies))
  pub passes : (answers : List Bool) → IsChecked (Some unpowered) (pairs_of (recorded_of commands replies)) answers → first_no answers ≡ None

-- the replies of a run over commands from the initial state, with this engine, image and digest and these events of noise
abbrev pub run_replies : {V : Type 0} → Calls V → V → (image digest : List ℕ) → List Sample → List CommandFrame → List ReplyFrame
run_replies calls engine image digest events commands = (run_commands calls (initial_state engine image digest) events commands).replies

-- Any commands and the replies of a run over them leave a lawful transcript, with any engine, image, digest and events of noise.
abbrev pub RunsLeaveLawfulTranscripts : {V : Type 0} → Calls V → Type 0
RunsLeaveLawfulTranscripts {V} calls = (engine : V) (image digest : List ℕ) (events : List Sample) (commands : List CommandFrame) → AllByRecursion IsSent commands
    → LeaveLawful commands (run_replies calls engine image digest events commands)

-- So do the commands that the bytes of a stream parse into, whatever remains of these.
abbrev pub StreamsLeaveLawfulTranscripts : {V : Type 0} → Calls V → Type 0
StreamsLeaveLawfulTranscripts {V} calls = (engine : V) (image digest : List ℕ) (events : List Sample) (bytes : List ℕ) (commands : List CommandFrame) (remainder : List ℕ)
    → IsBytes bytes → ParsesInto bytes commands remainder
    → LeaveLawful commands (run_replies calls engine image digest events commands)

-- each command is the other's, but for entered bytes, which are replaced by as many others
abbrev pub AreBlankedCommands : List CommandFrame → List CommandFrame → Type 0
AreBlankedCommands [] [] = Unit {0}
AreBlankedCommands [] (blank ∷ others) = ⊥
AreBlankedCommands (command ∷ commands) [] = ⊥
AreBlankedCommands (command ∷ commands) (blank ∷ others) = IsBlanked command blank × AreBlankedCommands commands others

-- The replies of a run leave a lawful transcript with commands, too, whose entered bytes are others than those that were sent.
abbrev pub BlankedTranscriptsStayLawful : {V : Type 0} → Calls V → Type 0
BlankedTranscriptsStayLawful {V} calls = (engine : V) (image digest : List ℕ) (events : List Sample) (commands blanked : List CommandFrame) → AllByRecursion IsSent commands
    → AreBlankedCommands commands blanked
    → LeaveLawful blanked (run_replies calls engine image digest events commands)
