-- What serving the lines of an operator leaves, by what is answered.
use Rattle.std.specs.Prelude.{◌≡◌, ◌⊎◌, ◌++◌, ℕ, List, [], Option}
use Rattle.outside.specs.Contents.{Appends}
use Rattle.outside.specs.declared.traits.Sample.{Sample}
use Rattle.engine_core.specs.Calls.{Calls}
use Rattle.state_model.specs.ModuleView.{ModuleView}
use Rattle.state_model.specs.MachineState.{MachineState}
use Rattle.stream_calls.specs.PartialWrites.{AppendsPart}
use Rattle.command_serving.specs.declared.serving.Ended.{Ended}
use Rattle.command_serving.specs.declared.serving.Ended.TheVariants as ended
use Rattle.command_serving.specs.Run.{RunsStream}
use Rattle.stream_calls.specs.Streams.{Streams}
use Rattle.command_serving.specs.Serving.{Serves}
use Rattle.command_serving.specs.Secrets.{KeepsSecrets}
use Rattle.line_serving.specs.declared.operating.Operated.{Operated}
use Rattle.line_serving.specs.declared.operating.Operated.TheVariants as operated
use Rattle.line_serving.specs.BadLines.{bad_line_text}
use Rattle.line_serving.specs.LineGrammar.{line_grammar}

-- what is answered to the end of a stream, and what the sink gains behind the replies
abbrev pub Tells : Ended → Operated → Option (List ℕ) → Option (List ℕ) → Type 0
-- no stream of lines is truncated
Tells ending operated.End before after = ((ending ≡ ended.End) ⊎ (ending ≡ ended.Truncated)) × (after ≡ before)
Tells ending (operated.BadLine number) before after = (ending ≡ ended.BadFrame number) × Appends before (bad_line_text number) after
Tells ending operated.ReadFault before after = (ending ≡ ended.ReadFault) × (after ≡ before)
Tells ending operated.WriteFault before after =
    ((ending ≡ ended.WriteFault) × (after ≡ before)) ⊎ ((number : ℕ) × (ending ≡ ended.BadFrame number) × AppendsPart before (bad_line_text number) after)
Tells ending operated.Limit before after = (ending ≡ ended.Limit) × (after ≡ before)

-- the streams, with this gained so far
abbrev pub with_gained : Streams → Option (List ℕ) → Streams
with_gained streams gained = record { left = streams.left; gained = gained }

-- Serving lines from s with these events of noise, which leaves those: as serving any stream. At a bad line the text that tells its number
-- stands behind the replies; after a write fault a part of it, or a part of a reply.
abbrev pub Operates : {V : Type 0} → Calls V → Operated → ℕ → MachineState V → ModuleView V → Streams → Streams → List Sample → List Sample → Type 0
Operates calls operated.End chunk s m before after events left = Serves line_grammar calls ended.End chunk s m before after events left
Operates calls (operated.BadLine number) chunk s m before after events left =
    (replied : Option (List ℕ)) × Serves line_grammar calls (ended.BadFrame number) chunk s m before (with_gained after replied) events left × Appends replied (bad_line_text number) after.gained
Operates calls operated.ReadFault chunk s m before after events left = Serves line_grammar calls ended.ReadFault chunk s m before after events left
Operates calls operated.WriteFault chunk s m before after events left =
    Serves line_grammar calls ended.WriteFault chunk s m before after events left
    ⊎ ((number : ℕ) × (replied : Option (List ℕ)) × Serves line_grammar calls (ended.BadFrame number) chunk s m before (with_gained after replied) events left
    × AppendsPart replied (bad_line_text number) after.gained)
Operates calls operated.Limit chunk s m before after events left = Serves line_grammar calls ended.Limit chunk s m before after events left

-- Serving lines kept its secrets, as serving any stream: what was served before the text that tells of a bad line. After a failed write
-- nothing is said.
abbrev pub KeepsLineSecrets : {V : Type 0} → Calls V → Operated → MachineState V → Streams → Streams → List Sample → List Sample → Type 0
KeepsLineSecrets calls operated.End s before after events left = KeepsSecrets line_grammar calls ended.End s before after events left
KeepsLineSecrets calls (operated.BadLine number) s before after events left =
    (replied : Option (List ℕ)) × KeepsSecrets line_grammar calls (ended.BadFrame number) s before (with_gained after replied) events left × Appends replied (bad_line_text number) after.gained
KeepsLineSecrets calls operated.ReadFault s before after events left = KeepsSecrets line_grammar calls ended.ReadFault s before after events left
KeepsLineSecrets calls operated.WriteFault s before after events left = Unit {0}
KeepsLineSecrets calls operated.Limit s before after events left = KeepsSecrets line_grammar calls ended.Limit s before after events left

-- how the stream ends to whose end this is answered
abbrev pub ending_for : Operated → Ended
ending_for operated.End = ended.End
ending_for (operated.BadLine number) = ended.BadFrame number
ending_for operated.ReadFault = ended.ReadFault
ending_for operated.WriteFault = ended.WriteFault
ending_for operated.Limit = ended.Limit

-- what is written behind the replies
abbrev pub last_text : Operated → List ℕ
last_text operated.End = []
last_text (operated.BadLine number) = bad_line_text number
last_text operated.ReadFault = []
last_text operated.WriteFault = []
last_text operated.Limit = []

-- the run over the lines of a source from s with these events of noise, what is answered and what is written: the replies' lines, and at a
-- bad line the text that tells its number
pub record RunsLines {V : Type 0} (calls : Calls V) (s : MachineState V) (events : List Sample) (bytes : List ℕ) (answer : Operated) (out : List ℕ) : Type 0 where
  pub machine : MachineState V
  pub replied : List ℕ
  pub runs : RunsStream line_grammar calls s events bytes machine (ending_for answer) replied
  pub whole : out ≡ replied ++ last_text answer
