-- What serving a stream leaves, by how it ended.
use Rattle.std.specs.Prelude.{◌≡◌, ◌≤◌, ◌<◌, ◌++◌, ◌⊎◌, ℕ, List, [], length, Option, None}
use Rattle.outside.specs.Contents.{Consumes, Appends}
use Rattle.outside.specs.declared.traits.Sample.{Sample}
use Rattle.engine_core.specs.Calls.{Calls}
use Rattle.module_frames.specs.CommandFrames.{CommandFrame}
use Rattle.module_frames.specs.ReplyFrames.{ReplyFrame}
use Rattle.state_model.specs.ModuleView.{ModuleView}
use Rattle.state_model.specs.MachineState.{MachineState}
use Rattle.state_model.specs.Represents.{Represents}
use Rattle.command_serving.specs.Grammars.{Grammar, IsParse}
use Rattle.stream_calls.specs.Streams.{Streams, IsAllOf}
use Rattle.stream_calls.specs.declared.limits.TheConstants.{STREAM_MAX}
use Rattle.command_serving.specs.declared.serving.Ended.{Ended}
use Rattle.command_serving.specs.declared.serving.Ended.TheVariants as ended
use Rattle.command_serving.specs.Run.{Runs, remainder_start, ending_of, encoded_replies}
use Rattle.command_serving.specs.Chunks.{ReplyCutOff}

-- the run over the bytes read was done and answered
pub record Answered {V : Type 0} (grammar : Grammar) (calls : Calls V) (s : MachineState V) (events : List Sample) (read remainder : List ℕ) (m : ModuleView V) (left : List Sample) (before after : Streams) : Type 0 where
  pub machine : MachineState V
  pub replies : List ReplyFrame
  pub runs : Runs grammar calls s events read machine replies left remainder
  pub represents : Represents m machine
  pub gained : Appends before.gained (encoded_replies grammar replies) after.gained

-- the source ended behind the bytes taken, and they were read so
pub record IsReadToEnd (grammar : Grammar) (taken read : List ℕ) (content : Option (List ℕ)) : Type 0 where
  pub read_at_end : read ≡ grammar.at_end taken
  pub below_limit : length taken < STREAM_MAX
  pub all : IsAllOf taken content

-- the bytes taken were read as they are, or as they are at the end of the source
abbrev pub IsReading : Grammar → List ℕ → List ℕ → Option (List ℕ) → Type 0
IsReading grammar taken read content = (read ≡ taken) ⊎ IsReadToEnd grammar taken read content

-- the bytes show no fault: they parse into commands and a remainder that shows none
pub record ShowsNoFault (grammar : Grammar) (bytes : List ℕ) : Type 0 where
  pub commands : List CommandFrame
  pub remainder : List ℕ
  pub parses : IsParse grammar bytes commands remainder
  pub no_fault : grammar.first_fault remainder ≡ None

-- Nothing was asked for once a fault showed: before the last read, of no more bytes than a chunk has, none did.
pub record AskedNoFurther (grammar : Grammar) (chunk : ℕ) (taken : List ℕ) : Type 0 where
  pub earlier : List ℕ
  pub last : List ℕ
  pub whole : taken ≡ earlier ++ last
  pub chunk_length : length last ≤ chunk
  pub no_fault : ShowsNoFault grammar earlier

-- why it ended so, with a chunk of this length and this content at the beginning
abbrev pub EndsBy : Grammar → Ended → ℕ → List ℕ → List ℕ → List ℕ → Option (List ℕ) → Type 0
-- the source ended, and all of it was whole units
EndsBy grammar ended.End chunk taken read remainder content = (ending_of grammar (remainder_start grammar read remainder) remainder ≡ ended.End) × IsReadToEnd grammar taken read content
-- the bytes show their first fault, which has this number, and no more was asked for
EndsBy grammar (ended.BadFrame number) chunk taken read remainder content =
    (ending_of grammar (remainder_start grammar read remainder) remainder ≡ ended.BadFrame number) × (length taken ≤ STREAM_MAX) × IsReading grammar taken read content × AskedNoFurther grammar chunk taken
-- the source ended inside a unit
EndsBy grammar ended.Truncated chunk taken read remainder content = (ending_of grammar (remainder_start grammar read remainder) remainder ≡ ended.Truncated) × IsReadToEnd grammar taken read content
-- as many bytes were taken as may be, and they show no fault
EndsBy grammar ended.Limit chunk taken read remainder content = (length taken ≡ STREAM_MAX) × (read ≡ taken) × (grammar.first_fault remainder ≡ None)
-- a read failed, and the bytes taken show no fault
EndsBy grammar ended.ReadFault chunk taken read remainder content = (length taken < STREAM_MAX) × (read ≡ taken) × (grammar.first_fault remainder ≡ None)
EndsBy grammar ended.WriteFault chunk taken read remainder content = Unit {0}

-- Serving from s with these events of noise, which leaves those: bytes were taken, and the run over them, as they were read, was done and
-- answered. After a write fault it was done and answered up to a part of the last reply.
abbrev pub Serves : {V : Type 0} → Grammar → Calls V → Ended → ℕ → MachineState V → ModuleView V → Streams → Streams → List Sample → List Sample → Type 0
Serves {V} grammar calls ended.WriteFault chunk s m before after events left =
    (taken : List ℕ) × (read : List ℕ) × Consumes before.left taken after.left × IsReading grammar taken read before.left
    × ((t : MachineState V) × (out : List ℕ) × Represents m t × Appends before.gained out after.gained × ReplyCutOff grammar calls s events [] read t left out)
Serves {V} grammar calls ending chunk s m before after events left =
    (taken : List ℕ) × (read : List ℕ) × (remainder : List ℕ) × Consumes before.left taken after.left × Answered grammar calls s events read remainder m left before after
    × EndsBy grammar ending chunk taken read remainder before.left
