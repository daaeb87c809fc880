-- What a work on the module does, and what it leaves whatever its streams tell.
use Rattle.std.specs.Prelude.{◌≡◌, ◌++◌, ◌⊎◌, ℕ, List, Option, Result, Ok, Err}
use Rattle.outside.specs.Contents.{Appends}
use Rattle.outside.specs.declared.traits.Sample.{Sample}
use Rattle.engine_core.specs.Calls.{Calls}
use Rattle.module_frames.specs.ReplyFrames.{ReplyFrame}
use Rattle.session_commands.specs.SessionCommands.{session_commands}
use Rattle.state_model.specs.ModuleView.{ModuleView}
use Rattle.state_model.specs.MachineState.{MachineState, state_of}
use Rattle.state_model.specs.Represents.{Represents}
use Rattle.state_model.specs.Runs.{Ran, run_commands}
use Rattle.stream_calls.specs.PartialWrites.{AppendsPart}
use Rattle.stream_calls.specs.declared.limits.TheConstants.{CHUNK}
use Rattle.command_serving.specs.declared.serving.Ended.{Ended}
use Rattle.command_serving.specs.declared.serving.Ended.TheVariants as ended
use Rattle.command_serving.specs.FrameGrammar.{frame_grammar}
use Rattle.command_serving.specs.Run.{RunsStream}
use Rattle.stream_calls.specs.Streams.{Streams}
use Rattle.command_serving.specs.Serving.{Serves}
use Rattle.line_serving.specs.declared.operating.Operated.{Operated}
use Rattle.line_serving.specs.declared.operating.Operated.TheVariants as operated
use Rattle.line_serving.specs.Operating.{Operates, RunsLines}
use Rattle.backup_runs.specs.declared.backing_up.BackedUp.{BackedUp}
use Rattle.backup_runs.specs.declared.backing_up.BackedUp.TheVariants as backed_up
use Rattle.backup_runs.specs.declared.restoring.Restored.{Restored}
use Rattle.backup_runs.specs.declared.restoring.Restored.TheVariants as restored
use Rattle.backup_runs.specs.BackingUp.{BacksUp, RunsBackup}
use Rattle.backup_runs.specs.TwoKeys.{AreKeys}
use Rattle.backup_runs.specs.Restoring.{RestoresAndOperates, RunsRestored}
use Rattle.session_runs.specs.Summaries.{summary}
use Rattle.program_words.specs.declared.words.Work.{Work}
use Rattle.program_words.specs.declared.words.Work.TheVariants as work

-- the exit status for how serving frames ended
abbrev pub exit_status : Ended → ℕ
exit_status ended.End = 0
exit_status (ended.BadFrame number) = 3
exit_status ended.Truncated = 4
exit_status ended.ReadFault = 5
exit_status ended.WriteFault = 6
exit_status ended.Limit = 12

-- the exit status for how the lines ended
abbrev pub line_status : Operated → ℕ
line_status operated.End = 0
line_status operated.ReadFault = 5
line_status operated.WriteFault = 6
line_status (operated.BadLine number) = 10
line_status operated.Limit = 12

-- the exit status for how backing up ended
abbrev pub backup_status : BackedUp → ℕ
backup_status backed_up.Written = 0
backup_status backed_up.ReadFault = 5
backup_status backed_up.WriteFault = 6
backup_status (backed_up.BadLine number) = 10
backup_status backed_up.Limit = 12
backup_status backed_up.NotOfficer = 14

-- the exit status for how lines behind a restored backup ended, or why there was none
abbrev pub restored_status : Restored → ℕ
restored_status restored.NotOfficer = 14
restored_status restored.Refused = 15
restored_status (restored.Operated answer) = line_status answer

-- the summary of the session of a seed and a count, run from s with these events of noise
abbrev pub summary_of : {V : Type 0} → Calls V → MachineState V → List Sample → (seed count : ℕ) → List ℕ
summary_of {V} calls s events seed count =
    let ran : Ran V = run_commands calls s events (session_commands seed count) in
    summary ran.replies (state_of ran.machine)

-- The status and the written bytes of a work from s with these events of noise, over these bytes of input, where no call fails. `Backup` and `Restore`
-- have the two keys, and the latter the backup; the others have none.
abbrev pub RunsWork : {V : Type 0} → Work → (keys backup : List ℕ) → Calls V → MachineState V → List Sample → (bytes : List ℕ) → (status : ℕ) → (out : List ℕ) → Type 0
RunsWork {V} work.Serve keys backup calls s events bytes status out =
    (t : MachineState V) × (ending : Ended) × (status ≡ exit_status ending) × RunsStream frame_grammar calls s events bytes t ending out
RunsWork work.Operate keys backup calls s events bytes status out = (answer : Operated) × (status ≡ line_status answer) × RunsLines calls s events bytes answer out
RunsWork (work.Session seed count) keys backup calls s events bytes status out = (status ≡ 0) × (out ≡ summary_of calls s events seed count)
RunsWork work.Backup keys backup calls s events bytes status out = (answer : BackedUp) × (status ≡ backup_status answer) × RunsBackup calls keys s events bytes answer out
RunsWork work.Restore keys backup calls s events bytes status out =
    AreKeys keys × ((answer : Restored) × (status ≡ restored_status answer) × RunsRestored calls keys backup s events bytes answer out)

-- a text was written whole, or up to a failed write a part of it
abbrev pub WritesText : (text : List ℕ) → (status : ℕ) → (before after : Option (List ℕ)) → Type 0
WritesText text status before after = ((status ≡ 0) × Appends before text after) ⊎ ((status ≡ 6) × AppendsPart before text after)

-- the exit status for how a write ended
abbrev pub written_status : {X E : Type 0} → Result X E → ℕ
written_status (Ok done) = 0
written_status (Err failed) = 6

-- the session was run, from s with these events of noise, and its summary written, or a part of it; the source is left alone
pub record SessionRun {V : Type 0} (calls : Calls V) (seed count : ℕ) (s : MachineState V) (m : ModuleView V) (status : ℕ) (before after : Option (List ℕ)) (events left : List Sample) : Type 0 where
  pub represents : Represents m (run_commands calls s events (session_commands seed count)).machine
  pub noise_left : left ≡ (run_commands calls s events (session_commands seed count)).left
  pub written : WritesText (summary_of calls s events seed count) status before after

-- a work from s with these events of noise leaves a module, streams and noise, whatever they tell, and the status says how it ended
abbrev pub LeavesWork : {V : Type 0} → Work → (keys backup : List ℕ) → Calls V → ℕ → MachineState V → ModuleView V → Streams → Streams → List Sample → List Sample → Type 0
LeavesWork work.Serve keys backup calls status s m before after events left = (ending : Ended) × (status ≡ exit_status ending) × Serves frame_grammar calls ending CHUNK s m before after events left
LeavesWork work.Operate keys backup calls status s m before after events left = (answer : Operated) × (status ≡ line_status answer) × Operates calls answer CHUNK s m before after events left
LeavesWork (work.Session seed count) keys backup calls status s m before after events left = SessionRun calls seed count s m status before.gained after.gained events left
LeavesWork work.Backup keys backup calls status s m before after events left = (answer : BackedUp) × (status ≡ backup_status answer) × BacksUp calls answer CHUNK keys s m before after events left
LeavesWork work.Restore keys backup calls status s m before after events left =
    AreKeys keys × ((answer : Restored) × (status ≡ restored_status answer) × RestoresAndOperates calls answer CHUNK keys backup s m before after events left)
