-- The backup of what lines have made.
use Rattle.std.specs.Prelude.{◌≡◌, ◌⊎◌, ℕ, List, [], Option}
use Rattle.outside.specs.Contents.{Appends}
use Rattle.outside.specs.declared.traits.Sample.{Sample}
use Rattle.engine_core.specs.Calls.{Calls}
use Rattle.service_table.specs.declared.state.State.{State}
use Rattle.service_table.specs.declared.state.State.TheVariants as state
use Rattle.ssp_slots.specs.Slots.{Contents}
use Rattle.state_model.specs.ModuleView.{ModuleView}
use Rattle.state_model.specs.MachineState.{MachineState, state_of, vault_of}
use Rattle.vault_backup.specs.Backups.{backup_of}
use Rattle.stream_calls.specs.PartialWrites.{AppendsPart}
use Rattle.stream_calls.specs.Streams.{Streams}
use Rattle.command_serving.specs.declared.serving.Ended.{Ended}
use Rattle.command_serving.specs.declared.serving.Ended.TheVariants as ended
use Rattle.command_serving.specs.Run.{RunsStream}
use Rattle.line_serving.specs.BadLines.{bad_line_text}
use Rattle.line_serving.specs.LineGrammar.{line_grammar}
use Rattle.backup_runs.specs.declared.backing_up.BackedUp.{BackedUp}
use Rattle.backup_runs.specs.declared.backing_up.BackedUp.TheVariants as backed_up
use Rattle.backup_runs.specs.TwoKeys.{kek_of, mac_of}
use Rattle.backup_runs.specs.Stepping.{StepsOver}

-- one thing in the state Officer, and another in each other state
abbrev pub in_officer : {A : Type 0} → State → A → A → A
in_officer state.Off one other = other
in_officer state.Init one other = other
in_officer state.SelfTest one other = other
in_officer state.Approved one other = other
in_officer state.Officer one other = one
in_officer state.User one other = other
in_officer state.Entry one other = other
in_officer state.Error one other = other

-- what is answered where the lines ended so, in this state
abbrev pub backup_answer : Ended → State → BackedUp
backup_answer ended.End at = in_officer at backed_up.Written backed_up.NotOfficer
backup_answer (ended.BadFrame number) at = backed_up.BadLine number
backup_answer ended.Truncated at = in_officer at backed_up.Written backed_up.NotOfficer
backup_answer ended.ReadFault at = backed_up.ReadFault
backup_answer ended.WriteFault at = backed_up.WriteFault
backup_answer ended.Limit at = backed_up.Limit

-- What is written then: at the end of the lines, in the state Officer, the backup of the slots under the two keys; at a bad line the text that
-- tells its number; else nothing.
abbrev pub backup_text : Ended → State → Contents → (keys : List ℕ) → List ℕ
backup_text ended.End at vault keys = in_officer at (backup_of vault (kek_of keys) (mac_of keys)) []
backup_text (ended.BadFrame number) at vault keys = bad_line_text number
backup_text ended.Truncated at vault keys = in_officer at (backup_of vault (kek_of keys) (mac_of keys)) []
backup_text ended.ReadFault at vault keys = []
backup_text ended.WriteFault at vault keys = []
backup_text ended.Limit at vault keys = []

-- The machine steps over the lines of a source from s with these events of noise, whose replies aren't written; so it is answered then, and so
-- much is written.
pub record RunsBackup {V : Type 0} (calls : Calls V) (keys : List ℕ) (s : MachineState V) (events : List Sample) (bytes : List ℕ) (answer : BackedUp) (out : List ℕ) : Type 0 where
  pub machine : MachineState V
  pub ending : Ended
  pub replied : List ℕ
  pub runs : RunsStream line_grammar calls s events bytes machine ending replied
  pub answered : answer ≡ backup_answer ending (state_of machine)
  pub written : out ≡ backup_text ending (state_of machine) (vault_of machine) keys

-- a text was written, and this is answered; or up to a failed write a part of it
abbrev pub WritesOrFails : BackedUp → (text : List ℕ) → (answer : BackedUp) → (before after : Option (List ℕ)) → Type 0
WritesOrFails told text answer before after = ((answer ≡ told) × Appends before text after) ⊎ ((answer ≡ backed_up.WriteFault) × AppendsPart before text after)

-- What backing up leaves, from s with these events of noise, whatever the streams tell: the module stepped over the lines, and the text was written,
-- or a part of it.
pub record BacksUp {V : Type 0} (calls : Calls V) (answer : BackedUp) (chunk : ℕ) (keys : List ℕ) (s : MachineState V) (m : ModuleView V) (before after : Streams) (events left : List Sample) : Type 0 where
  pub ending : Ended
  pub stepped : StepsOver calls ending chunk s m before.left after.left events left
  pub written : WritesOrFails (backup_answer ending m.public.state) (backup_text ending m.public.state m.vault keys) answer before.gained after.gained
