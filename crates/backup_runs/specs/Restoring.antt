-- Lines that are served from what a backup restores.
use Rattle.std.specs.Prelude.{◌≡◌, ◌≢◌, ℕ, List, [], Ok, Err}
use Rattle.outside.specs.declared.traits.Sample.{Sample}
use Rattle.engine_core.specs.Calls.{Calls}
use Rattle.service_table.specs.declared.state.State.TheVariants as state
use Rattle.ssp_slots.specs.declared.slot.Slot.{Slot}
use Rattle.ssp_slots.specs.Slots.{Contents}
use Rattle.state_model.specs.Copies.{restored_state}
use Rattle.state_model.specs.MachineState.{MachineState, IsWellFormed, state_of, vault_of}
use Rattle.state_model.specs.ModuleView.{ModuleView}
use Rattle.state_model.specs.Represents.{Represents}
use Rattle.state_model.specs.Runs.{Ran, run_commands}
use Rattle.stream_calls.specs.Streams.{Streams}
use Rattle.vault_backup.specs.Restoring.{Restores}
use Rattle.vault_backup.specs.declared.restore_fault.RestoreFault.{RestoreFault}
use Rattle.line_serving.specs.Operating.{Operates, KeepsLineSecrets, RunsLines}
use Rattle.backup_runs.specs.declared.restoring.Filling.{Filling}
use Rattle.backup_runs.specs.declared.restoring.Filling.TheVariants as filling
use Rattle.backup_runs.specs.declared.restoring.Restored.{Restored}
use Rattle.backup_runs.specs.declared.restoring.Restored.TheVariants as restored
use Rattle.backup_runs.specs.Officer.{officer_commands}
use Rattle.backup_runs.specs.TwoKeys.{kek_of, mac_of}

-- The backup restores these slots into the machine's vault, under the two keys.
pub record IsRestoredTo {V : Type 0} (keys backup : List ℕ) (s : MachineState V) (t : MachineState V) : Type 0 where
  pub count : ℕ
  pub slots : List Slot
  pub restores : Restores (kek_of keys) (mac_of keys) backup (vault_of s) (Ok count) (vault_of (restored_state s slots))
  pub machine : t ≡ restored_state s slots
  pub well_formed : IsWellFormed t

-- the backup is refused
pub record IsRefusedAt {V : Type 0} (keys backup : List ℕ) (s : MachineState V) : Type 0 where
  pub why : RestoreFault
  pub refuses : Restores (kek_of keys) (mac_of keys) backup (vault_of s) (Err why) (vault_of s)

-- what becomes of a backup, and of the module that was in s
abbrev pub Fills : {V : Type 0} → (keys backup : List ℕ) → MachineState V → Filling → ModuleView V → Type 0
Fills keys backup s filling.NotOfficer m = (state_of s ≢ state.Officer) × Represents m s
Fills keys backup s filling.Refused m = (state_of s ≡ state.Officer) × IsRefusedAt keys backup s × Represents m s
Fills {V} keys backup s filling.Done m = (state_of s ≡ state.Officer) × ((t : MachineState V) × IsRestoredTo keys backup s t × Represents m t)

-- what is left of the commands that lead to the officer's role, from s with these events of noise
abbrev pub as_officer : {V : Type 0} → Calls V → MachineState V → List Sample → Ran V
as_officer calls s events = run_commands calls s events officer_commands

-- Those commands lead from s with these events of noise to Officer, and leave those; and the backup restores the machine to t from there.
pub record BeginsRestored {V : Type 0} (calls : Calls V) (keys backup : List ℕ) (s : MachineState V) (events : List Sample) (t : MachineState V) (left : List Sample) : Type 0 where
  pub officer : state_of (as_officer calls s events).machine ≡ state.Officer
  pub restored : IsRestoredTo keys backup (as_officer calls s events).machine t
  pub noise_left : left ≡ (as_officer calls s events).left

-- What is answered from s with these events of noise over the bytes of a source, and what is written: nothing where the state isn't Officer or the backup
-- is refused; else the lines' run from what was restored.
abbrev pub RunsRestored : {V : Type 0} → Calls V → (keys backup : List ℕ) → MachineState V → List Sample → (bytes : List ℕ) → Restored → (out : List ℕ) → Type 0
RunsRestored calls keys backup s events bytes restored.NotOfficer out = (state_of (as_officer calls s events).machine ≢ state.Officer) × (out ≡ [])
RunsRestored calls keys backup s events bytes restored.Refused out =
    (state_of (as_officer calls s events).machine ≡ state.Officer) × IsRefusedAt keys backup (as_officer calls s events).machine × (out ≡ [])
RunsRestored {V} calls keys backup s events bytes (restored.Operated answer) out =
    (t : MachineState V) × (left : List Sample) × BeginsRestored calls keys backup s events t left × RunsLines calls t left bytes answer out

-- what is left where no line was read: the module after those commands, and the streams as they were
pub record StopsAsOfficer {V : Type 0} (calls : Calls V) (s : MachineState V) (m : ModuleView V) (before after : Streams) (events left : List Sample) : Type 0 where
  pub represents : Represents m (as_officer calls s events).machine
  pub noise_left : left ≡ (as_officer calls s events).left
  pub untouched : after ≡ before

-- what is left whatever the streams tell
abbrev pub RestoresAndOperates : {V : Type 0} → Calls V → Restored → (chunk : ℕ) → (keys backup : List ℕ) → MachineState V → ModuleView V → Streams → Streams → List Sample → List Sample → Type 0
RestoresAndOperates calls restored.NotOfficer chunk keys backup s m before after events left =
    (state_of (as_officer calls s events).machine ≢ state.Officer) × StopsAsOfficer calls s m before after events left
RestoresAndOperates calls restored.Refused chunk keys backup s m before after events left =
    (state_of (as_officer calls s events).machine ≡ state.Officer) × IsRefusedAt keys backup (as_officer calls s events).machine × StopsAsOfficer calls s m before after events left
RestoresAndOperates {V} calls (restored.Operated answer) chunk keys backup s m before after events left =
    (t : MachineState V) × (mid : List Sample) × BeginsRestored calls keys backup s events t mid × Operates calls answer chunk t m before after mid left

-- The lines behind a backup that was restored kept their secrets: each stream of lines that differs from those read in secrets alone would have run
-- alike from there.
abbrev pub KeepsRestoredSecrets : {V : Type 0} → Calls V → Restored → (keys backup : List ℕ) → MachineState V → Streams → Streams → List Sample → List Sample → Type 0
KeepsRestoredSecrets calls restored.NotOfficer keys backup s before after events left = Unit {0}
KeepsRestoredSecrets calls restored.Refused keys backup s before after events left = Unit {0}
KeepsRestoredSecrets {V} calls (restored.Operated answer) keys backup s before after events left =
    (t : MachineState V) × (mid : List Sample) × BeginsRestored calls keys backup s events t mid × KeepsLineSecrets calls answer t before after mid left
