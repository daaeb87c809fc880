-- All that is promised of a work on a module.
use Rattle.std.specs.Prelude.{◌≡◌, ◌≢◌, ◌⊎◌, ℕ, Bool, true, false, List, Option, length}
use Rattle.engine_core.specs.Calls.{Calls}
use Rattle.outside.specs.Explained.{Explained}
use Rattle.outside.specs.Faults.{FaultCounted}
use Rattle.outside.specs.declared.traits.Sample.{Sample}
use Rattle.state_model.specs.ModuleView.{ModuleView}
use Rattle.state_model.specs.MachineState.{MachineState}
use Rattle.stream_calls.specs.Streams.{Streams}
use Rattle.backup_runs.specs.declared.limits.TheConstants.{KEYS_LENGTH}
use Rattle.program_words.specs.Faults.{is_refusal}
use Rattle.program_words.specs.declared.words.Work.{Work}
use Rattle.program_words.specs.declared.words.Work.TheVariants as work
use Rattle.module_works.specs.Works.{LeavesWork}

-- whether a work reads its source
abbrev pub work_reads : Work → Bool
work_reads work.Serve = true
work_reads work.Operate = true
work_reads (work.Session seed count) = false
work_reads work.Backup = true
work_reads work.Restore = true

-- a work has the two keys where it needs them
abbrev pub HasKeyBytes : Work → List ℕ → Type 0
HasKeyBytes work.Serve keys = Unit {0}
HasKeyBytes work.Operate keys = Unit {0}
HasKeyBytes (work.Session seed count) keys = Unit {0}
HasKeyBytes work.Backup keys = length keys ≡ KEYS_LENGTH
HasKeyBytes work.Restore keys = length keys ≡ KEYS_LENGTH

-- what a work meets: its source and its sink, what they tell, and how many calls failed
pub record Met (S K : Type 0) : Type 0 where
  pub source : S
  pub sink : K
  pub streams : Streams
  pub read_faults : ℕ
  pub write_faults : ℕ

-- All that is promised of a work on a module that has s, beside its noise. Without memory, and where a backup is refused, nothing is read or written.
pub record IsWorkOutcome {V S K : Type 0} (work : Work) (keys backup : List ℕ) (calls : Calls V) (s : MachineState V) (noise noise' : Option (List Sample)) (status : ℕ) (before after : Met S K) : Type 0 where
  pub only_memory : is_refusal status ≡ true → status ≡ 7
  pub untouched : (status ≡ 7) ⊎ (status ≡ 15) → (after.source ≡ before.source) × (after.sink ≡ before.sink)
  pub worked : status ≢ 7 → (view : ModuleView V) × Explained noise noise' (λ events left. LeavesWork work keys backup calls status s view before.streams after.streams events left)
  pub source_stays : work_reads work ≡ false → after.source ≡ before.source
  pub read_fault : status ≡ 5 → FaultCounted before.read_faults after.read_faults
  pub reads_unchanged : status ≢ 5 → after.read_faults ≡ before.read_faults
  pub write_fault : status ≡ 6 → FaultCounted before.write_faults after.write_faults
  pub writes_unchanged : status ≢ 6 → after.write_faults ≡ before.write_faults
