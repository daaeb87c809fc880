-- The bridge between a module and the machine.
use Rattle.std.specs.Prelude.{◌≡◌, ◌≢◌, ℕ, List}
use Rattle.noise_health.specs.Counts.{Counts}
use Rattle.service_table.specs.declared.state.State.TheVariants as state
use Rattle.service_table.specs.declared.status.Status.{Status}
use Rattle.module_frames.specs.declared.reply.Reply.{Reply}
use Rattle.module_frames.specs.CommandFrames.{CommandFrame}
use Rattle.module_frames.specs.Replies.{frame_of}
use Rattle.state_model.specs.ModuleView.{ModuleView}
use Rattle.state_model.specs.MachineState.{MachineState, IsWellFormed}
use Rattle.state_model.specs.Management.{Stepped}
use Rattle.state_model.specs.Step.{reply_to}

-- the machine that a module is, with the samples that its counters count
abbrev pub machine_of : {V : Type 0} → ModuleView V → List ℕ → MachineState V
machine_of m samples = record {
  shared = record {
    public = m.public;
    tests_passed = m.tests_passed;
    engine = m.engine;
    samples = samples;
    generator = m.generator;
    image = m.image;
    digest = m.digest;
    ancestry = m.vault.rows;
  };
  slots = m.vault.slots;
  entry = m.entry;
}

-- the module holds the values of this state, the rules hold, and its counters count the samples, but where the noise failed
pub record Represents {V : Type 0} (m : ModuleView V) (s : MachineState V) : Type 0 where
  pub same : machine_of m s.shared.samples ≡ s
  pub well_formed : IsWellFormed s
  pub counts : m.public.state ≢ state.Error → Counts m.health s.shared.samples

-- some state is represented
abbrev pub IsRepresented : {V : Type 0} → ModuleView V → Type 0
IsRepresented {V} m = (s : MachineState V) × Represents m s

-- the module, the status, the block and the payload are those of a step
pub record IsServiceResult {V : Type 0} (after : Stepped V) (m : ModuleView V) (outcome : Status) (block payload : List ℕ) : Type 0 where
  pub represents : Represents m after.machine
  pub same_status : outcome ≡ after.status
  pub same_block : block ≡ after.block
  pub same_payload : payload ≡ after.payload

-- the module and the reply are those of a step for the command, which leaves these events
pub record Replies {V : Type 0} (command : CommandFrame) (after : Stepped V) (m : ModuleView V) (reply : Reply) : Type 0 where
  pub represents : Represents m after.machine
  pub answer : frame_of reply ≡ reply_to command after
