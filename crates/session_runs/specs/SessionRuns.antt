-- The run of a session through the module.
use Rattle.std.specs.Prelude.{◌≡◌, List}
use Rattle.outside.specs.declared.traits.Sample.{Sample}
use Rattle.engine_core.specs.Calls.{Calls}
use Rattle.module_frames.specs.CommandFrames.{CommandFrame}
use Rattle.module_frames.specs.ReplyFrames.{ReplyFrame}
use Rattle.service_table.specs.declared.state.State.{State}
use Rattle.state_model.specs.MachineState.{MachineState, state_of}
use Rattle.state_model.specs.ModuleView.{ModuleView}
use Rattle.state_model.specs.Represents.{Represents}
use Rattle.state_model.specs.Runs.{run_commands}

-- From each state that the module was in, the machine steps over these commands to one that it is in then, and leaves these events of noise. Of the
-- replies and the last state it is so as is told.
abbrev pub RunsSession : {V : Type 0} → Calls V → List CommandFrame → ModuleView V → ModuleView V → (List ReplyFrame → State → Type 0) → List Sample → List Sample → Type 0
RunsSession {V} calls commands before after Tells events left =
    (s : MachineState V) → Represents before s →
    let ran = run_commands calls s events commands in
    Represents after ran.machine × (ran.left ≡ left) × Tells ran.replies (state_of ran.machine)

-- the same with these replies
abbrev pub Answers : {V : Type 0} → Calls V → List CommandFrame → ModuleView V → ModuleView V → List ReplyFrame → List Sample → List Sample → Type 0
Answers calls commands before after replies = RunsSession calls commands before after (λ told last. told ≡ replies)
