-- The commands that lead from a module without power to the officer's role.
use Rattle.std.specs.Prelude.{◌≡◌, List, [], ◌∷◌}
use Rattle.outside.specs.declared.traits.Sample.{Sample}
use Rattle.engine_core.specs.Calls.{Calls}
use Rattle.module_frames.specs.CommandFrames.{CommandFrame}
use Rattle.service_table.specs.declared.service.Service.TheVariants as service
use Rattle.session_commands.specs.SessionCommands.{command_of}
use Rattle.state_model.specs.MachineState.{MachineState}
use Rattle.state_model.specs.ModuleView.{ModuleView}
use Rattle.state_model.specs.Represents.{Represents}
use Rattle.state_model.specs.Runs.{run_commands}

-- power with period 0, the tests in their three steps, and the officer's role
abbrev pub officer_commands : List CommandFrame
officer_commands =
    command_of service.PowerOn (0 ∷ 0 ∷ 0 ∷ 0 ∷ [])
    ∷ command_of service.RequestTests []
    ∷ command_of service.TestStep []
    ∷ command_of service.TestStep []
    ∷ command_of service.TestStep []
    ∷ command_of service.SelectRole (1 ∷ [])
    ∷ []

-- From each state that the module was in, the machine steps over these commands to one that it is in then, and leaves these events of noise.
abbrev pub StepsThrough : {V : Type 0} → Calls V → List CommandFrame → ModuleView V → ModuleView V → List Sample → List Sample → Type 0
StepsThrough {V} calls commands before after events left =
    (s : MachineState V) → Represents before s → Represents after (run_commands calls s events commands).machine × ((run_commands calls s events commands).left ≡ left)
