-- The order of refusals of a command that comes in its order, one at a time.
use Rattle.std.proofs.Common.{◌≡◌, ℕ, List, true, false, Some, None, [], refl}
use Rattle.service_table.specs.declared.service.Service.{Service}
use Rattle.service_table.specs.declared.status.Status.{Status}
use Rattle.service_table.specs.declared.status.Status.TheVariants as status
use Rattle.service_table.specs.Numbers.{service_numbered}
use Rattle.service_table.specs.Services.{is_permitted}
use Rattle.outside.specs.declared.traits.Sample.{Sample}
use Rattle.module_frames.specs.Requests.{request_of}
use Rattle.module_frames.specs.CommandFrames.{CommandFrame}
use Rattle.module_frames.specs.PublicState.{no_block}
use Rattle.engine_core.specs.Calls.{Calls}
use Rattle.state_model.specs.ModuleView.{ModuleView}
use Rattle.state_model.specs.MachineState.{MachineState, state_of}
use Rattle.state_model.specs.Management.{refused}
use Rattle.state_model.specs.Step.{dispatch, dispatch_request}
use Rattle.state_model.specs.Represents.{Represents, IsServiceResult}

pub dispatch_unknown : {V : Type 0} (calls : Calls V) (s : MachineState V) (events : List Sample) (command : CommandFrame) → service_numbered command.service ≡ None
    → dispatch calls s events (service_numbered command.service) command.body ≡ refused s status.UnknownService events
dispatch_unknown calls s events command none = rw none refl

pub dispatch_not_permitted : {V : Type 0} (calls : Calls V) (s : MachineState V) (events : List Sample) (command : CommandFrame) (found : Service) → service_numbered command.service ≡ Some found
    → is_permitted found (state_of s) ≡ false → dispatch calls s events (service_numbered command.service) command.body ≡ refused s status.NotInState events
dispatch_not_permitted calls s events command found known refusal = rw (known, refusal) refl

pub dispatch_requested : {V : Type 0} (calls : Calls V) (s : MachineState V) (events : List Sample) (command : CommandFrame) (found : Service) → service_numbered command.service ≡ Some found
    → is_permitted found (state_of s) ≡ true → dispatch calls s events (service_numbered command.service) command.body ≡ dispatch_request calls s events (request_of found command.body)
dispatch_requested calls s events command found known leave = rw (known, leave) refl

-- a refusal leaves the module, an empty block and no payload
pub refused_leaves : {V : Type 0} (m : ModuleView V) (s : MachineState V) (events : List Sample) (why : Status) (block payload : List ℕ) → Represents m s
    → block ≡ no_block → payload ≡ [] → IsServiceResult (refused s why events) m why block payload
refused_leaves m s events why block payload represents none empty =
    record { represents = represents; same_status = refl; same_block = none; same_payload = empty }
