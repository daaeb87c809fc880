-- One step of the machine.
use Rattle.std.specs.Prelude.{ℕ, List, Bool, false, Option, Some, None, if◌then◌else◌}
use Rattle.service_table.specs.declared.service.Service.{Service}
use Rattle.service_table.specs.declared.status.Status.{Status}
use Rattle.service_table.specs.declared.status.Status.TheVariants as status
use Rattle.service_table.specs.Numbers.{service_numbered}
use Rattle.service_table.specs.Services.{is_permitted}
use Rattle.ssp_slots.specs.declared.slot.Slot.{Slot}
use Rattle.outside.specs.declared.traits.Sample.{Sample}
use Rattle.module_frames.specs.CommandFrames.{CommandFrame}
use Rattle.module_frames.specs.ReplyFrames.{ReplyFrame}
use Rattle.module_frames.specs.Requests.{RequestValue, request_of}
use Rattle.module_frames.specs.Requests as request
use Rattle.module_frames.specs.PublicState.{no_block, status_block, sequence_block, version_block}
use Rattle.module_frames.specs.PublicEffects.{sequence_taken}
pub use Rattle.module_frames.specs.Sequencing.{is_in_order}
use Rattle.engine_core.specs.Calls.{Calls}
use Rattle.crypto_services.specs.AtSlots.{slot_at}
use Rattle.crypto_services.specs.Indicator.{indicator}
use Rattle.state_model.specs.SlotBlock.{slot_block}
use Rattle.state_model.specs.MachineState.{MachineState, state_of}
use Rattle.state_model.specs.Management.{Stepped, answered, refused, done, with_public, power_on, request_tests, test_step, select_role, reset, entry_begin, entry_bytes, entry_commit, entry_over, zeroise, zeroise_tree, zeroise_all}
use Rattle.state_model.specs.Cryptographic.{cryptographic_step, use_of}

-- what is done for a request; three services tell something in the block
abbrev pub perform : {V : Type 0} → Calls V → MachineState V → List Sample → RequestValue → Stepped V
perform calls s events (request.PowerOn period) = done (power_on s period) no_block events
perform calls s events request.TestStep = test_step calls s events
perform calls s events request.RequestTests = done (request_tests s) no_block events
perform calls s events request.ShowStatus = done s (status_block s.shared.public s.shared.tests_passed) events
perform calls s events request.ShowVersion = done s version_block events
perform calls s events (request.SelectRole role) = done (select_role s role) no_block events
perform calls s events request.Reset = done (reset s) no_block events
perform calls s events (request.EntryBegin slot header long) = done (entry_begin s (record { slot = slot; header = header; length = long })) no_block events
perform calls s events (request.EntryBytes piece) = entry_bytes s piece events
perform calls s events (request.EntryCommit check) = entry_commit calls s check events
perform calls s events request.EntryAbort = done (entry_over s) no_block events
perform calls s events (request.Zeroise slot) = done (zeroise s slot) no_block events
perform calls s events (request.ZeroiseTree slot) = done (zeroise_tree s slot) no_block events
perform calls s events request.ZeroiseAll = done (zeroise_all s) no_block events
perform calls s events (request.ShowSlot slot) = done s (slot_block (slot_at s.slots slot)) events
perform calls s events (request.Cryptographic what) = cryptographic_step calls s events what

-- The order of refusals: a number that is no service's, a service that isn't permitted in this state, a body that isn't of its
-- form. The first of these that holds is the reason.
abbrev pub dispatch_request : {V : Type 0} → Calls V → MachineState V → List Sample → Option RequestValue → Stepped V
dispatch_request calls s events None = refused s status.BadBody events
dispatch_request calls s events (Some what) = perform calls s events what

abbrev pub dispatch : {V : Type 0} → Calls V → MachineState V → List Sample → Option Service → List ℕ → Stepped V
dispatch calls s events None body = refused s status.UnknownService events
dispatch calls s events (Some service) body =
    if is_permitted service (state_of s) then dispatch_request calls s events (request_of service body) else refused s status.NotInState events

-- the number of a command that comes in its order is taken, whatever becomes of the command
abbrev pub number_taken : {V : Type 0} → MachineState V → Option ℕ → MachineState V
number_taken s None = s
number_taken s (Some number) = with_public s (sequence_taken s.shared.public)

-- a command out of its order changes nothing, and is told the number that is expected
abbrev pub out_of_order : {V : Type 0} → MachineState V → List Sample → Stepped V
out_of_order s events = answered s status.OutOfOrder (sequence_block s.shared.public) events

-- A step for a command, where these events of noise are left: before all else a command is refused that comes out of its order.
unfoldable pub step : {V : Type 0} → Calls V → MachineState V → List Sample → CommandFrame → Stepped V
step calls s events command =
    if is_in_order command.sequence s.shared.public.next_sequence
    then dispatch calls (number_taken s command.sequence) events (service_numbered command.service) command.body
    else out_of_order s events

-- the request that a command makes, where its service is known and its body is of the form
abbrev pub request_at : Option Service → List ℕ → Option RequestValue
request_at None body = None
request_at (Some service) body = request_of service body

-- The indicator of a reply, by the command, its status and the slots after it: of approved uses of cryptographic services alone.
abbrev pub indicated : Option RequestValue → Status → List Slot → Bool
indicated None outcome slots = false
indicated (Some (request.PowerOn period)) outcome slots = false
indicated (Some request.TestStep) outcome slots = false
indicated (Some request.RequestTests) outcome slots = false
indicated (Some request.ShowStatus) outcome slots = false
indicated (Some request.ShowVersion) outcome slots = false
indicated (Some (request.SelectRole role)) outcome slots = false
indicated (Some request.Reset) outcome slots = false
indicated (Some (request.EntryBegin slot header long)) outcome slots = false
indicated (Some (request.EntryBytes piece)) outcome slots = false
indicated (Some (request.EntryCommit check)) outcome slots = false
indicated (Some request.EntryAbort) outcome slots = false
indicated (Some (request.Zeroise slot)) outcome slots = false
indicated (Some (request.ZeroiseTree slot)) outcome slots = false
indicated (Some request.ZeroiseAll) outcome slots = false
indicated (Some (request.ShowSlot slot)) outcome slots = false
indicated (Some (request.Cryptographic what)) outcome slots = indicator (use_of what) outcome slots

-- the reply to a command, after its step: state and error code are those after it, also where it was refused
abbrev pub reply_to : {V : Type 0} → CommandFrame → Stepped V → ReplyFrame
reply_to command after = record {
  service = command.service;
  sequence = command.sequence;
  status = after.status;
  state = state_of after.machine;
  approved = indicated (request_at (service_numbered command.service) command.body) after.status after.machine.slots;
  code = after.machine.shared.public.error_code;
  block = after.block;
  payload = after.payload;
}
