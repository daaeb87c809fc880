-- A run of the machine over commands.
use Rattle.std.specs.Prelude.{List, [], ◌∷◌}
use Rattle.engine_core.specs.Calls.{Calls}
use Rattle.outside.specs.declared.traits.Sample.{Sample}
use Rattle.module_frames.specs.CommandFrames.{CommandFrame}
use Rattle.module_frames.specs.ReplyFrames.{ReplyFrame}
use Rattle.state_model.specs.MachineState.{MachineState}
use Rattle.state_model.specs.Step.{step, reply_to}

-- what a run over some commands leaves: the machine, the replies, and the events of noise that are left
pub record Ran (V : Type 0) : Type 0 where
  pub machine : MachineState V
  pub replies : List ReplyFrame
  pub left : List Sample

abbrev pub with_reply : {V : Type 0} → ReplyFrame → Ran V → Ran V
with_reply reply ran = record ran { replies = reply ∷ ran.replies }

-- the machine steps over the commands
unfoldable pub run_commands : {V : Type 0} → Calls V → MachineState V → List Sample → List CommandFrame → Ran V
run_commands calls s events [] = record { machine = s; replies = []; left = events }
run_commands calls s events (command ∷ commands) =
    let after = step calls s events command in
    with_reply (reply_to command after) (run_commands calls after.machine after.left commands)
