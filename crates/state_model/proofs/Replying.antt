-- The reply to a command, from what the module shows after it.
use Rattle.std.proofs.Common.{◌≡◌, ℕ, List, Bool, ap, ◌∙◌}
use Rattle.service_table.specs.declared.status.Status.{Status}
use Rattle.service_table.specs.Numbers.{service_numbered}
use Rattle.module_frames.specs.CommandFrames.{CommandFrame}
use Rattle.module_frames.specs.ReplyFrames.{ReplyFrame}
use Rattle.state_model.specs.ModuleView.{ModuleView}
use Rattle.state_model.specs.MachineState.{MachineState, state_of}
use Rattle.state_model.specs.Management.{Stepped}
use Rattle.state_model.specs.Step.{indicated, request_at, reply_to}
use Rattle.state_model.specs.Represents.{machine_of, IsServiceResult}

-- a reply by its parts
abbrev pub reply_by : {V : Type 0} → CommandFrame → MachineState V → Bool → Status → List ℕ → List ℕ → ReplyFrame
reply_by command t approved why block payload = record {
  service = command.service;
  sequence = command.sequence;
  status = why;
  state = state_of t;
  approved = approved;
  code = t.shared.public.error_code;
  block = block;
  payload = payload;
}

pub replied : {V : Type 0} (command : CommandFrame) (after : Stepped V) (m : ModuleView V) (approved : Bool) (why : Status) (block payload : List ℕ) → IsServiceResult after m why block payload
    → approved ≡ indicated (request_at (service_numbered command.service) command.body) why m.vault.slots
    → reply_by command (machine_of m after.machine.shared.samples) approved why block payload ≡ reply_to command after
replied {V} command after m approved why block payload leaves is =
    let t : MachineState V = machine_of m after.machine.shared.samples in
    let u : MachineState V = after.machine in
    let read = request_at (service_numbered command.service) command.body in
    ap (λ a. reply_by command t a why block payload) is
    ∙ ap (λ (x : MachineState V). reply_by command x (indicated read why x.slots) why block payload) leaves.represents.same
    ∙ ap (λ w. reply_by command u (indicated read w u.slots) w block payload) leaves.same_status
    ∙ ap (λ b. reply_by command u (indicated read after.status u.slots) after.status b payload) leaves.same_block
    ∙ ap (λ p. reply_by command u (indicated read after.status u.slots) after.status after.block p) leaves.same_payload
