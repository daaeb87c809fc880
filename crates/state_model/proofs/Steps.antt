-- A step by the request that its command makes.
use Rattle.std.proofs.Common.{◌≡◌, ℕ, List, Bool, true, false, Option, Some, None, refl, inl, inr, if◌then◌else◌}
use Rattle.service_table.specs.declared.service.Service.{Service}
use Rattle.service_table.specs.declared.status.Status.{Status}
use Rattle.service_table.specs.declared.status.Status.TheVariants as status
use Rattle.service_table.specs.Numbers.{service_numbered}
use Rattle.service_table.specs.Services.{is_permitted}
use Rattle.outside.specs.declared.traits.Sample.{Sample}
use Rattle.module_frames.specs.CommandFrames.{CommandFrame}
use Rattle.module_frames.specs.PublicEffects.{sequence_taken}
use Rattle.module_frames.specs.Requests.{RequestValue, request_of}
use Rattle.engine_core.specs.Calls.{Calls}
use Rattle.state_model.specs.MachineState.{MachineState, state_of, vault_of}
use Rattle.state_model.specs.Management.{Stepped, refused, with_public}
use Rattle.state_model.specs.Laws.{IsRefusedAtOnce}
use Rattle.state_model.specs.Step.{step, dispatch, dispatch_request, perform, request_at, out_of_order}
use Rattle.state_model.proofs.Sequences.{by_order}

-- what holds of a refusal at once, and of the request that is performed, holds where a command is dispatched
dispatched_by : {V : Type 0} (calls : Calls V) (t : MachineState V) (events : List Sample) (numbered : Option Service) (body : List ℕ) (P : Stepped V → Type 0)
    → ((reason : Status) → IsRefusedAtOnce reason → P (refused t reason events))
    → ((what : RequestValue) → request_at numbered body ≡ Some what → P (perform calls t events what)) → P (dispatch calls t events numbered body)
dispatched_by calls t events None body P barred performed = barred status.UnknownService (inl refl)
dispatched_by {V} calls t events (Some found) body P barred performed = chosen (is_permitted found (state_of t))
  where
    by_form : (read : Option RequestValue) → request_of found body ≡ read → P (dispatch_request calls t events read)
    by_form None is = barred status.BadBody (inr (inr refl))
    by_form (Some what) is = performed what is

    chosen : (allowed : Bool) → P (if allowed then dispatch_request calls t events (request_of found body) else refused t status.NotInState events)
    chosen true = by_form (request_of found body) refl
    chosen false = barred status.NotInState (inr (inl refl))

-- So it holds of a step, if it holds of a command out of its order. The slots and rows are those before it.
pub by_request : {V : Type 0} (calls : Calls V) (s : MachineState V) (events : List Sample) (command : CommandFrame) (P : Stepped V → Type 0)
    → ((t : MachineState V) → vault_of t ≡ vault_of s → (reason : Status) → IsRefusedAtOnce reason → P (refused t reason events))
    → ((t : MachineState V) → vault_of t ≡ vault_of s → (what : RequestValue) → request_at (service_numbered command.service) command.body ≡ Some what → P (perform calls t events what))
    → P (out_of_order s events) → P (step calls s events command)
by_request {V} calls s events command P barred performed late =
    by_order calls s events command P (λ _. at s refl) (λ number _ _. at (with_public s (sequence_taken s.shared.public)) refl) (λ number _ _. late)
  where
    at : (t : MachineState V) → vault_of t ≡ vault_of s → P (dispatch calls t events (service_numbered command.service) command.body)
    at t same = dispatched_by calls t events (service_numbered command.service) command.body P (barred t same) (performed t same)

-- a command makes one request
pub same_request : (read : Option RequestValue) (what other : RequestValue) → read ≡ Some what → read ≡ Some other → other ≡ what
same_request read what other is is' = cc
