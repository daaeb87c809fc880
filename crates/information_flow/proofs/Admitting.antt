-- A step by the request that is admitted.
use Rattle.std.proofs.Common.{◌≡◌, ℕ, List, Bool, true, false, Option, Some, None, refl, ap, ◌∙◌, if◌then◌else◌}
use Rattle.std.specs.Prelude.{◌==◌, IfSome}
use Rattle.service_table.specs.declared.service.Service.{Service}
use Rattle.service_table.specs.declared.status.Status.{Status}
use Rattle.service_table.specs.declared.status.Status.TheVariants as status
use Rattle.service_table.specs.Numbers.{service_numbered}
use Rattle.service_table.specs.Services.{is_permitted}
use Rattle.outside.specs.declared.traits.Sample.{Sample}
use Rattle.module_frames.specs.CommandFrames.{CommandFrame}
use Rattle.module_frames.specs.PublicEffects.{sequence_taken}
use Rattle.module_frames.specs.Requests.{RequestValue, IsInRange, request_of, service_for}
use Rattle.module_frames.specs.Sequencing.{is_in_order}
use Rattle.engine_core.specs.Calls.{Calls}
use Rattle.state_model.specs.MachineState.{MachineState, state_of}
use Rattle.state_model.specs.Management.{Stepped, refused, with_public}
use Rattle.state_model.specs.Permission.{IsPermittedIn}
use Rattle.state_model.specs.Step.{step, dispatch, dispatch_request, perform, number_taken, out_of_order}
use Rattle.state_model.proofs.RequestReading.{IsRead, request_read}
use Rattle.information_flow.specs.Taint.{admitted_for, admitted}

-- What holds where no request is admitted and of an admitted request that is performed holds where a command is dispatched.
dispatched_by : {V : Type 0} (calls : Calls V) (t : MachineState V) (events : List Sample) (numbered : Option Service) (body : List ℕ) (P : Option RequestValue → Stepped V → Type 0)
    → ((reason : Status) → P None (refused t reason events))
    → ((what : RequestValue) → admitted_for (state_of t) numbered body ≡ Some what → IsPermittedIn what (state_of t) → IsInRange what → P (Some what) (perform calls t events what))
    → P (admitted_for (state_of t) numbered body) (dispatch calls t events numbered body)
dispatched_by calls t events None body P barred performed = barred status.UnknownService
dispatched_by {V} calls t events (Some found) body P barred performed = by_leave (is_permitted found (state_of t)) refl
  where
    permitted : (what : RequestValue) → service_for what ≡ found → is_permitted found (state_of t) ≡ true → IsPermittedIn what (state_of t)
    permitted what is may = ap (λ service. is_permitted service (state_of t)) is ∙ may

    by_form : is_permitted found (state_of t) ≡ true → (read : Option RequestValue) → request_of found body ≡ read → IfSome read (IsRead found body) → P read (dispatch_request calls t events read)
    by_form may None is fine = barred status.BadBody
    by_form may (Some what) is fine = performed what (ap (λ allowed. if allowed then request_of found body else None) may ∙ is) (permitted what fine.1 may) fine.0

    by_leave : (may : Bool) → is_permitted found (state_of t) ≡ may
        → P (if may then request_of found body else None) (if may then dispatch_request calls t events (request_of found body) else refused t status.NotInState events)
    by_leave true is = by_form is (request_of found body) refl (request_read found body)
    by_leave false is = barred status.NotInState

-- So it holds of a step, if it holds of a command out of its order.
pub by_admitted : {V : Type 0} (calls : Calls V) (s : MachineState V) (events : List Sample) (command : CommandFrame) (P : Option RequestValue → Stepped V → Type 0)
    → ((reason : Status) → P None (refused (number_taken s command.sequence) reason events))
    → ((what : RequestValue) → admitted s command ≡ Some what → IsPermittedIn what (state_of s) → IsInRange what → P (Some what) (perform calls (number_taken s command.sequence) events what))
    → P None (out_of_order s events) → P (admitted s command) (step calls s events command)
unfolding step
by_admitted {V} calls s events command P barred performed late = by_sequence command.sequence barred performed
  where
    numbered : Option Service
    numbered = service_numbered command.service

    in_order : Option ℕ → Bool
    in_order sequence = is_in_order sequence s.shared.public.next_sequence

    read : Option ℕ → Option RequestValue
    read sequence = if in_order sequence then admitted_for (state_of s) numbered command.body else None

    by_sequence : (sequence : Option ℕ) → ((reason : Status) → P None (refused (number_taken s sequence) reason events))
        → ((what : RequestValue) → read sequence ≡ Some what → IsPermittedIn what (state_of s) → IsInRange what → P (Some what) (perform calls (number_taken s sequence) events what))
        → P (read sequence) (if in_order sequence then dispatch calls (number_taken s sequence) events numbered command.body else out_of_order s events)
    by_sequence None barred performed = dispatched_by calls s events numbered command.body P barred performed
    by_sequence (Some number) barred performed = by_number (number == s.shared.public.next_sequence) refl
      where
        by_number : (same : Bool) → (number == s.shared.public.next_sequence) ≡ same
            → P (if same then admitted_for (state_of s) numbered command.body else None)
            (if same then dispatch calls (with_public s (sequence_taken s.shared.public)) events numbered command.body else out_of_order s events)
        by_number true is =
            dispatched_by calls (with_public s (sequence_taken s.shared.public)) events numbered command.body P barred
            (λ what reads. performed what (ap (λ same. if same then admitted_for (state_of s) numbered command.body else None) is ∙ reads))
        by_number false is = late
