-- A step by whether its command comes in its order.
use Rattle.std.proofs.Common.{◌≡◌, ℕ, List, [], Bool, true, false, Option, Some, None, refl, sym, ap, subst, ◌∙◌, if◌then◌else◌}
use Rattle.std.specs.Prelude.{◌==◌}
use Rattle.service_table.specs.declared.status.Status.TheVariants as status
use Rattle.service_table.specs.Numbers.{service_numbered}
use Rattle.outside.specs.declared.traits.Sample.{Sample}
use Rattle.module_frames.specs.CommandFrames.{CommandFrame}
use Rattle.module_frames.specs.PublicState.{sequence_block}
use Rattle.module_frames.specs.PublicEffects.{sequence_taken}
use Rattle.engine_core.specs.Calls.{Calls}
use Rattle.state_model.specs.ModuleView.{ModuleView}
use Rattle.state_model.specs.MachineState.{MachineState}
use Rattle.state_model.specs.Management.{Stepped, with_public}
use Rattle.state_model.specs.Represents.{Represents, IsServiceResult}
use Rattle.state_model.specs.Step.{step, dispatch, is_in_order, number_taken, out_of_order}

-- what holds of the three ways in which a step begins holds of the step
pub by_order : {V : Type 0} (calls : Calls V) (s : MachineState V) (events : List Sample) (command : CommandFrame) (P : Stepped V → Type 0)
    → (command.sequence ≡ None → P (dispatch calls s events (service_numbered command.service) command.body))
    → ((number : ℕ) → command.sequence ≡ Some number → (number == s.shared.public.next_sequence) ≡ true
    → P (dispatch calls (with_public s (sequence_taken s.shared.public)) events (service_numbered command.service) command.body))
    → ((number : ℕ) → command.sequence ≡ Some number → (number == s.shared.public.next_sequence) ≡ false → P (out_of_order s events))
    → P (step calls s events command)
unfolding step
by_order {V} calls s events command P plain taken late = by_sequence command.sequence refl
  where
    by_number : (number : ℕ) → command.sequence ≡ Some number → (same : Bool) → (number == s.shared.public.next_sequence) ≡ same
        → P (if same then dispatch calls (with_public s (sequence_taken s.shared.public)) events (service_numbered command.service) command.body else out_of_order s events)
    by_number number is true same = taken number is same
    by_number number is false same = late number is same

    by_sequence : (sequence : Option ℕ) → command.sequence ≡ sequence
        → P (if is_in_order sequence s.shared.public.next_sequence
        then dispatch calls (number_taken s sequence) events (service_numbered command.service) command.body
        else out_of_order s events)
    by_sequence None is = plain is
    by_sequence (Some number) is = by_number number is (number == s.shared.public.next_sequence) refl

-- a command in its order is dispatched
pub step_in_order : {V : Type 0} (calls : Calls V) (s : MachineState V) (events : List Sample) (command : CommandFrame)
    → is_in_order command.sequence s.shared.public.next_sequence ≡ true
    → step calls s events command ≡ dispatch calls (number_taken s command.sequence) events (service_numbered command.service) command.body
unfolding step
step_in_order calls s events command is = rw is refl

pub step_out_of_order : {V : Type 0} (calls : Calls V) (s : MachineState V) (events : List Sample) (command : CommandFrame)
    → is_in_order command.sequence s.shared.public.next_sequence ≡ false → step calls s events command ≡ out_of_order s events
unfolding step
step_out_of_order calls s events command is = rw is refl

-- the number that a module expects is the machine's
pub same_expected : {V : Type 0} {m : ModuleView V} {s : MachineState V} → Represents m s → m.public.next_sequence ≡ s.shared.public.next_sequence
same_expected {V} represents = ap (λ (t : MachineState V). t.shared.public.next_sequence) represents.same

-- a command comes in the order that the module tells
pub told_order : (expected next : ℕ) (sequence seen : Option ℕ) (order : Bool) → order ≡ is_in_order seen expected → seen ≡ sequence → expected ≡ next
    → is_in_order sequence next ≡ order
told_order expected next sequence seen order is same expects = sym (is ∙ ap (λ q. is_in_order q expected) same ∙ ap (λ n. is_in_order sequence n) expects)

-- a command out of its order leaves the module, the block that tells the number, and no payload
pub late_leaves : {V : Type 0} {m n : ModuleView V} {s : MachineState V} (events : List Sample) (block payload : List ℕ) → Represents m s → n ≡ m
    → block ≡ sequence_block n.public → payload ≡ [] → IsServiceResult (out_of_order s events) n status.OutOfOrder block payload
late_leaves {V} {m} {n} {s} events block payload represents same told empty =
    let At : ModuleView V → Type 0 = λ k. Represents k s in
    let there : Represents n s = subst At (sym same) represents in
    record {
      represents = there;
      same_status = refl;
      same_block = told ∙ ap (λ (t : MachineState V). sequence_block t.shared.public) there.same;
      same_payload = empty;
    }
