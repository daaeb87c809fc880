-- No command of a session is out of order.
use Rattle.std.proofs.Common.{◌≡◌, ◌==◌, ◌%◌, ℕ, zero, suc, Bool, true, false, if◌then◌else◌, List, [], ◌∷◌, length, None, refl, ap, arith}
use Rattle.std.specs.List.{AllByRecursion}
use Rattle.outside.specs.declared.traits.Sample.{Sample}
use Rattle.engine_core.specs.Calls.{Calls}
use Rattle.service_table.specs.declared.status.Status.{Status}
use Rattle.service_table.specs.declared.status.Status.TheVariants as status
use Rattle.module_frames.specs.CommandFrames.{CommandFrame}
use Rattle.session_commands.specs.SessionCommands.{drawn_command, drawn_commands, next_number, upper_half, session_commands}
use Rattle.state_model.specs.Laws.{OutOfOrderByTheNumber}
use Rattle.state_model.specs.MachineState.{MachineState}
use Rattle.state_model.specs.Runs.{run_commands}
use Rattle.state_model.specs.Step.{step, reply_to, is_in_order}
use Rattle.session_runs.specs.Summaries.{status_count}
use Rattle.session_runs.proofs.Counting.{adds, count_cons}

abbrev pub IsUnnumbered : CommandFrame → Type 0
IsUnnumbered command = command.sequence ≡ None

either : (test : Bool) (a b : CommandFrame) → IsUnnumbered a → IsUnnumbered b → IsUnnumbered (if test then a else b)
either true a b h k = h
either false a b h k = k

drawn_is_unnumbered : (r : ℕ) → IsUnnumbered (drawn_command r)
drawn_is_unnumbered r =
    either (r % 8 == 0) _ _ refl
    (either (r % 8 == 1) _ _ refl
    (either (r % 8 == 2) _ _ refl
    (either (r % 8 == 3) _ _ refl
    (either (r % 8 == 4) _ _ refl
    (either (r % 8 == 5) _ _ refl
    (either (r % 8 == 6) _ _ refl refl))))))

drawn_are_unnumbered : (x count : ℕ) → AllByRecursion IsUnnumbered (drawn_commands x count)
unfolding drawn_commands
drawn_are_unnumbered x zero = tt
drawn_are_unnumbered x (suc count) = (drawn_is_unnumbered (upper_half (next_number x)), drawn_are_unnumbered (next_number x) count)

pub session_is_unnumbered : (seed count : ℕ) → AllByRecursion IsUnnumbered (session_commands seed count)
session_is_unnumbered seed count =
    let drawn = drawn_are_unnumbered seed count in
    (refl, (refl, (refl, (refl, (refl, (refl, (refl, (refl, (refl, (refl, (refl, drawn)))))))))))

pub replies_long : {V : Type 0} (calls : Calls V) (s : MachineState V) (events : List Sample) (commands : List CommandFrame)
    → length (run_commands calls s events commands).replies ≡ length commands
unfolding run_commands
replies_long calls s events [] = refl
replies_long calls s events (command ∷ commands) =
    let after = step calls s events command in
    ap (λ (n : ℕ). suc n) (replies_long calls after.machine after.left commands)

-- a status that isn't OutOfOrder adds nothing to its count
adds_nothing : (s : Status) → (s ≡ status.OutOfOrder → ⊥) → adds s 16 ≡ 0
adds_nothing status.Ok h = refl
adds_nothing status.UnknownService h = refl
adds_nothing status.NotInState h = refl
adds_nothing status.BadBody h = refl
adds_nothing status.TestFailed h = refl
adds_nothing status.NoiseFault h = refl
adds_nothing status.EmptySlot h = refl
adds_nothing status.WrongKind h = refl
adds_nothing status.WrongDomain h = refl
adds_nothing status.Spent h = refl
adds_nothing status.OccupiedSlot h = refl
adds_nothing status.NotExportable h = refl
adds_nothing status.BadLength h = refl
adds_nothing status.CheckFailed h = refl
adds_nothing status.AuthFailed h = refl
adds_nothing status.UnwrapFailed h = refl
adds_nothing status.OutOfOrder h = absurd (h refl)

in_order : {V : Type 0} (calls : Calls V) → OutOfOrderByTheNumber calls → (s : MachineState V) (events : List Sample) (command : CommandFrame) → IsUnnumbered command
    → (step calls s events command).status ≡ status.OutOfOrder → ⊥
in_order calls late s events command none out =
    let wrong : is_in_order command.sequence s.shared.public.next_sequence ≡ false = (late s events command).0 out in
    let right : is_in_order command.sequence s.shared.public.next_sequence ≡ true = ap (λ n. is_in_order n s.shared.public.next_sequence) none in
    cc

pub none_out_of_order : {V : Type 0} (calls : Calls V) → OutOfOrderByTheNumber calls → (s : MachineState V) (events : List Sample) (commands : List CommandFrame) → AllByRecursion IsUnnumbered commands
    → status_count (run_commands calls s events commands).replies 16 ≡ 0
unfolding run_commands
none_out_of_order calls late s events [] h = refl
none_out_of_order calls late s events (command ∷ commands) h =
    let after = step calls s events command in
    omega (
      arith,
      count_cons (reply_to command after) (run_commands calls after.machine after.left commands).replies 16,
      adds_nothing after.status (in_order calls late s events command h.0),
      none_out_of_order calls late after.machine after.left commands h.1,
    )
