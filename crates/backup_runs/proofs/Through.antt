-- What a module did over some commands, and then over more.
use Rattle.std.proofs.Common.{◌≡◌, ◌++◌, List, [], ◌∷◌, sym, ap, subst, ◌∙◌}
use Rattle.outside.specs.declared.traits.Sample.{Sample}
use Rattle.engine_core.specs.Calls.{Calls}
use Rattle.module_frames.specs.CommandFrames.{CommandFrame}
use Rattle.module_frames.specs.declared.reply.Reply.{Reply}
use Rattle.state_model.specs.MachineState.{MachineState}
use Rattle.state_model.specs.ModuleView.{ModuleView}
use Rattle.state_model.specs.Represents.{Represents, Replies}
use Rattle.state_model.specs.Runs.{Ran, run_commands}
use Rattle.state_model.specs.Step.{step}
use Rattle.command_serving.proofs.CommandRuns.{run_both}
use Rattle.backup_runs.specs.Officer.{StepsThrough}

-- one command was done
pub through_one : {V : Type 0} (calls : Calls V) (before after : ModuleView V) (command : CommandFrame) (reply : Reply) (events left : List Sample)
    → ((s : MachineState V) → Represents before s → let next = step calls s events command in Replies command next after reply × (next.left ≡ left))
    → StepsThrough calls (command ∷ []) before after events left
unfolding run_commands
through_one calls before after command reply events left did = λ s represents.
    let one = did s represents in
    (one.0.represents, one.1)

-- some were done, and then more
pub through_both : {V : Type 0} (calls : Calls V) (a b c : ModuleView V) (first more : List CommandFrame) (events mid left : List Sample)
    → StepsThrough calls first a b events mid → StepsThrough calls more b c mid left → StepsThrough calls (first ++ more) a c events left
through_both {V} calls a b c first more events mid left one two = λ s represents.
    let did = one s represents in
    let ran : Ran V = run_commands calls s events first in
    let After : List Sample → Type 0 = λ e. Represents c (run_commands calls ran.machine e more).machine × ((run_commands calls ran.machine e more).left ≡ left) in
    let next : After ran.left = subst After (sym did.1) (two ran.machine did.0) in
    let whole = run_both calls s events first more in
    let Is : Ran V → Type 0 = λ r. Represents c r.machine in
    (subst Is (sym whole) next.0, ap (λ (r : Ran V). r.left) whole ∙ next.1)
