-- Lines whose replies nobody hears.
use Rattle.std.specs.Prelude.{ℕ, List, Option, None}
use Rattle.outside.specs.declared.traits.Sample.{Sample}
use Rattle.engine_core.specs.Calls.{Calls}
use Rattle.state_model.specs.ModuleView.{ModuleView}
use Rattle.state_model.specs.MachineState.{MachineState}
use Rattle.command_serving.specs.declared.serving.Ended.{Ended}
use Rattle.command_serving.specs.Serving.{Serves}
use Rattle.line_serving.specs.LineGrammar.{line_grammar}

-- Stepping over lines from s with these events of noise, which leaves those: as serving them, to a sink that tells nothing.
abbrev pub StepsOver : {V : Type 0} → Calls V → Ended → ℕ → MachineState V → ModuleView V → (before after : Option (List ℕ)) → List Sample → List Sample → Type 0
StepsOver calls ending chunk s m before after events left =
    Serves line_grammar calls ending chunk s m (record { left = before; gained = None }) (record { left = after; gained = None }) events left
