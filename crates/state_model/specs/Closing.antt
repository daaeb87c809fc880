-- When a module may be closed.
use Rattle.state_model.specs.ModuleView.{ModuleView}
use Rattle.state_model.specs.MachineState.{initial_state}
use Rattle.state_model.specs.Represents.{Represents}

-- it is as `open` makes it of its engine, its image and its digest
abbrev pub IsShut : {V : Type 0} → ModuleView V → Type 0
IsShut m = Represents m (initial_state m.engine m.image m.digest)
