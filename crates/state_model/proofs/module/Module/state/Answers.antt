use Rattle.std.proofs.Common.{subst}
use Rattle.state_model.specs.ModuleView.{ModuleView}
use Rattle.state_model.specs.Represents.{IsRepresented}
use Rattle.state_model.proofs.module.Module.state.Goals as goal

pub returns-clause-represented : goal.returns-clause-represented
returns-clause-represented g c =
    let Held : ModuleView g.row.E.Denot → Type 0 = λ m. IsRepresented m in
    subst Held c.self.view_is c.self.invariant
