use Rattle.std.proofs.Common.{◌≡◌, subst}
use Rattle.state_model.specs.ModuleView.{ModuleView}
use Rattle.state_model.specs.ModuleInvariant.{view_of}
use Rattle.state_model.specs.Copies.{restored_view}
use Rattle.state_model.proofs.Representing.{rules_here}
use Rattle.state_model.proofs.Restored.{rows_stay, others_stay, restored_represents}
use Rattle.state_model.proofs.module.Module.restore.Goals as goal

pub invariant_of-self : goal.invariant_of-self
invariant_of-self g c =
    let held = c.self.invariant in
    let rows = rows_stay _ _ _ _ _ _ c.restore.ensures.restores c.restore.ensures.refused_unchanged in
    (_, restored_represents (view_of c.self.inside) held.0 c.restore.new.vault held.1 (c.restore.ensures.well_formed (rules_here held.1).slots) rows)

pub returns-clause-others_stay : goal.returns-clause-others_stay
returns-clause-others_stay g c =
    let new = c.restore.new.vault in
    let rows = rows_stay _ _ _ _ _ _ c.restore.ensures.restores c.restore.ensures.refused_unchanged in
    let Stays : ModuleView g.row.E.Denot → Type 0 = λ m. record (view_of c.self.inside) { vault = new } ≡ restored_view m new.slots in
    subst Stays c.self.view_is (others_stay (view_of c.self.inside) new rows)

pub returns-clause-represented : goal.returns-clause-represented
returns-clause-represented g c = invariant_of-self g c
