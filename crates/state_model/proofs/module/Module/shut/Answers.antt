use Rattle.std.proofs.Common.{sym, subst}
use Rattle.module_frames.specs.PublicState.{unpowered}
use Rattle.state_model.specs.ModuleView.{ModuleView}
use Rattle.state_model.specs.ModuleInvariant.{view_of}
use Rattle.state_model.specs.MachineState.{MachineState, initial_state}
use Rattle.state_model.specs.Management.{reset}
use Rattle.state_model.specs.Represents.{Represents}
use Rattle.state_model.proofs.Residues.{clean_of}
use Rattle.state_model.proofs.Closings.{shut_of, unpowered_represents}
use Rattle.state_model.proofs.module.Module.shut.Goals as goal

pub returns-clause-represents : goal.returns-clause-represents
returns-clause-represents g c =
    let held = c.self.invariant in
    let At : ModuleView g.row.E.Denot → Type 0 = λ m. Represents m held.0 in
    let represents : Represents c.args.self.now held.0 = subst At c.self.view_is held.1 in
    let After : ModuleView g.row.E.Denot → Type 0 = λ m. Represents m (reset held.0) in
    let was_reset : Represents (view_of c.self-2.inside) (reset held.0) = subst After (sym c.self-2.view_is) (c.reset.ensures held.0 represents) in
    let after : ModuleView g.row.E.Denot = record (view_of c.self-2.inside) { public = unpowered } in
    let Of : MachineState g.row.E.Denot → Type 0 = λ t. Represents after (initial_state t.shared.engine t.shared.image t.shared.digest) in
    rw c.unpowered-self-inside.ensures (subst Of (sym represents.same) (unpowered_represents (view_of c.self-2.inside) held.0 was_reset))

pub invariant_of-self : goal.invariant_of-self
invariant_of-self g c = (_, returns-clause-represents g c)

pub returns-clause-shut : goal.returns-clause-shut
returns-clause-shut g c = shut_of _ _ _ _ (returns-clause-represents g c)

pub returns-clause-clean : goal.returns-clause-clean
returns-clause-clean g c = clean_of (_, returns-clause-represents g c)
