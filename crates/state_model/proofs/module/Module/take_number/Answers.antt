use Rattle.std.proofs.Common.{Some, refl, subst, sym}
use Rattle.state_model.specs.ModuleView.{ModuleView}
use Rattle.state_model.specs.ModuleInvariant.{view_of}
use Rattle.state_model.specs.MachineState.{MachineState}
use Rattle.state_model.specs.Step.{number_taken}
use Rattle.state_model.specs.Represents.{Represents, machine_of}
use Rattle.state_model.proofs.Rules.{number_taken_kept}
use Rattle.state_model.proofs.Representing.{rules_here}
use Rattle.state_model.proofs.module.Module.take_number.Goals as goal

pub invariant_of-self : goal.invariant_of-self
invariant_of-self g c =
    let held = c.self.invariant in
    let t : MachineState g.row.E.Denot = machine_of (view_of c.self.inside) held.0.shared.samples in (
      number_taken t (Some c.in-Some.number),
      rw c.sequence_taken-self-inside.ensures (record { same = refl; well_formed = number_taken_kept t (rules_here held.1); counts = held.1.counts }),
    )

pub returns-clause-taken : goal.returns-clause-taken
returns-clause-taken g c _ s represents =
    let At : ModuleView g.row.E.Denot → Type 0 = λ m. Represents m s in
    let held : Represents (view_of c.self.inside) s = subst At (sym c.self.view_is) represents in
    let t : MachineState g.row.E.Denot = machine_of (view_of c.self.inside) s.shared.samples in
    let after : ModuleView g.row.E.Denot = record (view_of c.self.inside) { public = c.sequence_taken-self-inside.result } in
    let there : Represents after (number_taken t (Some c.in-Some.number)) =
    rw c.sequence_taken-self-inside.ensures (record { same = refl; well_formed = number_taken_kept t (rules_here held); counts = held.counts }) in
    let From : MachineState g.row.E.Denot → Type 0 = λ u. Represents after (number_taken u (Some c.in-Some.number)) in
    rw c.in-Some.is (subst From held.same there)
