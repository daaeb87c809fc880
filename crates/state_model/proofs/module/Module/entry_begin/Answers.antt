use Rattle.std.proofs.Common.{refl, subst, sym, arith}
use Rattle.state_model.specs.ModuleView.{ModuleView}
use Rattle.state_model.specs.ModuleInvariant.{view_of}
use Rattle.state_model.specs.MachineState.{MachineState}
use Rattle.state_model.specs.Management.{entry_begin}
use Rattle.state_model.specs.Represents.{Represents, machine_of}
use Rattle.state_model.proofs.Rules.{entry_begin_kept}
use Rattle.state_model.proofs.Representing.{rules_here}
use Rattle.state_model.proofs.module.Module.entry_begin.Goals as goal

-- the module after it, from a machine that it represented
pub invariant_of-self : goal.invariant_of-self
invariant_of-self g c =
    let officer = rw (← c.self.view_is) at c.requires.officer in
    let held = c.self.invariant in
    let t : MachineState g.row.E.Denot = machine_of (view_of c.self.inside) held.0.shared.samples in (
      entry_begin t c.args.target.now,
      rw (c.entry_begun-self-inside.ensures, c.begin.ensures) (record {
        same = refl;
        well_formed = entry_begin_kept t c.args.target.now (rules_here held.1) officer c.requires.slot c.requires.uses (omega arith) c.requires.fits;
        counts = λ _. held.1.counts (λ e. cc);
      }),
    )

pub returns : goal.returns
returns g c s represents =
    let officer = rw (← c.self.view_is) at c.requires.officer in
    let At : ModuleView g.row.E.Denot → Type 0 = λ m. Represents m s in
    let held : Represents (view_of c.self.inside) s = subst At (sym c.self.view_is) represents in
    let t : MachineState g.row.E.Denot = machine_of (view_of c.self.inside) s.shared.samples in
    let after : ModuleView g.row.E.Denot = record (view_of c.self.inside) { public = c.entry_begun-self-inside.result; entry = c.begin.new.self } in
    let there : Represents after (entry_begin t c.args.target.now) = rw (c.entry_begun-self-inside.ensures, c.begin.ensures) (record {
      same = refl;
      well_formed = entry_begin_kept t c.args.target.now (rules_here held) officer c.requires.slot c.requires.uses (omega arith) c.requires.fits;
      counts = λ _. held.counts (λ e. cc);
    }) in
    let From : MachineState g.row.E.Denot → Type 0 = λ u. Represents after (entry_begin u c.args.target.now) in
    subst From held.same there
