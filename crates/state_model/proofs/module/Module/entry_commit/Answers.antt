use Rattle.std.proofs.Common.{refl}
use Rattle.state_model.specs.ModuleInvariant.{view_of}
use Rattle.state_model.specs.MachineState.{MachineState, with_vault}
use Rattle.state_model.specs.Management.{entry_over, with_slots}
use Rattle.state_model.specs.Represents.{machine_of}
use Rattle.state_model.proofs.Rules.{entry_over_kept, vault_kept}
use Rattle.state_model.proofs.Representing.{rules_here}
use Rattle.state_model.proofs.module.Module.entry_commit.Goals as goal
use Rattle.state_model.proofs.module.Module.entry_commit.Goals.{in-Some, in-None}

pub invariant_of-self : goal.invariant_of-self
invariant_of-self g c =
    let entering = rw (← c.self.view_is) at c.requires in
    let held = c.self.invariant in
    let t : MachineState g.row.E.Denot = machine_of (view_of c.self.inside) held.0.shared.samples in
    let rules = rules_here held.1 in
    elim c.match-self.branch [
      | in-Some w ↦ (
          let parts = w.commit-status.new.parts in
          let u : MachineState g.row.E.Denot = with_vault (with_slots t parts.engine t.slots) parts.vault in (
            entry_over u,
            rw (c.entry_ended-self-inside.ensures, c.clear.ensures, w.self-inside-is, w.commit-status.ensures.leaves.0.generator) (record {
              same = refl;
              well_formed = entry_over_kept u (vault_kept t parts.engine parts.vault rules (w.commit-status.ensures.well_formed rules.slots)) entering;
              counts = λ _. rw w.commit-status.ensures.leaves.0.health (held.1.counts (λ e. cc));
            }),
          )
          )
      | in-None w ↦ (
        entry_over t,
        rw (c.entry_ended-self-inside.ensures, c.clear.ensures, w.self-inside-is) (record {
          same = refl;
          well_formed = entry_over_kept t rules entering;
          counts = λ _. held.1.counts (λ e. cc);
        }),
      )
    ]
