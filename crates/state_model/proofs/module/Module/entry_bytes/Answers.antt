use Rattle.std.proofs.Common.{◌≤◌, ◌+◌, [], length, refl, subst, sym, arith}
use Rattle.bits_core.specs.ByteList.{IsBytes}
use Rattle.service_table.specs.declared.status.Status.TheVariants as status
use Rattle.module_frames.specs.PublicState.{no_block}
use Rattle.state_model.specs.Entries.{with_piece, entry_length}
use Rattle.state_model.specs.ModuleView.{ModuleView}
use Rattle.state_model.specs.ModuleInvariant.{view_of}
use Rattle.state_model.specs.MachineState.{MachineState}
use Rattle.state_model.specs.Management.{Stepped, entry_bytes, done}
use Rattle.state_model.specs.Represents.{Represents, IsServiceResult, machine_of}
use Rattle.state_model.proofs.Rules.{entry_bytes_kept}
use Rattle.state_model.proofs.EntryRules.{entry_bytes_fits, underway_within}
use Rattle.state_model.proofs.Representing.{rules_here}
use Rattle.state_model.proofs.module.Module.entry_bytes.Goals as goal

pub invariant_of-self : goal.invariant_of-self
invariant_of-self g c =
    let entering = rw (← c.self.view_is) at c.requires in
    let held = c.self.invariant in
    let t : MachineState g.row.E.Denot = machine_of (view_of c.self.inside) held.0.shared.samples in
    let rules = rules_here held.1 in
    let within = underway_within c.self.inside.entry (rules.entering entering) in
    let fits : c.self.inside.entry.filled + length c.args.piece.now ≤ entry_length c.self.inside.entry = omega (arith, within, c.length.ensures) in
    let are_bytes : IsBytes c.args.piece.now = λ n. omega (arith, c.type_inv.piece n) in (
      record t { entry = with_piece t.entry c.args.piece.now },
      rw c.append.ensures (record {
        same = refl;
        well_formed = entry_bytes_kept t c.args.piece.now are_bytes rules entering fits;
        counts = held.1.counts;
      }),
    )

pub returns : goal.returns
returns g c s events represents =
    let entering = rw (← c.self.view_is) at c.requires in
    let At : ModuleView g.row.E.Denot → Type 0 = λ m. Represents m s in
    let held : Represents (view_of c.self.inside) s = subst At (sym c.self.view_is) represents in
    let t : MachineState g.row.E.Denot = machine_of (view_of c.self.inside) s.shared.samples in
    let rules = rules_here held in
    let within = underway_within c.self.inside.entry (rules.entering entering) in
    let fits : c.self.inside.entry.filled + length c.args.piece.now ≤ entry_length c.self.inside.entry = omega (arith, within, c.length.ensures) in
    let are_bytes : IsBytes c.args.piece.now = λ n. omega (arith, c.type_inv.piece n) in
    let after : ModuleView g.row.E.Denot = record (view_of c.self.inside) { entry = c.append.new.self } in
    let there : Represents after (record t { entry = with_piece t.entry c.args.piece.now }) = rw c.append.ensures (record {
      same = refl;
      well_formed = entry_bytes_kept t c.args.piece.now are_bytes rules entering fits;
      counts = held.counts;
    }) in
    let leaves : IsServiceResult (done (record t { entry = with_piece t.entry c.args.piece.now }) no_block events) after status.Ok no_block [] =
    record { represents = there; same_status = refl; same_block = refl; same_payload = refl } in
    let By : Stepped g.row.E.Denot → Type 0 = λ u. IsServiceResult u after status.Ok no_block [] in
    let From : MachineState g.row.E.Denot → Type 0 = λ u. IsServiceResult (entry_bytes u c.args.piece.now events) after status.Ok no_block [] in
    subst From held.same (subst By (entry_bytes_fits t c.args.piece.now events fits) leaves)
