use Rattle.std.proofs.Common.{◌≡◌, List, ℕ, refl, ap, subst, arith}
use Rattle.std.proofs.lemmas.Grind.{common_steps}
use Rattle.std.specs.Prelude.{Ok}
use Rattle.service_table.specs.declared.state.State.TheVariants as state
use Rattle.ssp_slots.specs.Slots.{Contents}
use Rattle.state_model.specs.Copies.{restored_state}
use Rattle.state_model.specs.MachineState.{state_of, vault_of}
use Rattle.vault_backup.specs.Restoring.{Restores}
use Rattle.backup_runs.specs.TwoKeys.{kek_of, mac_of}
use Rattle.backup_runs.proofs.restoring.fill.Goals as goal

pub returns-in-Ok : goal.returns-in-Ok
returns-in-Ok g c s represents =
    let backup = c.args.backup.now in
    let done = c.in-Ok.ensures in
    let next = done.represents s represents in
    let slots = c.restore.new.self.vault.slots in
    let same : c.args.module.now.vault ≡ vault_of s = ap (λ x. vault_of x) represents.same in
    let new_same : c.restore.new.self.vault ≡ vault_of (restored_state s slots) = ap (λ x. vault_of x) next.same in
    let ByKek : List ℕ → Type 0 = λ k. Restores k c.two_keys.result.1.now backup c.args.module.now.vault (Ok c.in-Ok.field-0) c.restore.new.self.vault in
    let ByMac : List ℕ → Type 0 = λ k. Restores (kek_of c.args.keys.now) k backup c.args.module.now.vault (Ok c.in-Ok.field-0) c.restore.new.self.vault in
    let From : Contents → Type 0 = λ v. Restores (kek_of c.args.keys.now) (mac_of c.args.keys.now) backup v (Ok c.in-Ok.field-0) c.restore.new.self.vault in
    let officer : state_of s ≡ state.Officer = grind (arith, common_steps) in
    let To : Contents → Type 0 = λ v. Restores (kek_of c.args.keys.now) (mac_of c.args.keys.now) backup (vault_of s) (Ok c.in-Ok.field-0) v in (
      officer,
      (
        restored_state s slots,
        record {
          count = c.in-Ok.field-0;
          slots = slots;
          restores = subst To new_same (subst From same (subst ByMac c.two_keys.ensures.mac (subst ByKek c.two_keys.ensures.kek done.restores)));
          machine = refl;
          well_formed = next.well_formed;
        },
        next,
      ),
    )
