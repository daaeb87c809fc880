use Rattle.std.proofs.Common.{◌≡◌, ℕ, Option, IfSome, List, refl, sym, ◌∙◌, subst, arith}
use Rattle.std.specs.List.{flat_map}
use Rattle.vault_backup.specs.BackupForm.{KeptSlot, record_bytes}
use Rattle.vault_backup.specs.Backups.{kept_below, kept_at}
use Rattle.vault_backup.specs.Writing.{Signs}
use Rattle.vault_backup.proofs.Kept.{kept_none, kept_more_bytes, signs_none, signs_both}
use Rattle.vault_backup.proofs.writing.put_slots.Goals as goal

pub loop-number-init : goal.loop-number-init
loop-number-init c = record {
  same = refl;
  few = omega arith;
  signs = λ key is.
      subst (λ (records : List KeptSlot). Signs c.args.port.now.outbox.now c.args.port.now.outbox.now c.args.stream.now c.args.stream.now (flat_map record_bytes records))
      (sym (kept_none key c.args.vault.now)) (signs_none c.args.port.now.outbox.now c.args.stream.now);
  well_formed = λ some. absurd (omega (arith, some));
}

pub put_slot-requires-clause-room : goal.put_slot-requires-clause-room
put_slot-requires-clause-room c =
    let key = c.requires.expanded in
    omega (arith, (c.loop-number.invariant.signs key.0 key.1).room, c.requires.room, c.loop-number.invariant.few)

pub loop-number-preserved : goal.loop-number-preserved
loop-number-preserved c = record {
  same = c.put_slot.ensures.same ∙ c.loop-number.invariant.same;
  few = omega (arith, c.put_slot.ensures.few, c.loop-number.invariant.few);
  signs = λ key is.
      let n : ℕ = c.loop-number.number in
      let vault = c.args.vault.now in
      let same : c.unwrap.result ≡ n = subst (λ (slot : Option ℕ). IfSome slot (λ id. id ≡ n)) c.unwrap.ensures c.new.ensures.slot in
      subst (λ (xs : List ℕ). Signs c.args.port.now.outbox.now c.put_slot.new.port.outbox.now c.args.stream.now c.put_slot.new.stream xs)
      (sym (kept_more_bytes key vault n))
      (signs_both c.args.port.now.outbox.now c.loop-number.port.outbox.now c.put_slot.new.port.outbox.now c.args.stream.now c.loop-number.stream c.put_slot.new.stream
      (flat_map record_bytes (kept_below key vault n)) (flat_map record_bytes (kept_at key vault n)) (c.loop-number.invariant.signs key is)
      (subst (λ (id : ℕ). Signs c.loop-number.port.outbox.now c.put_slot.new.port.outbox.now c.loop-number.stream c.put_slot.new.stream (flat_map record_bytes (kept_at key vault id)))
      same (c.put_slot.ensures.signs key is)));
  well_formed = λ some. c.put_slot.ensures.well_formed;
}
