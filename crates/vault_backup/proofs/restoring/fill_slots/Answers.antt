use Rattle.std.proofs.Common.{◌≡◌, ◌+◌, ℕ, List, length, drop, refl, sym, ap, ◌∙◌, subst, arith}
use Rattle.std.specs.List.{AllByRecursion}
use Rattle.std.proofs.lemmas.List.{length-drop, drop_all, length_push}
use Rattle.key_wrap.specs.Wrapping.{IsKwpOf}
use Rattle.bits_core.specs.declared.parameter.Header.{Header}
use Rattle.ssp_slots.specs.Slots.{Contents, filled_in}
use Rattle.vault_backup.specs.BackupForm.{KeptSlot, AreRising, wrapped_length}
use Rattle.vault_backup.specs.Reading.{Reads, kept_in}
use Rattle.vault_backup.specs.Restoring.{IsWrapping, IsWrappingOf, IsRestored}
use Rattle.vault_backup.proofs.Passes.{ReadsUpTo, nothing_read, one_stands, one_read, next_of, all_read, reads_long, after_is, wrapped_is}
use Rattle.vault_backup.proofs.Restored.{restored_none, restored_more, apart, all_at, still_vacant, header_is}
use Rattle.vault_backup.proofs.restoring.fill_slots.Goals as goal

abbrev Filled : List ℕ → Contents → ℕ → Contents → List KeptSlot → Type 0
Filled key old count now done = IsRestored key old now done × (count ≡ length done)

pub loop-at-init : goal.loop-at-init
loop-at-init c = record {
  within = omega arith;
  well_formed = λ before. before;
  few = omega arith;
  so_far = λ key records is are.
      nothing_read (Filled key c.args.vault.now 0 c.args.vault.now) records c.args.bytes.now are (restored_none key c.args.vault.now, refl);
}

pub known_record-head-requires-clause-stands : goal.known_record-head-requires-clause-stands
known_record-head-requires-clause-stands c =
    let bytes = c.args.bytes.now in
    let h = c.requires.records in
    let key = c.requires.wrappings in
    one_stands (Filled key.0 c.args.vault.now c.loop-at.count c.loop-at.vault) h.0 bytes (drop c.loop-at.at bytes) h.1
    (c.loop-at.invariant.so_far key.0 h.0 key.1 h.1) (omega (arith, length-drop c.loop-at.at bytes))

pub fill_slot-requires-clause-vacant : goal.fill_slot-requires-clause-vacant
fill_slot-requires-clause-vacant c =
    let bytes = c.args.bytes.now in
    let rest : List ℕ = drop c.loop-at.at bytes in
    let head = c.known_record-head.result in
    let r = c.requires.records in
    let key = c.requires.wrappings in
    let Done : List KeptSlot → Type 0 = Filled key.0 c.args.vault.now c.loop-at.count c.loop-at.vault in
    let h : ReadsUpTo Done r.0 rest = c.loop-at.invariant.so_far key.0 r.0 key.1 r.1 in
    let next = next_of Done r.0 bytes rest head r.1 h c.known_record-head.ensures in
    still_vacant key.0 c.args.vault.now c.loop-at.vault h.done (kept_in head rest) next.0 r.0 next.1 r.1.rising r.2 h.so_far.0

pub fill_slot-requires-clause-wrapping : goal.fill_slot-requires-clause-wrapping
fill_slot-requires-clause-wrapping c =
    let bytes = c.args.bytes.now in
    let at : ℕ = c.loop-at.at in
    let rest : List ℕ = drop at bytes in
    let head = c.known_record-head.result in
    let r = c.requires.records in
    let key = c.requires.wrappings in
    let Done : List KeptSlot → Type 0 = Filled key.0 c.args.vault.now c.loop-at.count c.loop-at.vault in
    let h : ReadsUpTo Done r.0 rest = c.loop-at.invariant.so_far key.0 r.0 key.1 r.1 in
    let next = next_of Done r.0 bytes rest head r.1 h c.known_record-head.ensures in
    let part = wrapped_is bytes at (at + c.whole_length.result) head (ap (λ (k : ℕ). at + k) c.whole_length.ensures) in
    let All : List KeptSlot → Type 0 = λ (xs : List KeptSlot). AllByRecursion (IsWrapping key.0) xs in
    let this : IsWrapping key.0 (kept_in head rest) =
    all_at (IsWrapping key.0) h.done (kept_in head rest) next.0 (subst All next.1 (key.2 r.0 r.1)) in
    (key.0, key.1, subst (λ (w : List ℕ). IsWrappingOf key.0 w head.length) (sym part) this)

pub loop-at-preserved : goal.loop-at-preserved
loop-at-preserved c =
    let bytes = c.args.bytes.now in
    let at : ℕ = c.loop-at.at in
    let rest : List ℕ = drop at bytes in
    let head = c.known_record-head.result in
    let kept : KeptSlot = kept_in head rest in
    let reads : Reads head rest = c.known_record-head.ensures in
    let old = c.args.vault.now in
    let now = c.loop-at.vault in
    let new = c.fill_slot.new.vault in
    let after : ℕ = at + c.whole_length.result in
    let whole : after ≡ at + (8 + wrapped_length head.length) = ap (λ (k : ℕ). at + k) c.whole_length.ensures in
    record {
      within = omega (arith, (reads_long head rest reads).0, length-drop at bytes, whole);
      well_formed = λ before. c.fill_slot.ensures.well_formed;
      few = omega (arith, whole, c.loop-at.invariant.few);
      so_far = λ key records is are.
          let f = c.fill_slot.ensures.filled key is in
          let wrapping : IsKwpOf key kept.wrapped f.0 = subst (λ (w : List ℕ). IsKwpOf key w f.0) (wrapped_is bytes at after head whole) f.1 in
          let filled = f.3 ∙ ap (λ (h : Header). filled_in now head.slot h f.0) (header_is head rest reads) in
          let Rises : List KeptSlot → Type 0 = λ (xs : List KeptSlot). AreRising 0 xs in
          subst (λ (xs : List ℕ). ReadsUpTo (Filled key old (c.loop-at.count + 1) new) records xs) (after_is bytes at after head whole)
          (one_read (Filled key old c.loop-at.count now) (Filled key old (c.loop-at.count + 1) new) records bytes rest head are
          (c.loop-at.invariant.so_far key records is are) reads
          (λ done later parts h. (
            restored_more key old now new done kept f.0 h.0 (apart 0 done kept later (subst Rises parts are.rising)) reads.kept.below c.fill_slot.ensures.well_formed
                wrapping f.2 filled,
            omega (arith, h.1, length_push done kept),
          )));
    }

pub returns-clause-restored : goal.returns-clause-restored
returns-clause-restored c = λ key records is are.
    all_read (Filled key c.args.vault.now c.loop-at.count c.loop-at.vault) records (drop c.loop-at.at c.args.bytes.now) (c.loop-at.invariant.so_far key records is are)
    (drop_all c.loop-at.at c.args.bytes.now (omega arith))
