use Rattle.std.proofs.Common.{◌≡◌, ◌+◌, ℕ, List, drop, ap, subst, arith}
use Rattle.std.specs.List.{AllByRecursion}
use Rattle.std.proofs.lemmas.List.{length-drop, drop_all}
use Rattle.ssp_slots.specs.Slots.{slot_in}
use Rattle.vault_backup.specs.BackupForm.{wrapped_length}
use Rattle.vault_backup.specs.Reading.{Reads}
use Rattle.vault_backup.specs.Restoring.{IsVacant}
use Rattle.vault_backup.proofs.Passes.{ReadsUpTo, nothing_read, one_stands, one_more_read, first_read, all_read, reads_long, after_is}
use Rattle.vault_backup.proofs.Restored.{vacancy, no_vacancy}
use Rattle.vault_backup.proofs.restoring.first_full.Goals as goal

pub loop-at-init : goal.loop-at-init
loop-at-init c = record {
  within = omega arith;
  so_far = λ records are. nothing_read (AllByRecursion (IsVacant c.args.vault.now)) records c.args.bytes.now are tt;
}

pub known_record-head-requires-clause-stands : goal.known_record-head-requires-clause-stands
known_record-head-requires-clause-stands c =
    let bytes = c.args.bytes.now in
    let h = c.requires.records in
    one_stands (AllByRecursion (IsVacant c.args.vault.now)) h.0 bytes (drop c.loop-at.at bytes) h.1 (c.loop-at.invariant.so_far h.0 h.1) (omega (arith, length-drop c.loop-at.at bytes))

pub returns-in-Err : goal.returns-in-Err
returns-in-Err c = λ records are.
    let vault = c.args.vault.now in
    let rest : List ℕ = drop c.loop-at.at c.args.bytes.now in
    first_read (IsVacant vault) records c.args.bytes.now rest c.known_record-head.result are (c.loop-at.invariant.so_far records are)
    c.known_record-head.ensures (no_vacancy (slot_in vault c.known_record-head.result.slot).header _ c.in-Err.ensures.answer)

pub loop-at-preserved : goal.loop-at-preserved
loop-at-preserved c =
    let bytes = c.args.bytes.now in
    let vault = c.args.vault.now in
    let at : ℕ = c.loop-at.at in
    let rest : List ℕ = drop at bytes in
    let head = c.known_record-head.result in
    let reads : Reads head rest = c.known_record-head.ensures in
    let after : ℕ = at + c.whole_length-at.result in
    let whole : after ≡ at + (8 + wrapped_length head.length) = ap (λ (k : ℕ). at + k) c.whole_length-at.ensures in
    record {
      within = omega (arith, (reads_long head rest reads).0, length-drop at bytes, whole);
      so_far = λ records are.
          subst (λ (xs : List ℕ). ReadsUpTo (AllByRecursion (IsVacant vault)) records xs) (after_is bytes at after head whole)
          (one_more_read (IsVacant vault) records bytes rest head are (c.loop-at.invariant.so_far records are) reads
          (vacancy (slot_in vault head.slot).header c.in-Ok.ensures.answer));
    }

pub returns : goal.returns
returns c = λ records are.
    all_read (AllByRecursion (IsVacant c.args.vault.now)) records (drop c.loop-at.at c.args.bytes.now) (c.loop-at.invariant.so_far records are)
    (drop_all c.loop-at.at c.args.bytes.now (omega arith))
