use Rattle.std.proofs.Common.{◌≡◌, ◌+◌, ℕ, List, drop, refl, sym, ap, subst, arith}
use Rattle.std.specs.List.{AllByRecursion}
use Rattle.std.proofs.lemmas.List.{length-drop, drop_all}
use Rattle.std.proofs.lemmas.Bool.{false≢true}
use Rattle.vault_backup.specs.BackupForm.{wrapped_length}
use Rattle.vault_backup.specs.Reading.{Reads}
use Rattle.vault_backup.specs.Restoring.{IsWrapping, IsWrappingOf}
use Rattle.vault_backup.proofs.Passes.{ReadsUpTo, nothing_read, one_stands, one_more_read, first_read, all_read, reads_long, after_is, wrapped_is}
use Rattle.vault_backup.proofs.restoring.first_unwrappable.Goals as goal

pub loop-at-init : goal.loop-at-init
loop-at-init c = record {
  within = omega arith;
  so_far = λ key records is are. nothing_read (AllByRecursion (IsWrapping key)) records c.args.bytes.now are tt;
}

pub known_record-head-requires-clause-stands : goal.known_record-head-requires-clause-stands
known_record-head-requires-clause-stands c =
    let bytes = c.args.bytes.now in
    let h = c.requires.records in
    let key = c.requires.expanded in
    one_stands (AllByRecursion (IsWrapping key.0)) h.0 bytes (drop c.loop-at.at bytes) h.1 (c.loop-at.invariant.so_far key.0 h.0 key.1 h.1)
    (omega (arith, length-drop c.loop-at.at bytes))

pub returns-then-not-is_wrapping : goal.returns-then-not-is_wrapping
returns-then-not-is_wrapping c = λ key records is are.
    let bytes = c.args.bytes.now in
    let at : ℕ = c.loop-at.at in
    let head = c.known_record-head.result in
    let part = wrapped_is bytes at (at + c.whole_length.result) head (ap (λ (k : ℕ). at + k) c.whole_length.ensures) in
    first_read (IsWrapping key) records bytes (drop at bytes) head are (c.loop-at.invariant.so_far key records is are) c.known_record-head.ensures
    (λ holds. false≢true ((c.if-not-is_wrapping.ensures key is).1 (subst (λ (w : List ℕ). IsWrappingOf key w head.length) (sym part) holds)))

pub loop-at-preserved : goal.loop-at-preserved
loop-at-preserved c =
    let bytes = c.args.bytes.now in
    let at : ℕ = c.loop-at.at in
    let rest : List ℕ = drop at bytes in
    let head = c.known_record-head.result in
    let reads : Reads head rest = c.known_record-head.ensures in
    let after : ℕ = at + c.whole_length.result in
    let whole : after ≡ at + (8 + wrapped_length head.length) = ap (λ (k : ℕ). at + k) c.whole_length.ensures in
    record {
      within = omega (arith, (reads_long head rest reads).0, length-drop at bytes, whole);
      so_far = λ key records is are.
          subst (λ (xs : List ℕ). ReadsUpTo (AllByRecursion (IsWrapping key)) records xs) (after_is bytes at after head whole)
          (one_more_read (IsWrapping key) records bytes rest head are (c.loop-at.invariant.so_far key records is are) reads
          (subst (λ (w : List ℕ). IsWrappingOf key w head.length) (wrapped_is bytes at after head whole) ((c.if-not-is_wrapping.ensures key is).0 refl)));
    }

pub returns : goal.returns
returns c = λ key records is are.
    all_read (AllByRecursion (IsWrapping key)) records (drop c.loop-at.at c.args.bytes.now) (c.loop-at.invariant.so_far key records is are)
    (drop_all c.loop-at.at c.args.bytes.now (omega arith))
