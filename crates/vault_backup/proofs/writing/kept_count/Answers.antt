use Rattle.std.proofs.Common.{◌≡◌, ◌+◌, ℕ, Option, IfSome, length, sym, ap, ◌∙◌, subst, arith, length-append}
use Rattle.vault_backup.specs.BackupForm.{KeptSlot}
use Rattle.vault_backup.specs.Backups.{kept_below, kept_at}
use Rattle.vault_backup.proofs.Kept.{kept_none, kept_more}
use Rattle.vault_backup.proofs.writing.kept_count.Goals as goal

pub loop-number-init : goal.loop-number-init
loop-number-init c = record {
  few = omega arith;
  counted = λ key. sym (ap (length {A = KeptSlot}) (kept_none key c.args.vault.now));
  well_formed = λ some. absurd (omega (arith, some));
}

pub loop-number-preserved : goal.loop-number-preserved
loop-number-preserved c = record {
  few = omega (arith, c.count_one-count.ensures.most);
  counted = λ key.
      let n : ℕ = c.loop-number.number in
      let vault = c.args.vault.now in
      let more : length (kept_below key vault (n + 1)) ≡ length (kept_below key vault n) + length (kept_at key vault n) =
      ap (length {A = KeptSlot}) (kept_more key vault n) ∙ length-append (kept_below key vault n) (kept_at key vault n) in
      let one : c.count_one-count.result ≡ length (kept_at key vault n) =
      c.count_one-count.ensures.count key
      ∙ ap (λ (id : ℕ). length (kept_at key vault id)) (subst (λ (slot : Option ℕ). IfSome slot (λ id. id ≡ n)) c.unwrap.ensures c.new.ensures.slot) in
      omega (arith, more, one, c.loop-number.invariant.counted key);
  well_formed = λ some. c.count_one-count.ensures.well_formed;
}

pub returns-clause-count : goal.returns-clause-count
returns-clause-count c = λ key.
    let last : c.loop-number.number ≡ 16 = omega arith in
    c.loop-number.invariant.counted key ∙ ap (λ (n : ℕ). length (kept_below key c.args.vault.now n)) last
