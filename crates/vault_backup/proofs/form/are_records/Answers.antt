use Rattle.std.proofs.Common.{◌≡◌, ◌+◌, ◌-◌, ℕ, List, drop, sym, ap, ◌∙◌, subst, arith}
use Rattle.std.proofs.lemmas.Bool.{false≢true}
use Rattle.std.proofs.lemmas.List.{drop-drop, length-drop}
use Rattle.vault_backup.specs.BackupForm.{wrapped_length}
use Rattle.vault_backup.specs.Reading.{HasRecordsFrom, Reads, after_record}
use Rattle.vault_backup.proofs.Passes.{reads_long}
use Rattle.vault_backup.proofs.Forms.{none_from, low_from, step_from}
use Rattle.vault_backup.proofs.form.are_records.Goals as goal

pub returns-in_default : goal.returns-in_default
returns-in_default c = (
  λ no. absurd (false≢true no),
  λ h.
      absurd (none_from c.loop.least (c.args.count - c.loop.counter) (drop c.loop.at c.args.bytes.now) (omega arith) c.in_default.ensures.none (c.loop.invariant.onward h)),
)

pub returns-then-get-least : goal.returns-then-get-least
returns-then-get-least c = (
  λ no. absurd (false≢true no),
  λ h.
      absurd (low_from c.loop.least (c.args.count - c.loop.counter) (drop c.loop.at c.args.bytes.now) c.in-Some.head (omega arith) c.in-Some.ensures.some
      (omega (arith, c.get.ensures.value)) (c.loop.invariant.onward h)),
)

pub loop-preserved : goal.loop-preserved
loop-preserved c =
    let bytes = c.args.bytes.now in
    let at : ℕ = c.loop.at in
    let rest : List ℕ = drop at bytes in
    let head = c.in-Some.head in
    let n : ℕ = c.args.count - (c.loop.counter + 1) in
    let reads : Reads head rest = c.in-Some.ensures.some in
    let step =
    step_from c.loop.least (c.args.count - c.loop.counter) n rest head (omega arith) (omega (arith, c.get.ensures.value)) reads in
    let next : after_record head rest ≡ drop (at + c.whole_length-at.result) bytes =
    drop-drop (8 + wrapped_length head.length) at bytes ∙ ap (λ (k : ℕ). drop (at + k) bytes) (sym c.whole_length-at.ensures) in
    let slot : c.get-least.result ≡ head.slot = c.get-least.ensures.value in
    record {
      within = omega (arith, (reads_long head rest reads).0, length-drop at bytes, c.whole_length-at.ensures);
      onward = λ h.
          subst (λ (k : ℕ). HasRecordsFrom (k + 1) n (drop (at + c.whole_length-at.result) bytes)) (sym slot)
          (subst (λ (xs : List ℕ). HasRecordsFrom (head.slot + 1) n xs) next (step.0 (c.loop.invariant.onward h)));
      back = λ h.
          c.loop.invariant.back (step.1 (subst (λ (xs : List ℕ). HasRecordsFrom (head.slot + 1) n xs) (sym next)
          (subst (λ (k : ℕ). HasRecordsFrom (k + 1) n (drop (at + c.whole_length-at.result) bytes)) slot h)));
    }
