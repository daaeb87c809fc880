use Rattle.std.proofs.Common.{◌≡◌, ◌<◌, ◌+◌, ◌-◌, ◌*◌, ◌/◌, ℕ, length, sym, ap, ◌∙◌, arith}
use Rattle.aes_core.specs.Key.{aes}
use Rattle.key_wrap.specs.InPlace.{steps}
use Rattle.key_wrap.proofs.Cipher.{aes-long}
use Rattle.key_wrap.proofs.RemainingSteps.{later, later-none, later-more, later-all}
use Rattle.key_wrap.proofs.Wraps.{wrapped-steps}
use Rattle.key_wrap.proofs.semiblocks.unwrap_semiblocks.Goals as goal

pub loop-done-init : goal.loop-done-init
loop-done-init c = record {
  opened = λ key is. later-none (aes key) (length c.args.text.now / 8 - 1) (6 * (length c.args.text.now / 8 - 1) - 0) c.args.text.now;
  bytes = λ n. omega (arith, c.type_inv.text n);
}

pub loop-done-preserved : goal.loop-done-preserved
loop-done-preserved c =
    let m : ℕ = length c.args.text.now / 8 - 1 in
    let done = c.loop-done.done in
    let t : ℕ = 6 * m - done in
    let below : done < 6 * m = omega arith in
    let back : 6 * m - (done + 1) ≡ t - 1 = omega arith in
    record {
      opened = λ key is.
          ap (λ (k : ℕ). later (aes key) m k (done + 1) c.unstep.new.text) back
          ∙ later-more (aes key) m t done c.loop-done.text c.unstep.new.text c.args.text.now (omega arith) (c.unstep.ensures.opened key is) (c.loop-done.invariant.opened key is);
      bytes = c.unstep.ensures.bytes;
    }

pub returns-clause-opened : goal.returns-clause-opened
returns-clause-opened c = λ key is.
    let m : ℕ = length c.args.text.now / 8 - 1 in
    let text = c.loop-done.text in
    let done : c.loop-done.done ≡ 6 * m = omega arith in
    let left : 6 * m - c.loop-done.done ≡ 0 = omega arith in
    let same : length text ≡ length c.args.text.now = omega arith in
    sym (c.loop-done.invariant.opened key is)
    ∙ ap (λ (k : ℕ). later (aes key) m k c.loop-done.done text) left
    ∙ ap (λ (k : ℕ). later (aes key) m 0 k text) done
    ∙ later-all (aes key) m (6 * m) text
    ∙ ap (λ (n : ℕ). steps (aes key) (n / 8 - 1) (6 * (n / 8 - 1)) text) (sym same)
    ∙ sym (wrapped-steps (aes key) (aes-long key) text (omega (arith, c.requires.semiblocks.least)) (omega (arith, c.requires.semiblocks.whole)))

pub returns-clause-bytes : goal.returns-clause-bytes
returns-clause-bytes c = c.loop-done.invariant.bytes
