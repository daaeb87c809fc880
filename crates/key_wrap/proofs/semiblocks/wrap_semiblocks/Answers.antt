use Rattle.std.proofs.Common.{◌≡◌, ◌-◌, ◌*◌, ◌/◌, ℕ, length, sym, ap, ◌∙◌, arith}
use Rattle.aes_core.specs.Key.{aes}
use Rattle.key_wrap.specs.InPlace.{steps}
use Rattle.key_wrap.proofs.Cipher.{aes-long}
use Rattle.key_wrap.proofs.RemainingSteps.{steps-none, steps-more}
use Rattle.key_wrap.proofs.Wraps.{wrapped-steps}
use Rattle.key_wrap.proofs.semiblocks.wrap_semiblocks.Goals as goal

pub loop-t-init : goal.loop-t-init
loop-t-init c = λ key is. sym (steps-none (aes key) (length c.args.text.now / 8 - 1) c.args.text.now)

pub loop-t-preserved : goal.loop-t-preserved
loop-t-preserved c = λ key is.
    c.step.ensures key is ∙ steps-more (aes key) (length c.args.text.now / 8 - 1) c.loop-t.t c.loop-t.text c.args.text.now (c.loop-t.invariant key is)

pub returns : goal.returns
returns c = λ key is.
    let m : ℕ = length c.args.text.now / 8 - 1 in
    let all : c.loop-t.t ≡ 6 * m = omega arith in
    c.loop-t.invariant key is
    ∙ ap (λ (t : ℕ). steps (aes key) m t c.args.text.now) all
    ∙ sym (wrapped-steps (aes key) (aes-long key) c.args.text.now c.requires.semiblocks.least c.requires.semiblocks.whole)
