use Rattle.std.proofs.Common.{◌≡◌, ◌-◌, ℕ, List, length, take, sym, ap, ◌∙◌, subst}
use Rattle.bits_core.specs.ByteList.{zeros, zero_padded}
use Rattle.bits_core.proofs.ZeroPadding.{take_front}
use Rattle.aes_core.specs.Key.{aes}
use Rattle.key_wrap.specs.Wrapping.{kwp}
use Rattle.key_wrap.proofs.Lengths.{length-kwp}
use Rattle.vault_backup.specs.Writing.{Signs}
use Rattle.vault_backup.proofs.writing.put_wrapping.Goals as goal

pub returns-clause-signs : goal.returns-clause-signs
returns-clause-signs c = λ key is.
    let text = c.args.text.now in
    let size : ℕ = c.wrap_pad-size.result in
    let wrapped : List ℕ = kwp (aes key) text in
    let long : length wrapped ≡ size = length-kwp key text c.requires.some c.requires.most ∙ sym c.wrap_pad-size.ensures.size in
    let piece : take size c.wrap_pad-size.new.buf ≡ wrapped =
    ap (λ (xs : List ℕ). take size xs) (c.wrap_pad-size.ensures.wrapped key is)
    ∙ ap (λ (xs : List ℕ). take size (zero_padded 80 (kwp (aes key) xs))) c.lay.ensures.front
    ∙ take_front size wrapped (zeros (80 - length wrapped)) long in
    subst (λ (xs : List ℕ). Signs c.args.port.now.outbox.now c.put_signed.new.port.outbox.now c.args.stream.now c.put_signed.new.stream xs) piece c.put_signed.ensures.signs
