use Rattle.std.proofs.Common.{sym, ap, ◌∙◌}
use Rattle.aes_core.specs.Key.{aes}
use Rattle.key_wrap.proofs.Injective.{padded_cipher_one, padded_cipher_more}
use Rattle.key_wrap.proofs.kwp.encipher_padded.Goals as goal

pub returns-then-text-eq16 : goal.returns-then-text-eq16
returns-then-text-eq16 c = λ key is.
    c.copy_from_slice.ensures.after ∙ c.encrypt.ensures key is ∙ ap (aes key) c.block_of-block.ensures.same
    ∙ sym (padded_cipher_one (aes key) c.args.text.now c.if-text-eq16.true)

pub returns-else-text-eq16 : goal.returns-else-text-eq16
returns-else-text-eq16 c = λ key is.
    c.wrap_semiblocks.ensures key is ∙ sym (padded_cipher_more (aes key) c.args.text.now c.if-text-eq16.false)
