use Rattle.std.proofs.Common.{◌≡◌, ℕ, length, sym, ap, ◌∙◌}
use Rattle.aes_core.specs.Aes.{IsState}
use Rattle.aes_core.specs.Key.{aes, aes_inverse}
use Rattle.aes_spec.proofs.EncryptionUndoes.{aes-aes_inverse}
use Rattle.key_wrap.proofs.Injective.{padded_cipher_one, padded_cipher_more}
use Rattle.key_wrap.proofs.kwp.decipher_padded.Goals as goal

pub returns-then-text-eq16-clause-opened : goal.returns-then-text-eq16-clause-opened
returns-then-text-eq16-clause-opened c = λ key is.
    let text = c.args.text.now in
    let block = c.block_of-block.result in
    let new = c.copy_from_slice.new.self in
    let same : block ≡ text = c.block_of-block.ensures.same in
    let one : length text ≡ 16 = c.if-text-eq16.true in
    let state : IsState block = record { long = ap (length {A = ℕ}) same ∙ one; small = c.block_of-block.ensures.bytes } in
    let made : new ≡ aes_inverse key block = c.copy_from_slice.ensures.after ∙ c.decrypt.ensures key is in
    sym same ∙ sym (aes-aes_inverse key block is.bytes state) ∙ ap (aes key) (sym made)
    ∙ sym (padded_cipher_one (aes key) new (c.copy_from_slice.ensures.len ∙ one))

pub returns-else-text-eq16-clause-opened : goal.returns-else-text-eq16-clause-opened
returns-else-text-eq16-clause-opened c = λ key is.
    c.unwrap_semiblocks.ensures.opened key is
    ∙ sym (padded_cipher_more (aes key) c.unwrap_semiblocks.new.text (λ e. c.if-text-eq16.false (sym c.unwrap_semiblocks.auto.text ∙ e)))
