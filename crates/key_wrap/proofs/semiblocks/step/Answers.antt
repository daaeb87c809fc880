use Rattle.std.proofs.Common.{◌≡◌, ℕ, List, length, take, drop, ap, ap₂, ◌∙◌}
use Rattle.std.specs.Int.{w64, to_be_bytes}
use Rattle.std.proofs.lemmas.List.{take_at, drop_at}
use Rattle.bits_core.specs.ByteList.{xor_bytes}
use Rattle.aes_core.specs.Key.{aes}
use Rattle.key_wrap.specs.InPlace.{laid, block_at, stepped}
use Rattle.key_wrap.proofs.Undone.{sum-half}
use Rattle.key_wrap.proofs.Cipher.{aes-long}
use Rattle.key_wrap.proofs.semiblocks.step.Goals as goal

pub returns : goal.returns
unfolding stepped
returns c = λ key is.
    let i = c.args.i in
    let text = c.args.text.now in
    let block = c.encrypt.new.block in
    let sum = c.xor_into.new.a in
    let number : List ℕ = to_be_bytes w64 c.args.t in
    let made : block ≡ aes key (block_at i text) = c.encrypt.ensures key is ∙ ap (aes key) c.gather-block.ensures.block in
    let added : sum ≡ xor_bytes (take 8 block) number = c.xor_into.ensures ∙ ap (xor_bytes (take 8 block)) c.to_be_bytes.ensures in
    let long : length sum ≡ 8 = ap (length {A = ℕ}) added ∙ sum-half block c.args.t (ap (length {A = ℕ}) made ∙ aes-long key (block_at i text)) in
    c.scatter.ensures
    ∙ ap₂ (λ (u v : List ℕ). laid u i v text) (take_at sum (drop 8 block) 8 long ∙ added) (drop_at sum (drop 8 block) 8 long)
    ∙ ap (λ (b : List ℕ). laid (xor_bytes (take 8 b) number) i (drop 8 b) text) made
