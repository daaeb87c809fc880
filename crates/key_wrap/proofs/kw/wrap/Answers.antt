use Rattle.std.proofs.Common.{◌≡◌, ◌≤◌, ◌+◌, ◌%◌, ℕ, List, length, take, ap, ◌∙◌, arith}
use Rattle.std.proofs.lemmas.List.{length-take-le}
use Rattle.aes_core.specs.Key.{aes}
use Rattle.key_wrap.specs.Wrapping.{wrapped, kw}
use Rattle.key_wrap.proofs.Cipher.{aes-long}
use Rattle.key_wrap.proofs.Injective.{wrapped-long}
use Rattle.key_wrap.proofs.Buffers.{front_enciphered}
use Rattle.key_wrap.proofs.Checked.{checked, length-checked}
use Rattle.key_wrap.proofs.kw.wrap.Goals as goal

pub returns-clause-wrapped : goal.returns-clause-wrapped
unfolding kw
returns-clause-wrapped c = λ key is.
    let n = c.args.length in
    let p : List ℕ = take n c.args.buf.now in
    let long : length p ≡ n = length-take-le n c.args.buf.now (omega (arith, c.requires.most, c.told-buf)) in
    let size : length (checked p) ≡ n + 8 = length-checked p ∙ ap (λ (k : ℕ). k + 8) long in
    let least : 24 ≤ length (checked p) = omega (arith, c.requires.least) in
    let whole : length (checked p) % 8 ≡ 0 = omega (arith, c.requires.whole) in
    front_enciphered (wrapped (aes key)) c.put_header.new.buf (checked p) c.wrap_semiblocks.new.text (n + 8) c.put_header.ensures size
    (wrapped-long (aes key) (aes-long key) (checked p) least whole ∙ size) (c.wrap_semiblocks.ensures key is)
