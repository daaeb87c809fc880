use Rattle.std.proofs.Common.{◌≡◌, ◌≤◌, ◌+◌, ◌*◌, ◌/◌, ℕ, List, length, take, sym, ap, ◌∙◌, arith}
use Rattle.std.specs.Int.{w32, to_be_bytes}
use Rattle.std.proofs.lemmas.List.{length-take-le}
use Rattle.bits_core.specs.ByteList.{zero_padded}
use Rattle.aes_core.specs.Key.{aes}
use Rattle.key_wrap.specs.Wrapping.{padded}
use Rattle.key_wrap.specs.InPlace.{padded_cipher, IsPadded}
use Rattle.key_wrap.proofs.Cipher.{aes-long}
use Rattle.key_wrap.proofs.Injective.{padded_cipher-long}
use Rattle.key_wrap.proofs.Padding.{length-padded, kwp-padded_cipher, framed}
use Rattle.key_wrap.proofs.Buffers.{front_enciphered}
use Rattle.key_wrap.proofs.kwp.wrap_pad.Goals as goal

pub returns-clause-wrapped : goal.returns-clause-wrapped
returns-clause-wrapped c = λ key is.
    let n = c.args.length in
    let p : List ℕ = take n c.args.buf.now in
    let long : length p ≡ n = length-take-le n c.args.buf.now (omega (arith, c.requires.most, c.told-buf)) in
    let number : c.to_be_bytes.result ≡ to_be_bytes w32 (length p) = c.to_be_bytes.ensures ∙ ap (to_be_bytes w32) (sym long) in
    let few : length p ≤ 64 = omega (arith, c.requires.most) in
    let least : 1 ≤ length p = omega (arith, c.requires.least) in
    let is_framed = framed c.to_be_bytes.result p c.put_header.new.buf number few c.put_header.ensures in
    let size : length (padded p) ≡ 8 * ((n + 7) / 8) + 8 = length-padded p ∙ ap (λ (k : ℕ). 8 * ((k + 7) / 8) + 8) long in
    let whole : IsPadded (padded p) = record { least = omega arith; most = omega arith; whole = omega arith } in
    front_enciphered (padded_cipher (aes key)) c.put_header.new.buf (padded p) c.encipher_padded.new.text (8 * ((n + 7) / 8) + 8) is_framed size
    (padded_cipher-long (aes key) (aes-long key) (padded p) whole ∙ size) (c.encipher_padded.ensures key is)
    ∙ ap (zero_padded 80) (sym (kwp-padded_cipher (aes key) p least))
