use Rattle.std.proofs.Common.{◌≡◌, ◌≤◌, ◌+◌, ◌-◌, ℕ, List, length, take, drop, refl, sym, ap, ◌∙◌, arith}
use Rattle.std.specs.Int.{w32, to_be_bytes, from_be_bytes}
use Rattle.std.proofs.lemmas.Bool.{false≢true}
use Rattle.std.proofs.lemmas.Nat.{be_bytes_4}
use Rattle.std.proofs.lemmas.List.{length-drop, length-take-le, take_all, take-replicate}
use Rattle.bits_core.specs.ByteList.{IsBytes, zeros}
use Rattle.bits_core.proofs.Bytes.{IsBytes-take, IsBytes-drop}
use Rattle.key_wrap.proofs.Padding.{padding, length-padded, size_is, rest_is, four_bytes, is_padded}
use Rattle.key_wrap.proofs.kwp.plain_length.Goals as goal

pub returns-then-not-same-2-clause-none : goal.returns-then-not-same-2-clause-none
returns-then-not-same-2-clause-none c = λ p plain is.
    let text = c.args.text.now in
    let size = c.from_be_bytes-size.result in
    let same : size ≡ length p = c.from_be_bytes-size.ensures ∙ size_is text p plain.most is in
    let long : length text ≡ length p + padding (length p) + 8 = ap (length {A = ℕ}) is ∙ omega (arith, length-padded p) in
    let k : ℕ = length text - 8 - size in
    let count : padding size ≡ k = ap padding same ∙ omega arith in
    let whole : take (length text - (size + 8)) (drop (size + 8) text) ≡ drop (size + 8) text =
    take_all (length text - (size + 8)) (drop (size + 8) text) (omega (arith, length-drop (size + 8) text)) in
    let few : k ≤ 8 = omega arith in
    false≢true ((c.if-not-same-2.ensures).1 (whole ∙ rest_is text p size is same ∙ ap zeros count ∙ sym (take-replicate k 8 0 few)))

pub returns-clause-some : goal.returns-clause-some
returns-clause-some c =
    let text = c.args.text.now in
    let size = c.from_be_bytes-size.result in
    let small : IsBytes text = λ n. omega (arith, c.type_inv.text n) in
    let enough : 8 ≤ length text = omega arith in
    let four : List ℕ = take 4 (drop 4 text) in
    let number : to_be_bytes w32 size ≡ four =
    be_bytes_4 four size (length-take-le 4 (drop 4 text) (omega (arith, length-drop 4 text))) (IsBytes-take 4 (drop 4 text) (IsBytes-drop 4 text small))
    (c.from_be_bytes-size.ensures ∙ ap (from_be_bytes w32) (four_bytes text enough)) in
    let k : ℕ = length text - 8 - size in
    let few : k ≤ 8 = omega arith in
    let fits : size + 8 ≤ length text = omega arith in
    let whole : take (length text - (size + 8)) (drop (size + 8) text) ≡ drop (size + 8) text =
    take_all (length text - (size + 8)) (drop (size + 8) text) (omega (arith, length-drop (size + 8) text)) in
    let rest : drop (size + 8) text ≡ zeros k = sym whole ∙ (c.if-not-same-2.ensures).0 refl ∙ take-replicate k 8 0 few in
    record {
      some = omega arith;
      fits = fits;
      whole = is_padded text size c.requires.least c.requires.whole fits (omega arith) ((c.if-not-same.ensures).0 refl) number rest;
    }
