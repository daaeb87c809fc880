use Rattle.std.proofs.Common.{◌≡◌, ℕ, ◌%◌, ◌≤◌, List, length, take, drop, refl, ap, ◌∙◌, subst, arith, rules}
use Rattle.std.proofs.lemmas.List.{length-take-le, take_at}
use Rattle.std.proofs.lemmas.Bool.{true≢false}
use Rattle.key_wrap.specs.InPlace.{IsPaddedFrom}
use Rattle.key_wrap.proofs.Buffers.{opened_front, opened_rest}
use Rattle.key_wrap.proofs.Checked.{kwp_padded, kwp_found}
use Rattle.bits_core.specs.ByteList.{IsBytes, zeros}
use Rattle.bits_core.proofs.Bytes.{IsBytes-take}
use Rattle.key_wrap.specs.Unwrapping.{unkwp}
use Rattle.key_wrap.specs.InPlace.{IsPadded}
use Rattle.key_wrap.proofs.UnwrappedValues.{unkwp_some, unkwp_none, shows_some, shows_none}
use Rattle.key_wrap.proofs.kwp.unwrap_pad.Goals as goal

pub returns-in-Some-clause-found : goal.returns-in-Some-clause-found
returns-in-Some-clause-found c = λ key is.
    let n = c.args.length in
    let buf = c.args.buf.now in
    let w : List ℕ = take n buf in
    let mid = c.decipher_padded.new.text in
    let rest : List ℕ = drop n buf in
    let size = c.in-Some.size in
    let w_long : length w ≡ n = length-take-le n buf (omega (arith, c.requires.most, c.told-buf)) in
    let long : length mid ≡ n = c.decipher_padded.auto.text ∙ w_long in
    let from : IsPaddedFrom mid size = subst (λ (l : List ℕ). IsPaddedFrom l size) (take_at mid rest n long) c.in-Some.ensures.some in
    kwp_found key w mid (take size c.take_header.new.buf) size c.decipher_padded.ensures.bytes (omega (arith, c.requires.most))
    (c.decipher_padded.ensures.opened key is) from (opened_front mid rest c.take_header.new.buf size from.fits c.take_header.ensures)

pub returns-in-Some-clause-refused : goal.returns-in-Some-clause-refused
returns-in-Some-clause-refused c = λ key is.
    (λ e. absurd (true≢false e), λ none. absurd (none (take c.in-Some.size c.take_header.new.buf) (returns-in-Some-clause-found c key is)))

pub returns-in-None-clause-refused : goal.returns-in-None-clause-refused
returns-in-None-clause-refused c = λ key is.
    let n = c.args.length in
    let buf = c.args.buf.now in
    let w : List ℕ = take n buf in
    let mid = c.decipher_padded.new.text in
    let w_long : length w ≡ n = length-take-le n buf (omega (arith, c.requires.most, c.told-buf)) in
    let long : length mid ≡ n = c.decipher_padded.auto.text ∙ w_long in (
      λ e p h.
          c.in-None.ensures.none p h.plain
          (take_at mid (drop n buf) n long ∙ kwp_padded key w mid p is.bytes c.decipher_padded.ensures.bytes c.decipher_padded.auto.text (c.decipher_padded.ensures.opened key is) h),
      λ none. refl,
    )

semiblocks_of : (buf : List ℕ) (n : ℕ) → length buf ≡ 80 → 16 ≤ n → n ≤ 72 → n % 8 ≡ 0 → IsPadded (take n buf)
semiblocks_of buf n eighty least most whole =
    let long : length (take n buf) ≡ n = length-take-le n buf (omega arith) in
    record { least = omega arith; most = omega arith; whole = ap (λ (k : ℕ). k % 8) long ∙ whole }

pub returns-in-Some-clause-value : goal.returns-in-Some-clause-value
returns-in-Some-clause-value c = λ key is.
    let n = c.args.length in
    let buf = c.args.buf.now in
    let new = c.take_header.new.buf in
    let size = c.in-Some.size in
    let mid = c.decipher_padded.new.text in
    let w : List ℕ = take n buf in
    let small : IsBytes w = IsBytes-take n buf c.fits-buf in
    let h : IsPadded w = semiblocks_of buf n c.told-buf c.requires.least c.requires.most c.requires.whole in
    let w_long : length w ≡ n = length-take-le n buf (omega (arith, c.requires.most, c.told-buf)) in
    let long : length mid ≡ n = c.decipher_padded.auto.text ∙ w_long in
    let from : IsPaddedFrom mid size = subst (λ (l : List ℕ). IsPaddedFrom l size) (take_at mid (drop n buf) n long) c.in-Some.ensures.some in
    shows_some (unkwp key w) new size ((unkwp_some key w (take size new) is.bytes small h).1 (returns-in-Some-clause-found c key is))
    c.take_header.array_long (omega (arith, from.fits, c.requires.most)) (opened_rest mid (drop n buf) new size from.fits c.take_header.ensures)

pub returns-in-None-clause-value : goal.returns-in-None-clause-value
returns-in-None-clause-value c = λ key is.
    let n = c.args.length in
    let buf = c.args.buf.now in
    let w : List ℕ = take n buf in
    let small : IsBytes w = IsBytes-take n buf c.fits-buf in
    let h : IsPadded w = semiblocks_of buf n c.told-buf c.requires.least c.requires.most c.requires.whole in
    shows_none (unkwp key w) c.wipe.new.bytes ((unkwp_none key w is.bytes small h).1 ((returns-in-None-clause-refused c key is).0 refl))
    (let zero : c.wipe.new.bytes ≡ zeros 80 = search rules in zero)
