use Rattle.std.proofs.Common.{◌≡◌, ◌≤◌, ◌+◌, ◌-◌, ◌%◌, ℕ, List, ◌++◌, length, take, drop, replicate, refl, sym, ap, ◌∙◌, arith, rules}
use Rattle.std.proofs.lemmas.List.{length-take-le, length-drop, take-append-le, take_all}
use Rattle.std.proofs.lemmas.Bool.{true≢false, false≢true}
use Rattle.key_wrap.proofs.Buffers.{opened_front, opened_rest}
use Rattle.key_wrap.proofs.Checked.{kw_checked, kw_found}
use Rattle.bits_core.specs.ByteList.{IsBytes, zeros}
use Rattle.bits_core.proofs.Bytes.{IsBytes-take}
use Rattle.key_wrap.specs.Unwrapping.{unkw}
use Rattle.key_wrap.specs.InPlace.{IsSemiblocks}
use Rattle.key_wrap.proofs.UnwrappedValues.{unkw_some, unkw_none, shows_some, shows_none}
use Rattle.key_wrap.proofs.kw.unwrap.Goals as goal

pub returns-then-same-clause-found : goal.returns-then-same-clause-found
returns-then-same-clause-found c = λ key is.
    let n = c.args.length in
    let buf = c.args.buf.now in
    let w : List ℕ = take n buf in
    let mid = c.unwrap_semiblocks.new.text in
    let rest : List ℕ = drop n buf in
    let w_long : length w ≡ n = length-take-le n buf (omega (arith, c.requires.most, c.told-buf)) in
    let long : length mid ≡ n = c.unwrap_semiblocks.auto.text ∙ w_long in
    let enough : 8 ≤ length mid = omega (arith, c.requires.least) in
    let fits : n - 8 + 8 ≤ length mid = omega (arith, c.requires.least) in
    let check : take 8 mid ≡ replicate 8 0xa6 = sym (take-append-le 8 mid rest enough) ∙ (c.if-same.ensures).0 refl in
    let shown : take (n - 8) c.take_header.new.buf ≡ drop 8 mid =
    opened_front mid rest c.take_header.new.buf (n - 8) fits c.take_header.ensures
    ∙ take_all (n - 8) (drop 8 mid) (omega (arith, length-drop 8 mid)) in
    kw_found key w mid (take (n - 8) c.take_header.new.buf) c.unwrap_semiblocks.ensures.bytes
    (omega (arith, c.requires.least)) (omega (arith, c.requires.most)) (omega (arith, c.requires.whole))
    (c.unwrap_semiblocks.ensures.opened key is) check shown

pub returns-then-same-clause-refused : goal.returns-then-same-clause-refused
returns-then-same-clause-refused c = λ key is.
    (λ e. absurd (true≢false e), λ none. absurd (none (take (c.args.length - 8) c.take_header.new.buf) (returns-then-same-clause-found c key is)))

pub returns-then-same-clause-padded : goal.returns-then-same-clause-padded
returns-then-same-clause-padded c =
    let n = c.args.length in
    let buf = c.args.buf.now in
    let mid = c.unwrap_semiblocks.new.text in
    let w_long : length (take n buf) ≡ n = length-take-le n buf (omega (arith, c.requires.most, c.told-buf)) in
    let long : length mid ≡ n = c.unwrap_semiblocks.auto.text ∙ w_long in
    opened_rest mid (drop n buf) c.take_header.new.buf (n - 8) (omega (arith, c.requires.least)) c.take_header.ensures

pub returns-else-same-clause-refused : goal.returns-else-same-clause-refused
returns-else-same-clause-refused c = λ key is.
    let n = c.args.length in
    let buf = c.args.buf.now in
    let w : List ℕ = take n buf in
    let mid = c.unwrap_semiblocks.new.text in
    let rest : List ℕ = drop n buf in
    let w_long : length w ≡ n = length-take-le n buf (omega (arith, c.requires.most, c.told-buf)) in
    let enough : 8 ≤ length mid = omega (arith, c.requires.least, c.unwrap_semiblocks.auto.text) in (
      λ e p h.
          let parts : mid ≡ replicate 8 0xa6 ++ p = kw_checked key w mid p is.bytes c.unwrap_semiblocks.ensures.bytes c.unwrap_semiblocks.auto.text (c.unwrap_semiblocks.ensures.opened key is) h in
          let check : take 8 (mid ++ rest) ≡ replicate 8 0xa6 = take-append-le 8 mid rest enough ∙ ap (take 8) parts in
          false≢true ((c.if-same.ensures).1 check),
      λ none. refl,
    )

semiblocks_of : (buf : List ℕ) (n : ℕ) → length buf ≡ 80 → 24 ≤ n → n ≤ 72 → n % 8 ≡ 0 → IsSemiblocks (take n buf)
semiblocks_of buf n eighty least most whole =
    let long : length (take n buf) ≡ n = length-take-le n buf (omega arith) in
    record { least = omega arith; most = omega arith; whole = ap (λ (k : ℕ). k % 8) long ∙ whole }

pub returns-then-same-clause-value : goal.returns-then-same-clause-value
returns-then-same-clause-value c = λ key is.
    let n = c.args.length in
    let buf = c.args.buf.now in
    let new = c.take_header.new.buf in
    let w : List ℕ = take n buf in
    let small : IsBytes w = IsBytes-take n buf c.fits-buf in
    let h : IsSemiblocks w = semiblocks_of buf n c.told-buf c.requires.least c.requires.most c.requires.whole in
    shows_some (unkw key w) new (n - 8) ((unkw_some key w (take (n - 8) new) is.bytes small h).1 (returns-then-same-clause-found c key is))
    c.take_header.array_long (omega (arith, c.requires.most)) (returns-then-same-clause-padded c)

pub returns-else-same-clause-value : goal.returns-else-same-clause-value
returns-else-same-clause-value c = λ key is.
    let n = c.args.length in
    let buf = c.args.buf.now in
    let w : List ℕ = take n buf in
    let small : IsBytes w = IsBytes-take n buf c.fits-buf in
    let h : IsSemiblocks w = semiblocks_of buf n c.told-buf c.requires.least c.requires.most c.requires.whole in
    shows_none (unkw key w) c.wipe.new.bytes ((unkw_none key w is.bytes small h).1 ((returns-else-same-clause-refused c key is).0 refl))
    (let zero : c.wipe.new.bytes ≡ zeros 80 = search rules in zero)
