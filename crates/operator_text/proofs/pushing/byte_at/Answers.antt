use Rattle.std.proofs.Common.{◌≡◌, ◌<◌, ◌+◌, ◌*◌, ◌-◌, ℕ, List, [], ◌∷◌, length, take, drop, get_or, Some, sym, ◌∙◌, ap, arith}
use Rattle.line_words.specs.Bytes.{bytes_of}
use Rattle.operator_text.proofs.HexPairs.{digits_long, pair_length, nth_byte, count_is}
use Rattle.operator_text.proofs.pushing.byte_at.Goals as goal

two : (place : ℕ) → (2 * place + 2) - 2 * place ≡ 2
two place = omega arith

pub slice_bounds-pair-end : goal.slice_bounds-pair-end
slice_bounds-pair-end c = omega (arith, digits_long c.args.word.now c.args.count c.requires.spelled (omega arith))

pub read_bytes-requires : goal.read_bytes-requires
read_bytes-requires c = rw (two c.args.place) (pair_length c.args.place c.args.word.now c.args.count c.requires.spelled c.requires.within)

pub returns : goal.returns
returns c = λ bytes e.
    let place = c.args.place in
    let word = c.args.word.now in
    let pair : bytes_of (take 2 (drop (2 * place) word)) ≡ Some c.read_bytes.new.out = rw (two place) at c.read_bytes.ensures in
    let nth = nth_byte place word bytes e (omega (arith, count_is word c.args.count bytes c.requires.spelled e)) in
    let same : c.read_bytes.new.out ≡ get_or bytes place 0 ∷ [] = cc (pair, nth) in
    ap (λ (xs : List ℕ). get_or xs 0 0) same
