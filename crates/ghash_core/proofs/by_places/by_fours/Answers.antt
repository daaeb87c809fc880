use Rattle.std.proofs.Common.{◌≡◌, ℕ, sym, ap, ◌∙◌, bit_xor, subst}
use Rattle.ghash_core.specs.Number.{number_of, number_power}
use Rattle.ghash_core.specs.ByBytes.{polynomial}
use Rattle.ghash_core.specs.Places.{ArePlaces}
use Rattle.ghash_core.proofs.ByteSums.{polynomial-lt}
use Rattle.ghash_core.proofs.BlockNumbers.{four_blocks, four_products, number_power-one, taken}
use Rattle.ghash_core.proofs.by_places.by_fours.Goals as goal

pub loop-rest-preserved : goal.loop-rest-preserved
loop-rest-preserved c n one two three four =
    let y = polynomial c.loop-rest.sum in
    let p1 : ArePlaces c.args.first.now (number_power n 1) = subst (λ (h : ℕ). ArePlaces c.args.first.now h) (sym (number_power-one n one.below)) one in
    let t1 = c.take_block in
    let t2 = c.take_block-in-loop-rest in
    let t3 = c.take_block-in-loop-rest-2 in
    let t4 = c.take_block-in-loop-rest-3 in
    let e1 : polynomial c.block.result ≡ number_of t1.result.0.now = c.block.ensures ∙ ap number_of (taken t1.result.0.now c.loop-rest.rest.now t1.ensures.value) in
    let e2 : polynomial c.block-in-loop-rest.result ≡ number_of t2.result.0.now = c.block-in-loop-rest.ensures ∙ ap number_of (taken t2.result.0.now t1.result.1.now t2.ensures.value) in
    let e3 : polynomial c.block-in-loop-rest-2.result ≡ number_of t3.result.0.now = c.block-in-loop-rest-2.ensures ∙ ap number_of (taken t3.result.0.now t2.result.1.now t3.ensures.value) in
    let e4 : polynomial c.block-in-loop-rest-3.result ≡ number_of t4.result.0.now = c.block-in-loop-rest-3.ensures ∙ ap number_of (taken t4.result.0.now t3.result.1.now t4.ensures.value) in
    sym (four_blocks n y (polynomial c.multiply_four-sum.result) (number_of t1.result.0.now) (number_of t2.result.0.now) (number_of t3.result.0.now) (number_of t4.result.0.now)
    c.loop-rest.rest.now t1.result.1.now t2.result.1.now t3.result.1.now t4.result.1.now
    one.below (polynomial-lt c.loop-rest.sum c.loop-rest.auto.sum.1) c.loop-rest-test.true
    (ap number_of t1.ensures.value) t1.ensures.after (ap number_of t2.ensures.value) t2.ensures.after
    (ap number_of t3.ensures.value) t3.ensures.after (ap number_of t4.ensures.value) t4.ensures.after
    (c.multiply_four-sum.ensures (number_power n 4) (number_power n 3) (number_power n 2) (number_power n 1) four three two p1
    ∙ four_products n _ _ _ _ _ _ _ _ (c.plus.ensures ∙ ap (bit_xor y) e1) e2 e3 e4))
    ∙ c.loop-rest.invariant n one two three four

pub returns : goal.returns
returns c n one two three four = c.by_ones.ensures n one ∙ c.loop-rest.invariant n one two three four
