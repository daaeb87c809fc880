use Rattle.std.proofs.Common.{ℕ, sym, ap, ◌∙◌, lit<, bit_xor}
use Rattle.ghash_core.specs.Number.{number_of, number_product, number_power}
use Rattle.ghash_core.proofs.BlockNumbers.{four_blocks}
use Rattle.ghash_core.proofs.absorb.by_lanes.Goals as goal

pub loop-rest-preserved : goal.loop-rest-preserved
loop-rest-preserved c rows =
    let h = c.args.h in
    let e0 = c.multiply.ensures 0 (number_power h 4) (lit< tt) (rows 0 (lit< tt)) ∙ ap (λ (x : ℕ). number_product x (number_power h 4)) (c.split.ensures.first ∙ ap (bit_xor c.loop-rest.sum) c.number.ensures) in
    let e1 = c.multiply.ensures 1 (number_power h 3) (lit< tt) (rows 1 (lit< tt)) ∙ ap (λ (x : ℕ). number_product x (number_power h 3)) (c.split.ensures.second ∙ c.number-in-loop-rest.ensures) in
    let e2 = c.multiply.ensures 2 (number_power h 2) (lit< tt) (rows 2 (lit< tt)) ∙ ap (λ (x : ℕ). number_product x (number_power h 2)) (c.split.ensures.third ∙ c.number-in-loop-rest-2.ensures) in
    let e3 = c.multiply.ensures 3 (number_power h 1) (lit< tt) (rows 3 (lit< tt)) ∙ ap (λ (x : ℕ). number_product x (number_power h 1)) (c.split.ensures.fourth ∙ c.number-in-loop-rest-3.ensures) in
    sym (four_blocks h c.loop-rest.sum c.sum-sum.result (number_of c.take_block.result.0.now) (number_of c.take_block-in-loop-rest.result.0.now) (number_of c.take_block-in-loop-rest-2.result.0.now) (number_of c.take_block-in-loop-rest-3.result.0.now)
    c.loop-rest.rest.now c.take_block.result.1.now c.take_block-in-loop-rest.result.1.now c.take_block-in-loop-rest-2.result.1.now c.take_block-in-loop-rest-3.result.1.now
    c.ranges.h.fits c.loop-rest.auto.sum-fits.fits c.loop-rest-test.true
    (ap number_of c.take_block.ensures.value) c.take_block.ensures.after (ap number_of c.take_block-in-loop-rest.ensures.value) c.take_block-in-loop-rest.ensures.after
    (ap number_of c.take_block-in-loop-rest-2.ensures.value) c.take_block-in-loop-rest-2.ensures.after (ap number_of c.take_block-in-loop-rest-3.ensures.value) c.take_block-in-loop-rest-3.ensures.after
    (c.sum-sum.ensures ∙ cc (e0, e1, e2, e3)))
    ∙ c.loop-rest.invariant rows

pub returns : goal.returns
returns c rows = c.by_bits.ensures ∙ c.loop-rest.invariant rows
