use Rattle.std.proofs.Common.{ℕ, ◌∙◌, ap, sym, length, bit_xor, rules}
use Rattle.ghash_core.specs.Block.{blocks_in}
use Rattle.ghash_core.specs.Number.{horner, numbers, number_of, number_product}
use Rattle.ghash_core.proofs.Bytes.{whole_block, no_block, last_block}
use Rattle.ghash_core.proofs.absorb.by_nibbles.Goals as goal

pub loop-block-preserved : goal.loop-block-preserved
loop-block-preserved c h m =
    let rest = c.loop-block.rest.now in
    let after = c.in-Some.after.now in
    ap (λ (y : ℕ). horner h y (numbers (blocks_in (length after)) after)) (c.multiply-sum.ensures h m ∙ ap (λ (x : ℕ). number_product (bit_xor c.loop-block.sum x) h) c.number.ensures)
    ∙ sym (whole_block h c.loop-block.sum rest c.in-Some.block.now after c.in-Some.ensures.cases.0 c.in-Some.ensures.cases.1 c.in-Some.ensures.cases.2)
    ∙ c.loop-block.invariant h m

pub returns-then-is_empty : goal.returns-then-is_empty
returns-then-is_empty c h m = sym (no_block h c.loop-block.sum c.loop-block.rest.now (search rules)) ∙ c.loop-block.invariant h m

pub returns-else-is_empty : goal.returns-else-is_empty
returns-else-is_empty c h m =
    c.multiply.ensures h m ∙ ap (λ (x : ℕ). number_product (bit_xor c.loop-block.sum x) h) (c.number-else-is_empty.ensures ∙ ap number_of c.padded.ensures)
    ∙ sym (last_block h c.loop-block.sum c.loop-block.rest.now (search rules) (search rules)) ∙ c.loop-block.invariant h m
