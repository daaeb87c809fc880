use Rattle.std.proofs.Common.{ℕ, ◌∙◌, ap, sym, length, bit_xor, rules}
use Rattle.ghash_core.specs.Block.{blocks_in}
use Rattle.ghash_core.specs.Number.{horner, numbers, number_of, number_product}
use Rattle.ghash_core.proofs.Bytes.{whole_block, no_block, last_block}
use Rattle.ghash_core.proofs.absorb.by_bits.Goals as goal

pub loop-block-preserved : goal.loop-block-preserved
loop-block-preserved c =
    let rest = c.loop-block.rest.now in
    let after = c.in-Some.after.now in
    ap (λ (y : ℕ). horner c.args.h y (numbers (blocks_in (length after)) after)) (c.multiply-sum.ensures ∙ ap (λ (x : ℕ). number_product (bit_xor c.loop-block.sum x) c.args.h) c.number.ensures)
    ∙ sym (whole_block c.args.h c.loop-block.sum rest c.in-Some.block.now after c.in-Some.ensures.cases.0 c.in-Some.ensures.cases.1 c.in-Some.ensures.cases.2)
    ∙ c.loop-block.invariant

pub returns-then-is_empty : goal.returns-then-is_empty
returns-then-is_empty c = sym (no_block c.args.h c.loop-block.sum c.loop-block.rest.now (search rules)) ∙ c.loop-block.invariant

pub returns-else-is_empty : goal.returns-else-is_empty
returns-else-is_empty c =
    c.multiply.ensures ∙ ap (λ (x : ℕ). number_product (bit_xor c.loop-block.sum x) c.args.h) (c.number-else-is_empty.ensures ∙ ap number_of c.padded.ensures)
    ∙ sym (last_block c.args.h c.loop-block.sum c.loop-block.rest.now (search rules) (search rules)) ∙ c.loop-block.invariant
