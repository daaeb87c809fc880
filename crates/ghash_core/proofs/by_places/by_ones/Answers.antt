use Rattle.std.proofs.Common.{ℕ, ◌∙◌, ap, sym, length, bit_xor, rules}
use Rattle.ghash_core.specs.Block.{blocks_in}
use Rattle.ghash_core.specs.Number.{horner, numbers, number_product, number_of}
use Rattle.ghash_core.proofs.Bytes.{whole_block, no_block, last_block}
use Rattle.ghash_core.specs.ByBytes.{polynomial}
use Rattle.ghash_core.proofs.BlockNumbers.{taken}
use Rattle.ghash_core.proofs.by_places.by_ones.Goals as goal

pub loop-first-preserved : goal.loop-first-preserved
loop-first-preserved c n are =
    let rest = c.loop-first.rest.now in
    let after = c.in-Some.after.now in
    let y = polynomial c.loop-first.sum in
    ap (λ (v : ℕ). horner n v (numbers (blocks_in (length after)) after))
    (c.multiply-sum.ensures n are ∙ ap (λ (v : ℕ). number_product v n) (c.plus.ensures ∙ ap (bit_xor y) (c.block.ensures ∙ ap number_of (taken c.in-Some.first.now rest c.in-Some.ensures.cases.0))))
    ∙ sym (whole_block n y rest c.in-Some.first.now after c.in-Some.ensures.cases.0 c.in-Some.ensures.cases.1 c.in-Some.ensures.cases.2)
    ∙ c.loop-first.invariant n are

pub returns-then-is_empty : goal.returns-then-is_empty
returns-then-is_empty c n are = sym (no_block n (polynomial c.loop-first.sum) c.loop-first.rest.now (search rules)) ∙ c.loop-first.invariant n are

pub returns : goal.returns
returns c n are =
    let y = polynomial c.loop-first.sum in
    c.multiply.ensures n are ∙ ap (λ (v : ℕ). number_product v n) (c.plus-2.ensures ∙ ap (bit_xor y) (c.block-2.ensures ∙ ap number_of (taken c.padded.result _ c.padded.ensures ∙ c.padded.ensures)))
    ∙ sym (last_block n y c.loop-first.rest.now (search rules) (search rules)) ∙ c.loop-first.invariant n are
