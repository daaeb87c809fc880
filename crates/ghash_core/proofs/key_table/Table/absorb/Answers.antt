use Rattle.std.proofs.Common.{ℕ, length, ap, ◌∙◌}
use Rattle.ghash_core.specs.Block.{blocks_in}
use Rattle.ghash_core.specs.Number.{horner, numbers, number_of}
use Rattle.ghash_core.proofs.Absorbing.{absorbs}
use Rattle.ghash_core.proofs.BlockNumbers.{whole_sixteen}
use Rattle.ghash_core.proofs.key_table.Table.absorb.Goals as goal

pub returns : goal.returns
returns c h f =
    let m = blocks_in (length c.args.bytes.now) in
    absorbs h c.args.acc.now c.args.bytes.now c.bytes.result _ f.size f.bytes c.told-acc c.fits-acc (λ i. (c.type_inv.bytes i).fits)
    (c.by_fours-end.ensures (number_of h) f.first f.second f.third f.fourth
    ∙ ap (λ (y : ℕ). horner (number_of h) y (numbers m c.args.bytes.now)) (c.block-before.ensures ∙ ap number_of (whole_sixteen c.args.acc.now c.told-acc)))
    c.bytes.ensures
