use Rattle.std.proofs.Common.{ℕ, length, ap, ◌∙◌}
use Rattle.ghash_core.specs.Block.{blocks_in}
use Rattle.ghash_core.specs.Number.{horner, numbers, number_of}
use Rattle.ghash_core.proofs.Absorbing.{absorbs}
use Rattle.ghash_core.proofs.key_table.Table.absorb_plain.Goals as goal

pub returns : goal.returns
returns c h f =
    let m = blocks_in (length c.args.bytes.now) in
    let xs = numbers m c.args.bytes.now in
    absorbs h c.args.acc.now c.args.bytes.now c.to_be_bytes.result c.by_bits-end.result f.size f.bytes c.told-acc c.fits-acc (λ i. (c.type_inv.bytes i).fits)
    (c.by_bits-end.ensures ∙ ap (λ (y : ℕ). horner y c.number.result xs) (c.multiplicand-h.ensures (number_of h) f.first) ∙ ap (λ (y : ℕ). horner (number_of h) y xs) c.number.ensures)
    c.to_be_bytes.ensures
