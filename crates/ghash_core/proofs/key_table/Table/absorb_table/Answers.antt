use Rattle.std.proofs.Common.{ℕ, length, ap, subst, ◌∙◌}
use Rattle.ghash_core.specs.Block.{blocks_in}
use Rattle.ghash_core.specs.Number.{horner, numbers, number_of, AreMultiples}
use Rattle.ghash_core.proofs.Absorbing.{absorbs}
use Rattle.ghash_core.proofs.key_table.Table.absorb_table.Goals as goal

pub returns : goal.returns
returns c h f =
    let m = blocks_in (length c.args.bytes.now) in
    absorbs h c.args.acc.now c.args.bytes.now c.to_be_bytes.result c.by_nibbles-end.result f.size f.bytes c.told-acc c.fits-acc (λ i. (c.type_inv.bytes i).fits)
    (c.by_nibbles-end.ensures (number_of h) (subst (λ (x : ℕ). AreMultiples c.multiples-multiples.result x) (c.multiplicand.ensures (number_of h) f.first) c.multiples-multiples.ensures) ∙ ap (λ (y : ℕ). horner (number_of h) y (numbers m c.args.bytes.now)) c.number.ensures)
    c.to_be_bytes.ensures
