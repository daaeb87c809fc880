use Rattle.std.proofs.Common.{◌≡◌, ℕ, length, ◌-◌, ◌<◌, sym, ap, subst, ◌∙◌, lit<}
use Rattle.ghash_core.specs.Block.{blocks_in}
use Rattle.ghash_core.specs.Lane.{AreRows}
use Rattle.ghash_core.specs.Number.{horner, numbers, number_of, number_power}
use Rattle.ghash_core.proofs.Absorbing.{absorbs}
use Rattle.ghash_core.proofs.BlockNumbers.{number_power-one}
use Rattle.ghash_core.proofs.LaneWords.{below_four}
use Rattle.ghash_core.proofs.key_table.Table.absorb_lanes.Goals as goal

pub returns : goal.returns
returns c h f =
    let m = blocks_in (length c.args.bytes.now) in
    let n = number_of h in
    let first : c.multiplicand-4.result ≡ n = c.multiplicand-4.ensures n f.first in
    let rows = c.rows_of-rows.result in
    let each = c.rows_of-rows.ensures in
    let of_powers =
    below_four (λ (j : ℕ). AreRows rows j (number_power n (4 - j)))
    (subst (λ (x : ℕ). AreRows rows 0 x) (c.multiplicand.ensures (number_power n 4) f.fourth) (each 0 (lit< tt)))
    (subst (λ (x : ℕ). AreRows rows 1 x) (c.multiplicand-2.ensures (number_power n 3) f.third) (each 1 (lit< tt)))
    (subst (λ (x : ℕ). AreRows rows 2 x) (c.multiplicand-3.ensures (number_power n 2) f.second) (each 2 (lit< tt)))
    (subst (λ (x : ℕ). AreRows rows 3 x) (first ∙ sym (number_power-one n f.first.below)) (each 3 (lit< tt))) in
    absorbs h c.args.acc.now c.args.bytes.now c.to_be_bytes.result _ f.size f.bytes c.told-acc c.fits-acc (λ i. (c.type_inv.bytes i).fits)
    (c.by_lanes-end.ensures (subst (λ (x : ℕ). (j : ℕ) → j < 4 → AreRows rows j (number_power x (4 - j))) (sym first) of_powers)
    ∙ ap (λ (x : ℕ). horner x c.number.result (numbers m c.args.bytes.now)) first
    ∙ ap (λ (y : ℕ). horner n y (numbers m c.args.bytes.now)) c.number.ensures)
    c.to_be_bytes.ensures
