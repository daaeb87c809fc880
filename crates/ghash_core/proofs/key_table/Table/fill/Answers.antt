use Rattle.std.proofs.Common.{◌≡◌, ℕ, ap, ◌∙◌, sym, subst}
use Rattle.ghash_core.specs.Number.{number_of, number_product, number_power}
use Rattle.ghash_core.specs.ByBytes.{polynomial}
use Rattle.ghash_core.specs.Places.{ArePlaces}
use Rattle.ghash_core.proofs.BlockNumbers.{number_power-one, number_power-next, whole_sixteen}
use Rattle.ghash_core.proofs.key_table.Table.fill.Goals as goal

pub returns : goal.returns
returns c =
    let h = number_of c.args.h.now in
    let one : polynomial c.block-by_1.result ≡ h = c.block-by_1.ensures ∙ ap number_of (whole_sixteen c.args.h.now c.told-h) in
    let first : ArePlaces c.fill.new.places h = subst (λ (x : ℕ). ArePlaces c.fill.new.places x) (c.number.ensures ∙ one) c.fill.ensures in
    let power_one = sym (number_power-one h first.below) in
    let two : polynomial c.multiply-by_2.result ≡ number_power h 2 = c.multiply-by_2.ensures h first ∙ ap (λ (x : ℕ). number_product x h) (one ∙ power_one) ∙ sym (number_power-next h 1) in
    let three : polynomial c.multiply-by_3.result ≡ number_power h 3 = c.multiply-by_3.ensures h first ∙ ap (λ (x : ℕ). number_product x h) two ∙ sym (number_power-next h 2) in
    let four : polynomial c.multiply-by_4.result ≡ number_power h 4 = c.multiply-by_4.ensures h first ∙ ap (λ (x : ℕ). number_product x h) three ∙ sym (number_power-next h 3) in
    record {
      size = c.told-h;
      bytes = c.fits-h;
      first = first;
      second = subst (λ (x : ℕ). ArePlaces c.fill-2.new.places x) (c.number-2.ensures ∙ two) c.fill-2.ensures;
      third = subst (λ (x : ℕ). ArePlaces c.fill-3.new.places x) (c.number-3.ensures ∙ three) c.fill-3.ensures;
      fourth = subst (λ (x : ℕ). ArePlaces c.fill-4.new.places x) (c.number-4.ensures ∙ four) c.fill-4.ensures;
    }
