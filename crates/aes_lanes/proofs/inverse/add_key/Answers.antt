use Rattle.std.proofs.Common.{◌≡◌, ◌<◌, ℕ, refl, ◌∙◌, arith, bit_xor, slice_index}
use Rattle.std.proofs.lemmas.Grind.{same_number_lists}
use Rattle.aes_spec.specs.Aes.{add_round_key}
use Rattle.aes_lanes.proofs.Tower.{below_16}
use Rattle.aes_lanes.proofs.inverse.add_key.Goals as goal

pub returns : goal.returns
returns c =
    let v = c.args.v in
    let k = c.args.key in
    same_number_lists c.sum.result (add_round_key k v) (omega (arith, c.sum.type_inv))
    (λ r h.
    let hr : r < 16 = omega (arith, h, c.sum.type_inv) in
    c.sum.ensures r hr
    ∙ below_16 (λ (r : ℕ). bit_xor (slice_index v r) (slice_index k r) ≡ slice_index (add_round_key k v) r) refl refl refl refl refl refl refl refl refl refl refl refl refl refl refl refl r hr)
