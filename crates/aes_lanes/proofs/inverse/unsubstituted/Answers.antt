use Rattle.std.proofs.Common.{◌≡◌, ◌<◌, ℕ, List, refl, ap, ◌∙◌, arith, slice_index}
use Rattle.std.proofs.lemmas.Grind.{same_number_lists}
use Rattle.aes_spec.specs.Field.{inv_sub_byte}
use Rattle.aes_spec.specs.Aes.{inv_sub_bytes, inv_shift_rows}
use Rattle.aes_lanes.proofs.Tower.{below_16}
use Rattle.aes_lanes.proofs.inverse.unsubstituted.Goals as goal

pub returns : goal.returns
returns c =
    let v = c.args.v in
    let s : List ℕ = inv_shift_rows v in
    same_number_lists c.inverse_sub.result (inv_sub_bytes s) (omega (arith, c.inverse_sub.type_inv))
    (λ r h.
    let hr : r < 16 = omega (arith, h, c.inverse_sub.type_inv) in
    c.inverse_sub.ensures r hr
    ∙ ap (λ (t : List ℕ). inv_sub_byte (slice_index t r)) c.shifted_back.ensures
    ∙ below_16 (λ (r : ℕ). inv_sub_byte (slice_index s r) ≡ slice_index (inv_sub_bytes s) r) refl refl refl refl refl refl refl refl refl refl refl refl refl refl refl refl r hr)
