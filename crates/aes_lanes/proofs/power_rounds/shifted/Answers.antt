use Rattle.std.proofs.Common.{◌≡◌, ℕ, [], ◌∷◌, arith, slice_index, slice_index_or}
use Rattle.aes_spec.specs.Aes.{shift_rows}
use Rattle.aes_lanes.specs.Rounds.{byte}
use Rattle.aes_lanes.proofs.Tower.{below_16}
use Rattle.aes_lanes.proofs.power_rounds.shifted.Goals as goal

pub returns : goal.returns
returns c j s h es r hr =
    let v = λ (n : ℕ). slice_index_or c.args.s.now n [] in
    below_16 (λ (r : ℕ). byte (v 0 ∷ v 5 ∷ v 10 ∷ v 15 ∷ v 4 ∷ v 9 ∷ v 14 ∷ v 3 ∷ v 8 ∷ v 13 ∷ v 2 ∷ v 7 ∷ v 12 ∷ v 1 ∷ v 6 ∷ v 11 ∷ []) j r ≡ slice_index (shift_rows s) r)
    (es 0 (omega arith)) (es 5 (omega arith)) (es 10 (omega arith)) (es 15 (omega arith)) (es 4 (omega arith)) (es 9 (omega arith)) (es 14 (omega arith)) (es 3 (omega arith)) (es 8 (omega arith)) (es 13 (omega arith)) (es 2 (omega arith)) (es 7 (omega arith)) (es 12 (omega arith)) (es 1 (omega arith)) (es 6 (omega arith)) (es 11 (omega arith))
    r hr
