use Rattle.std.proofs.Common.{ℕ, ◌/◌, ◌^◌, ap, ◌∙◌, arith, replicate, slice_index}
use Rattle.std.proofs.lemmas.Simd.{get_or-zip2, get_or-replicate}
use Rattle.aes_lanes.proofs.nibbles.high.Goals as goal

pub returns : goal.returns
returns c j h =
    get_or-zip2 (λ (a b : ℕ). a / 2 ^ b) c.args.v (replicate 16 4) j 0 0 0 (omega (arith, c.fits-v.0)) (omega arith)
    ∙ ap (λ (b : ℕ). slice_index c.args.v j / 2 ^ b) (get_or-replicate 16 j 4 0 h)
