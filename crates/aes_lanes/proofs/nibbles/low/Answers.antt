use Rattle.std.proofs.Common.{bit_and, ap, ◌∙◌, arith, replicate, slice_index}
use Rattle.std.proofs.lemmas.Simd.{get_or-zip2, get_or-replicate}
use Rattle.aes_lanes.proofs.nibbles.low.Goals as goal

pub returns : goal.returns
returns c j h =
    get_or-zip2 bit_and c.args.v (replicate 16 15) j 0 0 0 (omega (arith, c.fits-v.0)) (omega arith)
    ∙ ap (bit_and (slice_index c.args.v j)) (get_or-replicate 16 j 15 0 h)
