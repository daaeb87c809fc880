use Rattle.std.proofs.Common.{ap, ap₂, ◌∙◌, bit_xor, slice_index}
use Rattle.aes_lanes.specs.Powers.{gate}
use Rattle.aes_lanes.proofs.Places.{byte_at}
use Rattle.aes_lanes.proofs.Products.{double_lane}
use Rattle.aes_lanes.proofs.powers.double.Goals as goal

pub returns : goal.returns
returns c j h =
    c.sum.ensures j h
    ∙ ap₂ bit_xor (c.twice.ensures j h) (c.where_high.ensures j h ∙ ap (gate (slice_index c.args.v j)) (c.splat.ensures j h))
    ∙ double_lane (slice_index c.args.v j) (byte_at c.args.v j c.fits-v h)
