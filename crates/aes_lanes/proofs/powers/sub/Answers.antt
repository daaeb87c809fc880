use Rattle.std.proofs.Common.{ℕ, ap, ap₂, ◌∙◌, bit_xor, slice_index}
use Rattle.aes_spec.specs.Field.{times}
use Rattle.aes_lanes.specs.Powers.{linear}
use Rattle.aes_lanes.proofs.Places.{byte_at}
use Rattle.aes_lanes.proofs.Products.{sub_lane}
use Rattle.aes_lanes.specs.declared.powers.TheConstants.{FOURTHS, SIXTEENTHS, AFFINES}
use Rattle.aes_lanes.proofs.powers.sub.Goals as goal

pub returns : goal.returns
returns c j h =
    let x = slice_index c.args.x j in
    let x2 = c.linear-x2.ensures j h in
    let x3 = c.product-x3.ensures j h ∙ ap (λ (y : ℕ). times y x) x2 in
    let x12 = c.linear-x12.ensures j h ∙ ap (linear FOURTHS) x3 in
    let x15 = c.product-x15.ensures j h ∙ ap₂ times x12 x3 in
    let x240 = c.linear-x240.ensures j h ∙ ap (linear SIXTEENTHS) x15 in
    let x252 = c.product-x252.ensures j h ∙ ap₂ times x12 x240 in
    let x254 = c.product-x254.ensures j h ∙ ap₂ times x2 x252 in
    c.sum.ensures j h
    ∙ ap₂ bit_xor (c.linear.ensures j h ∙ ap (linear AFFINES) x254) (c.splat.ensures j h)
    ∙ sub_lane x (byte_at c.args.x j c.fits-x h)
