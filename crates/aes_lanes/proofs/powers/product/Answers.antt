use Rattle.std.proofs.Common.{◌∙◌, slice_index}
use Rattle.aes_lanes.specs.Powers.{chosen}
use Rattle.aes_lanes.proofs.Places.{byte_at}
use Rattle.aes_lanes.proofs.Products.{chosen_times}
use Rattle.aes_lanes.proofs.powers.product.Goals as goal

pub returns : goal.returns
returns c j h =
    let e = c.multiples.ensures in
    c.masked.ensures j h
    ∙ (λ i. chosen (slice_index c.args.b j) (e.m0 j h i) (e.m1 j h i) (e.m2 j h i) (e.m3 j h i) (e.m4 j h i) (e.m5 j h i) (e.m6 j h i) (e.m7 j h i))
    ∙ chosen_times (slice_index c.args.a j) (slice_index c.args.b j) (byte_at c.args.a j c.fits-a h) (byte_at c.args.b j c.fits-b h)
