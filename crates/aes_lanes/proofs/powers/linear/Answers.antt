use Rattle.std.proofs.Common.{◌∙◌, slice_index}
use Rattle.aes_lanes.specs.Powers.{chosen, linear}
use Rattle.aes_lanes.proofs.powers.linear.Goals as goal

pub returns : goal.returns
unfolding linear
returns c j h =
    let e = c.splats.ensures in
    c.masked.ensures j h
    ∙ (λ i. chosen (slice_index c.args.x j) (e.m0 j h i) (e.m1 j h i) (e.m2 j h i) (e.m3 j h i) (e.m4 j h i) (e.m5 j h i) (e.m6 j h i) (e.m7 j h i))
