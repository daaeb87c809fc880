use Rattle.std.proofs.Common.{refl, ap₂, ◌∙◌, bit_xor, slice_index}
use Rattle.aes_lanes.proofs.Places.{byte_at}
use Rattle.aes_lanes.proofs.Products.{single_is, triple_is}
use Rattle.aes_lanes.proofs.power_rounds.mixed_column.Goals as goal

pub returns-clause-first : goal.returns-clause-first
returns-clause-first c j h =
    let one_c = single_is (slice_index c.args.c j) (byte_at c.args.c j c.fits-c h) in
    let one_d = single_is (slice_index c.args.d j) (byte_at c.args.d j c.fits-d h) in
    c.sum-first.ensures j h
    ∙ ap₂ bit_xor (c.sum.ensures j h ∙ ap₂ bit_xor (c.double-a2.ensures j h) ((c.sum-b3.ensures j h ∙ ap₂ bit_xor (c.double-b2.ensures j h) refl ∙ triple_is (slice_index c.args.b j) (byte_at c.args.b j c.fits-b h)))) (c.sum-2.ensures j h ∙ ap₂ bit_xor (one_c) (one_d))

pub returns-clause-second : goal.returns-clause-second
returns-clause-second c j h =
    let one_a = single_is (slice_index c.args.a j) (byte_at c.args.a j c.fits-a h) in
    let one_d = single_is (slice_index c.args.d j) (byte_at c.args.d j c.fits-d h) in
    c.sum-second.ensures j h
    ∙ ap₂ bit_xor (c.sum-3.ensures j h ∙ ap₂ bit_xor (one_a) (c.double-b2.ensures j h)) (c.sum-4.ensures j h ∙ ap₂ bit_xor ((c.sum-c3.ensures j h ∙ ap₂ bit_xor (c.double-c2.ensures j h) refl ∙ triple_is (slice_index c.args.c j) (byte_at c.args.c j c.fits-c h))) (one_d))

pub returns-clause-third : goal.returns-clause-third
returns-clause-third c j h =
    let one_a = single_is (slice_index c.args.a j) (byte_at c.args.a j c.fits-a h) in
    let one_b = single_is (slice_index c.args.b j) (byte_at c.args.b j c.fits-b h) in
    c.sum-third.ensures j h
    ∙ ap₂ bit_xor (c.sum-5.ensures j h ∙ ap₂ bit_xor (one_a) (one_b)) (c.sum-6.ensures j h ∙ ap₂ bit_xor (c.double-c2.ensures j h) ((c.sum-d3.ensures j h ∙ ap₂ bit_xor (c.double-d2.ensures j h) refl ∙ triple_is (slice_index c.args.d j) (byte_at c.args.d j c.fits-d h))))

pub returns-clause-fourth : goal.returns-clause-fourth
returns-clause-fourth c j h =
    let one_b = single_is (slice_index c.args.b j) (byte_at c.args.b j c.fits-b h) in
    let one_c = single_is (slice_index c.args.c j) (byte_at c.args.c j c.fits-c h) in
    c.sum-fourth.ensures j h
    ∙ ap₂ bit_xor (c.sum-7.ensures j h ∙ ap₂ bit_xor ((c.sum-a3.ensures j h ∙ ap₂ bit_xor (c.double-a2.ensures j h) refl ∙ triple_is (slice_index c.args.a j) (byte_at c.args.a j c.fits-a h))) (one_b)) (c.sum-8.ensures j h ∙ ap₂ bit_xor (one_c) (c.double-d2.ensures j h))
