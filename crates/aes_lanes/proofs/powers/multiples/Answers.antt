use Rattle.std.proofs.Common.{ap, ◌∙◌, slice_index}
use Rattle.aes_spec.specs.Field.{times}
use Rattle.aes_lanes.proofs.Places.{byte_at}
use Rattle.aes_lanes.proofs.Products.{single_is, again_2, again_3, again_4, again_5, again_6, again_7}
use Rattle.aes_lanes.proofs.powers.multiples.Goals as goal

pub returns-clause-m0 : goal.returns-clause-m0
returns-clause-m0 c j h = single_is (slice_index c.args.a0 j) (byte_at c.args.a0 j c.fits-a0 h)

pub returns-clause-m2 : goal.returns-clause-m2
returns-clause-m2 c j h = c.double-a2.ensures j h ∙ ap (times 2) (c.double-a1.ensures j h) ∙ again_2 (slice_index c.args.a0 j) (byte_at c.args.a0 j c.fits-a0 h)

pub returns-clause-m3 : goal.returns-clause-m3
returns-clause-m3 c j h = c.double-a3.ensures j h ∙ ap (times 2) (c.double-a2.ensures j h ∙ ap (times 2) (c.double-a1.ensures j h) ∙ again_2 (slice_index c.args.a0 j) (byte_at c.args.a0 j c.fits-a0 h)) ∙ again_3 (slice_index c.args.a0 j) (byte_at c.args.a0 j c.fits-a0 h)

pub returns-clause-m4 : goal.returns-clause-m4
returns-clause-m4 c j h = c.double-a4.ensures j h ∙ ap (times 2) (c.double-a3.ensures j h ∙ ap (times 2) (c.double-a2.ensures j h ∙ ap (times 2) (c.double-a1.ensures j h) ∙ again_2 (slice_index c.args.a0 j) (byte_at c.args.a0 j c.fits-a0 h)) ∙ again_3 (slice_index c.args.a0 j) (byte_at c.args.a0 j c.fits-a0 h)) ∙ again_4 (slice_index c.args.a0 j) (byte_at c.args.a0 j c.fits-a0 h)

pub returns-clause-m5 : goal.returns-clause-m5
returns-clause-m5 c j h = c.double-a5.ensures j h ∙ ap (times 2) (c.double-a4.ensures j h ∙ ap (times 2) (c.double-a3.ensures j h ∙ ap (times 2) (c.double-a2.ensures j h ∙ ap (times 2) (c.double-a1.ensures j h) ∙ again_2 (slice_index c.args.a0 j) (byte_at c.args.a0 j c.fits-a0 h)) ∙ again_3 (slice_index c.args.a0 j) (byte_at c.args.a0 j c.fits-a0 h)) ∙ again_4 (slice_index c.args.a0 j) (byte_at c.args.a0 j c.fits-a0 h)) ∙ again_5 (slice_index c.args.a0 j) (byte_at c.args.a0 j c.fits-a0 h)

pub returns-clause-m6 : goal.returns-clause-m6
returns-clause-m6 c j h = c.double-a6.ensures j h ∙ ap (times 2) (c.double-a5.ensures j h ∙ ap (times 2) (c.double-a4.ensures j h ∙ ap (times 2) (c.double-a3.ensures j h ∙ ap (times 2) (c.double-a2.ensures j h ∙ ap (times 2) (c.double-a1.ensures j h) ∙ again_2 (slice_index c.args.a0 j) (byte_at c.args.a0 j c.fits-a0 h)) ∙ again_3 (slice_index c.args.a0 j) (byte_at c.args.a0 j c.fits-a0 h)) ∙ again_4 (slice_index c.args.a0 j) (byte_at c.args.a0 j c.fits-a0 h)) ∙ again_5 (slice_index c.args.a0 j) (byte_at c.args.a0 j c.fits-a0 h)) ∙ again_6 (slice_index c.args.a0 j) (byte_at c.args.a0 j c.fits-a0 h)

pub returns-clause-m7 : goal.returns-clause-m7
returns-clause-m7 c j h = c.double-a7.ensures j h ∙ ap (times 2) (c.double-a6.ensures j h ∙ ap (times 2) (c.double-a5.ensures j h ∙ ap (times 2) (c.double-a4.ensures j h ∙ ap (times 2) (c.double-a3.ensures j h ∙ ap (times 2) (c.double-a2.ensures j h ∙ ap (times 2) (c.double-a1.ensures j h) ∙ again_2 (slice_index c.args.a0 j) (byte_at c.args.a0 j c.fits-a0 h)) ∙ again_3 (slice_index c.args.a0 j) (byte_at c.args.a0 j c.fits-a0 h)) ∙ again_4 (slice_index c.args.a0 j) (byte_at c.args.a0 j c.fits-a0 h)) ∙ again_5 (slice_index c.args.a0 j) (byte_at c.args.a0 j c.fits-a0 h)) ∙ again_6 (slice_index c.args.a0 j) (byte_at c.args.a0 j c.fits-a0 h)) ∙ again_7 (slice_index c.args.a0 j) (byte_at c.args.a0 j c.fits-a0 h)
