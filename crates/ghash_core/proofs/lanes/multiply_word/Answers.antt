use Rattle.std.proofs.Common.{◌∙◌, refl, arith, slice_index}
use Rattle.ghash_core.specs.Number.{shift_by, digits_product, digits}
use Rattle.ghash_core.specs.Lane.{lane}
use Rattle.ghash_core.proofs.LaneWords.{word_step, sixteen_step}
use Rattle.ghash_core.proofs.lanes.multiply_word.Goals as goal

pub loop-step-init : goal.loop-step-init
unfolding digits_product digits shift_by
loop-step-init c = record { so_far = λ j h below rows. refl; remains = λ j below. omega arith }

pub loop-step-preserved : goal.loop-step-preserved
loop-step-preserved c = record {
  so_far = λ j h below rows.
      word_step (lane j c.loop-step.hi c.loop-step.lo) (lane j c.args.z_hi c.args.z_lo) (lane j c.by_x16.result.0 c.by_x16.result.1) h c.loop-step.step
      (slice_index c.args.word j) (slice_index c.loop-step.w j) (lane j c.add_rows.result.0 c.add_rows.result.1)
      (c.loop-step.invariant.so_far j h below rows) (c.loop-step.invariant.remains j below) (c.by_x16.ensures j below) (c.add_rows.ensures j h below rows);
  remains = λ j below. c.without_sixteen-w.ensures j below ∙ sixteen_step (slice_index c.args.word j) c.loop-step.step (slice_index c.loop-step.w j) (c.loop-step.invariant.remains j below);
}
