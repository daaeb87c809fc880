use Rattle.std.proofs.Common.{◌≡◌, ℕ, ◌-◌, ◌%◌, sym, ap, ◌∙◌, arith, bit_xor, slice_index}
use Rattle.std.specs.Int.Bits.{xor_zero_r}
use Rattle.ghash_core.specs.Number.{shift_by, digits_product, digits, when}
use Rattle.ghash_core.specs.Lane.{lane}
use Rattle.ghash_core.proofs.LaneWords.{rows_step, halves_step}
use Rattle.ghash_core.proofs.lanes.add_rows.Goals as goal

pub loop-i-init : goal.loop-i-init
unfolding digits_product digits
loop-i-init c = record {
  so_far = λ j h below rows. sym (xor_zero_r (lane j c.args.z_hi c.args.z_lo));
  remains = λ j below. omega arith;
}

pub loop-i-preserved : goal.loop-i-preserved
loop-i-preserved c = record {
  so_far = λ j h below rows.
      c.add_row.ensures j below
      ∙ ap (λ (x : ℕ). bit_xor (lane j c.loop-i.hi c.loop-i.lo) (when (slice_index c.loop-i.w j % 2) x)) (rows c.loop-i.i _ c.loop-i-test.true)
      ∙ rows_step (lane j c.loop-i.hi c.loop-i.lo) (lane j c.args.z_hi c.args.z_lo) h c.loop-i.i (slice_index c.args.bits j) (slice_index c.loop-i.w j)
      c.loop-i-test.true (c.loop-i.invariant.so_far j h below rows) (c.loop-i.invariant.remains j below);
  remains = λ j below. c.halved-w.ensures j below ∙ halves_step (slice_index c.args.bits j) c.loop-i.i (slice_index c.loop-i.w j) (c.loop-i.invariant.remains j below);
}

pub returns : goal.returns
unfolding shift_by
returns c j h below rows =
    let last : c.loop-i.i ≡ 16 = omega arith in
    c.loop-i.invariant.so_far j h below rows
    ∙ ap (λ (i : ℕ). bit_xor (lane j c.args.z_hi c.args.z_lo) (digits_product (digits i (slice_index c.args.bits j)) (shift_by (16 - i) h))) last
