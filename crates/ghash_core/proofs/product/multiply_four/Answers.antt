use Rattle.std.proofs.Common.{◌≡◌, ℕ, List, ◌+◌, bit_xor, slice_index, get_or, ap, ◌∙◌, arith}
use Rattle.ghash_core.specs.Number.{shift_by}
use Rattle.ghash_core.proofs.Bytes.{zeros_at}
use Rattle.ghash_core.specs.ByBytes.{by_bytes, polynomial, four_sum}
use Rattle.ghash_core.proofs.Folding.{none_over, still_zero}
use Rattle.ghash_core.proofs.ByteProducts.{last_bytes, four_starts, four_go_on, four_end}
use Rattle.ghash_core.proofs.product.multiply_four.Goals as goal

pub loop-step-init : goal.loop-step-init
loop-step-init c = record {
  so_far = λ l m n o pa pb pc pd.
      none_over c.four_values-sum.result ∙ c.four_values-sum.ensures l m n o pa pb pc pd
      ∙ four_starts l m n o c.args.x c.args.y c.args.z c.args.w c.fits-x.1 c.fits-y.1 c.fits-z.1 c.fits-w.1;
  zeros = λ i far. zeros_at i;
}

pub loop-step-preserved : goal.loop-step-preserved
loop-step-preserved c =
    let step = c.loop-step.step in
    record {
      so_far = λ l m n o pa pb pc pd.
          c.carried.ensures.sum
          ∙ ap (λ (v : ℕ). bit_xor (shift_by 8 v) (polynomial c.four_values-values.result)) (c.loop-step.invariant.so_far l m n o pa pb pc pd)
          ∙ ap (λ (v : ℕ). bit_xor (shift_by 8 (four_sum (λ h v. by_bytes (last_bytes (step + 1) h) v) l c.args.x m c.args.y n c.args.z o c.args.w)) v) (c.four_values-values.ensures l m n o pa pb pc pd)
          ∙ four_go_on step l m n o c.args.x c.args.y c.args.z c.args.w c.loop-step-test.true c.fits-x.1 c.fits-y.1 c.fits-z.1 c.fits-w.1;
      zeros = λ i far.
          ap (λ (v : List ℕ). get_or v i 0) c.carried.ensures.over ∙ still_zero (slice_index c.loop-step.sum 15) step c.loop-step.over c.loop-step.invariant.zeros i far;
    }

pub returns : goal.returns
returns c l m n o pa pb pc pd =
    let last : c.loop-step.step ≡ 15 = omega arith in
    c.folded.ensures ∙ c.loop-step.invariant.so_far l m n o pa pb pc pd
    ∙ ap (λ (s : ℕ). four_sum (λ h v. by_bytes (last_bytes (s + 1) h) v) l c.args.x m c.args.y n c.args.z o c.args.w) last
    ∙ four_end l m n o c.args.x c.args.y c.args.z c.args.w pa.below pb.below pc.below pd.below c.fits-x.1 c.fits-y.1 c.fits-z.1 c.fits-w.1
