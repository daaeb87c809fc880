use Rattle.std.proofs.Common.{◌≡◌, ℕ, List, ◌+◌, ◌-◌, bit_xor, slice_index, get_or, ap, ◌∙◌, arith, lit<}
use Rattle.ghash_core.specs.Number.{shift_by}
use Rattle.ghash_core.proofs.Bytes.{zeros_at}
use Rattle.ghash_core.specs.ByBytes.{by_bytes, polynomial}
use Rattle.ghash_core.proofs.Folding.{none_over, still_zero}
use Rattle.ghash_core.proofs.ByteProducts.{last_bytes, values_are, starts, goes_on, ends}
use Rattle.ghash_core.proofs.product.multiply.Goals as goal

pub loop-step-init : goal.loop-step-init
loop-step-init c = record {
  so_far = λ g are.
      none_over c.values-sum.result ∙ ap polynomial c.values-sum.ensures
      ∙ values_are c.args.h.now g 15 _ c.args.x are (lit< tt) c.fits-x.1 ∙ starts g c.args.x c.fits-x.1;
  zeros = λ i far. zeros_at i;
}

pub loop-step-preserved : goal.loop-step-preserved
loop-step-preserved c =
    let x = c.args.x in
    let step = c.loop-step.step in
    record {
      so_far = λ g are.
          c.carried.ensures.sum
          ∙ ap (λ (y : ℕ). bit_xor (shift_by 8 y) (polynomial c.values-values.result)) (c.loop-step.invariant.so_far g are)
          ∙ ap (λ (y : ℕ). bit_xor (shift_by 8 (by_bytes (last_bytes (step + 1) g) x)) y) (ap polynomial c.values-values.ensures
          ∙ values_are c.args.h.now g (14 - step) _ x are (omega arith) c.fits-x.1)
          ∙ goes_on g step x c.loop-step-test.true c.fits-x.1;
      zeros = λ i far.
          ap (λ (l : List ℕ). get_or l i 0) c.carried.ensures.over ∙ still_zero (slice_index c.loop-step.sum 15) step c.loop-step.over c.loop-step.invariant.zeros i far;
    }

pub returns : goal.returns
returns c g are =
    let last : c.loop-step.step ≡ 15 = omega arith in
    c.folded.ensures ∙ c.loop-step.invariant.so_far g are
    ∙ ap (λ (s : ℕ). by_bytes (last_bytes (s + 1) g) c.args.x) last ∙ ends g c.args.x are.below c.fits-x.1
