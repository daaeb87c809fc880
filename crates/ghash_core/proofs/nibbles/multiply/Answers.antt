use Rattle.std.proofs.Common.{◌≡◌, ℕ, ◌*◌, bit_xor, bit_and, slice_index, refl, ap, ◌∙◌, arith, rules}
use Rattle.ghash_core.specs.Number.{number_product, digits, digits_product}
use Rattle.ghash_core.proofs.Groups.{table_step, rest_step}
use Rattle.ghash_core.proofs.nibbles.multiply.Goals as goal

pub loop-step-init : goal.loop-step-init
unfolding digits_product digits
loop-step-init c = record { so_far = λ h m. refl; remains = omega arith }

pub loop-step-preserved : goal.loop-step-preserved
loop-step-preserved c = record {
  so_far = λ h m.
      ap (λ (y : ℕ). bit_xor y (slice_index c.args.table.now (bit_and c.loop-step.rest 15))) c.by_x4.ensures
      ∙ table_step c.loop-step.z c.args.x h c.loop-step.step (slice_index c.args.table.now (bit_and c.loop-step.rest 15)) c.loop-step.rest
      (c.loop-step.invariant.so_far h m) c.loop-step.invariant.remains (m (bit_and c.loop-step.rest 15) (search rules));
  remains = rest_step c.args.x c.loop-step.step c.loop-step.rest c.loop-step.invariant.remains;
}

pub returns : goal.returns
unfolding number_product
returns c h m =
    let last : c.loop-step.step ≡ 32 = omega arith in
    c.loop-step.invariant.so_far h m ∙ ap (λ (i : ℕ). digits_product (digits (4 * i) c.args.x) h) last
