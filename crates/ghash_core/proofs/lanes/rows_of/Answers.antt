use Rattle.std.proofs.Common.{◌≡◌, ℕ, ◌-◌, ◌<◌, slice_index, ap, ◌∙◌, refl, arith}
use Rattle.std.proofs.Math.ListN.{length-set}
use Rattle.ghash_core.specs.declared.lanes.Row.{Row}
use Rattle.ghash_core.specs.Number.{shift_by}
use Rattle.ghash_core.specs.Lane.{lane}
use Rattle.ghash_core.proofs.ByteSums.{shift_by-add}
use Rattle.ghash_core.proofs.LaneWords.{below_four}
use Rattle.ghash_core.proofs.Written.{written}
use Rattle.ghash_core.proofs.lanes.rows_of.Goals as goal

pub loop-i-init : goal.loop-i-init
unfolding shift_by
loop-i-init c = record { size = refl; so_far = λ j below. refl; done = λ j k row below in_range far. absurd (omega arith) }

pub loop-i-preserved : goal.loop-i-preserved
loop-i-preserved c =
    let inv = c.loop-i.invariant in
    let i = c.loop-i.i in
    let in_lanes : (j : ℕ) → j < 4 → lane j c.split.result.0 c.split.result.1 ≡ slice_index c.loop-i.products j =
    below_four (λ (j : ℕ). lane j c.split.result.0 c.split.result.1 ≡ slice_index c.loop-i.products j) c.split.ensures.first c.split.ensures.second c.split.ensures.third c.split.ensures.fourth in
    record {
      size = length-set c.loop-i.rows (15 - i) _ ∙ inv.size;
      so_far = λ j below. c.by_x-next.ensures j below ∙ ap (shift_by 1) (inv.so_far j below) ∙ shift_by-add 1 i (slice_index c.args.multiplicands.now j);
      done = λ j k row below in_range far.
          let h = slice_index c.args.multiplicands.now j in
          let place : i ≡ 15 - (15 - i) = omega arith in
          written (λ (q : ℕ) (r : Row). lane j r.hi r.lo ≡ shift_by (15 - q) h) c.loop-i.rows (record { hi = c.split.result.0; lo = c.split.result.1 }) row (15 - i) k
          (omega (arith, inv.size)) (in_lanes j below ∙ inv.so_far j below ∙ ap (λ (n : ℕ). shift_by n h) place) (λ other. inv.done j k row below in_range (omega arith));
    }
