use Rattle.std.proofs.Common.{◌≡◌, ℕ, ◌+◌, ◌≤◌, slice_index}
use Rattle.ghash_core.specs.ByBytes.{by_bytes, reduced, four_sum}
use Rattle.ghash_core.specs.Places.{ArePlaces}
use Rattle.ghash_core.proofs.ByteProducts.{last_bytes}
use Rattle.ghash_core.proofs.product.multiply_four.Given as goal

abbrev pub invariant-loop-step : goal.invariant-loop-step
invariant-loop-step t = record {
  so_far : (l m n o : ℕ) → ArePlaces t.a l → ArePlaces t.b m → ArePlaces t.c n → ArePlaces t.d o →
      reduced t.sum t.over ≡ four_sum (λ h v. by_bytes (last_bytes (t.step + 1) h) v) l t.x m t.y n t.z o t.w;
  zeros : (i : ℕ) → t.step ≤ i → slice_index t.over i ≡ 0;
}
