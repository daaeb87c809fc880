use Rattle.std.proofs.Common.{◌≡◌, ℕ, ◌+◌, ◌≤◌, slice_index}
use Rattle.ghash_core.specs.ByBytes.{by_bytes, reduced}
use Rattle.ghash_core.specs.Places.{ArePlaces}
use Rattle.ghash_core.proofs.ByteProducts.{last_bytes}
use Rattle.ghash_core.proofs.product.multiply.Given as goal

abbrev pub invariant-loop-step : goal.invariant-loop-step
invariant-loop-step l = record {
  so_far : (g : ℕ) → ArePlaces l.h g → reduced l.sum l.over ≡ by_bytes (last_bytes (l.step + 1) g) l.x;
  zeros : (i : ℕ) → l.step ≤ i → slice_index l.over i ≡ 0;
}
