use Rattle.std.proofs.Common.{◌≡◌, ℕ, ◌*◌, ◌/◌, ◌^◌}
use Rattle.ghash_core.specs.Number.{digits_product, digits, AreMultiples}
use Rattle.ghash_core.proofs.nibbles.multiply.Given as goal

abbrev pub invariant-loop-step : goal.invariant-loop-step
invariant-loop-step l = record {
  so_far : (h : ℕ) → AreMultiples l.table h → l.z ≡ digits_product (digits (4 * l.step) l.x) h;
  remains : l.rest ≡ l.x / 2 ^ (4 * l.step);
}
