use Rattle.std.proofs.Common.{◌≡◌, ℕ, ◌+◌, ◌/◌, ◌%◌, ◌<◌, get_or}
use Rattle.drbg_core.specs.Generator.{value_after}
use Rattle.drbg_core.proofs.generator.fill.Given as goal

abbrev pub invariant-loop-i : goal.invariant-loop-i
invariant-loop-i l = record {
  state : l.v ≡ value_after l.k l.fn.v ((l.i + 31) / 32);
  so_far : (m : ℕ) → m < l.i → get_or l.out m 0 ≡ get_or (value_after l.k l.fn.v (m / 32 + 1)) (m % 32) 0;
}
