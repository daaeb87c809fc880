use Rattle.std.proofs.Common.{ℕ, List}
use Rattle.noise_health.specs.Counts.{Counts}
use Rattle.noise_health.proofs.tests.first_fault.Given as goal

abbrev pub invariant-loop-at : goal.invariant-loop-at
invariant-loop-at l = (samples : List ℕ) × Counts l.health samples
