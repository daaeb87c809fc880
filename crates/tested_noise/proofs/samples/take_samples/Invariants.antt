use Rattle.std.proofs.Common.{◌≡◌, ◌++◌, ℕ, List, take, length}
use Rattle.outside.specs.Explained.{Explained}
use Rattle.noise_health.specs.Counts.{Counts}
use Rattle.tested_noise.specs.Taken.{AreTaken}
use Rattle.tested_noise.proofs.samples.take_samples.Given as goal

abbrev pub invariant-loop-place : goal.invariant-loop-place
invariant-loop-place g l = record {
  taken : Explained (g.N.Noise.left l.fn.noise) (g.N.Noise.left l.noise)
      (λ events left. (samples : List ℕ) → Counts l.fn.health samples → AreTaken samples (take l.place l.out) events left);
  counts : (samples : List ℕ) → Counts l.fn.health samples → Counts l.health (samples ++ take l.place l.out);
  faults : g.N.Noise.faults l.noise ≡ g.N.Noise.faults l.fn.noise;
}
