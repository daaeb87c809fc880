use Rattle.std.proofs.Common.{ℕ, ◌+◌, ◌%◌, arith}
use Rattle.std.proofs.lemmas.Simd.{get_or-zip2}
use Rattle.aes_lanes.specs.Powers.{doubled}
use Rattle.aes_lanes.proofs.powers.twice.Goals as goal

pub returns : goal.returns
unfolding doubled
returns c j h = get_or-zip2 (λ (a b : ℕ). (a + b) % 256) c.args.v c.args.v j 0 0 0 (omega (arith, c.fits-v.0)) (omega (arith, c.fits-v.0))
