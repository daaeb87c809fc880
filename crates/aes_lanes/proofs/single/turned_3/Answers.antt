use Rattle.std.proofs.Common.{[], ◌∷◌, arith}
use Rattle.aes_lanes.proofs.Turns.{left_at}
use Rattle.aes_lanes.proofs.single.turned_3.Goals as goal

pub returns : goal.returns
returns c i = left_at c.args.v c.args.v 3 c.fits-v.0 (omega arith) i ∷ left_at c.args.v c.args.v 0 c.fits-v.0 (omega arith) i ∷ left_at c.args.v c.args.v 1 c.fits-v.0 (omega arith) i ∷ left_at c.args.v c.args.v 2 c.fits-v.0 (omega arith) i ∷ left_at c.args.v c.args.v 7 c.fits-v.0 (omega arith) i ∷ left_at c.args.v c.args.v 4 c.fits-v.0 (omega arith) i ∷ left_at c.args.v c.args.v 5 c.fits-v.0 (omega arith) i ∷ left_at c.args.v c.args.v 6 c.fits-v.0 (omega arith) i ∷ left_at c.args.v c.args.v 11 c.fits-v.0 (omega arith) i ∷ left_at c.args.v c.args.v 8 c.fits-v.0 (omega arith) i ∷ left_at c.args.v c.args.v 9 c.fits-v.0 (omega arith) i ∷ left_at c.args.v c.args.v 10 c.fits-v.0 (omega arith) i ∷ left_at c.args.v c.args.v 15 c.fits-v.0 (omega arith) i ∷ left_at c.args.v c.args.v 12 c.fits-v.0 (omega arith) i ∷ left_at c.args.v c.args.v 13 c.fits-v.0 (omega arith) i ∷ left_at c.args.v c.args.v 14 c.fits-v.0 (omega arith) i ∷ []
