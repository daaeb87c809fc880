use Rattle.std.proofs.Common.{◌≡◌, ℕ, ◌+◌, ◌*◌, [], ◌∷◌, ◌++◌, get_or, arith, slice_index}
use Rattle.aes_lanes.proofs.Turns.{below_8, left_at, right_at}
use Rattle.aes_lanes.proofs.sixteen.lower.Goals as goal

pub returns-clause-even : goal.returns-clause-even
returns-clause-even c m h =
    below_8 (λ (m : ℕ). slice_index (get_or (c.args.a ++ c.args.b) 0 0 ∷ get_or (c.args.a ++ c.args.b) 16 0 ∷ get_or (c.args.a ++ c.args.b) 1 0 ∷ get_or (c.args.a ++ c.args.b) 17 0 ∷ get_or (c.args.a ++ c.args.b) 2 0 ∷ get_or (c.args.a ++ c.args.b) 18 0 ∷ get_or (c.args.a ++ c.args.b) 3 0 ∷ get_or (c.args.a ++ c.args.b) 19 0 ∷ get_or (c.args.a ++ c.args.b) 4 0 ∷ get_or (c.args.a ++ c.args.b) 20 0 ∷ get_or (c.args.a ++ c.args.b) 5 0 ∷ get_or (c.args.a ++ c.args.b) 21 0 ∷ get_or (c.args.a ++ c.args.b) 6 0 ∷ get_or (c.args.a ++ c.args.b) 22 0 ∷ get_or (c.args.a ++ c.args.b) 7 0 ∷ get_or (c.args.a ++ c.args.b) 23 0 ∷ []) (2 * m) ≡ slice_index c.args.a m)
    (left_at c.args.a c.args.b 0 c.fits-a.0 (omega arith))
    (left_at c.args.a c.args.b 1 c.fits-a.0 (omega arith))
    (left_at c.args.a c.args.b 2 c.fits-a.0 (omega arith))
    (left_at c.args.a c.args.b 3 c.fits-a.0 (omega arith))
    (left_at c.args.a c.args.b 4 c.fits-a.0 (omega arith))
    (left_at c.args.a c.args.b 5 c.fits-a.0 (omega arith))
    (left_at c.args.a c.args.b 6 c.fits-a.0 (omega arith))
    (left_at c.args.a c.args.b 7 c.fits-a.0 (omega arith))
    m h

pub returns-clause-odd : goal.returns-clause-odd
returns-clause-odd c m h =
    below_8 (λ (m : ℕ). slice_index (get_or (c.args.a ++ c.args.b) 0 0 ∷ get_or (c.args.a ++ c.args.b) 16 0 ∷ get_or (c.args.a ++ c.args.b) 1 0 ∷ get_or (c.args.a ++ c.args.b) 17 0 ∷ get_or (c.args.a ++ c.args.b) 2 0 ∷ get_or (c.args.a ++ c.args.b) 18 0 ∷ get_or (c.args.a ++ c.args.b) 3 0 ∷ get_or (c.args.a ++ c.args.b) 19 0 ∷ get_or (c.args.a ++ c.args.b) 4 0 ∷ get_or (c.args.a ++ c.args.b) 20 0 ∷ get_or (c.args.a ++ c.args.b) 5 0 ∷ get_or (c.args.a ++ c.args.b) 21 0 ∷ get_or (c.args.a ++ c.args.b) 6 0 ∷ get_or (c.args.a ++ c.args.b) 22 0 ∷ get_or (c.args.a ++ c.args.b) 7 0 ∷ get_or (c.args.a ++ c.args.b) 23 0 ∷ []) (2 * m + 1) ≡ slice_index c.args.b m)
    (right_at c.args.a c.args.b 0 c.fits-a.0)
    (right_at c.args.a c.args.b 1 c.fits-a.0)
    (right_at c.args.a c.args.b 2 c.fits-a.0)
    (right_at c.args.a c.args.b 3 c.fits-a.0)
    (right_at c.args.a c.args.b 4 c.fits-a.0)
    (right_at c.args.a c.args.b 5 c.fits-a.0)
    (right_at c.args.a c.args.b 6 c.fits-a.0)
    (right_at c.args.a c.args.b 7 c.fits-a.0)
    m h
