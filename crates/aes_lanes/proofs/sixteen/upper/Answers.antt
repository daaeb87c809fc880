use Rattle.std.proofs.Common.{◌≡◌, ℕ, ◌+◌, ◌*◌, [], ◌∷◌, ◌++◌, get_or, arith, slice_index}
use Rattle.aes_lanes.proofs.Turns.{below_8, left_at, right_at}
use Rattle.aes_lanes.proofs.sixteen.upper.Goals as goal

pub returns-clause-even : goal.returns-clause-even
returns-clause-even c m h =
    below_8 (λ (m : ℕ). slice_index (get_or (c.args.a ++ c.args.b) 8 0 ∷ get_or (c.args.a ++ c.args.b) 24 0 ∷ get_or (c.args.a ++ c.args.b) 9 0 ∷ get_or (c.args.a ++ c.args.b) 25 0 ∷ get_or (c.args.a ++ c.args.b) 10 0 ∷ get_or (c.args.a ++ c.args.b) 26 0 ∷ get_or (c.args.a ++ c.args.b) 11 0 ∷ get_or (c.args.a ++ c.args.b) 27 0 ∷ get_or (c.args.a ++ c.args.b) 12 0 ∷ get_or (c.args.a ++ c.args.b) 28 0 ∷ get_or (c.args.a ++ c.args.b) 13 0 ∷ get_or (c.args.a ++ c.args.b) 29 0 ∷ get_or (c.args.a ++ c.args.b) 14 0 ∷ get_or (c.args.a ++ c.args.b) 30 0 ∷ get_or (c.args.a ++ c.args.b) 15 0 ∷ get_or (c.args.a ++ c.args.b) 31 0 ∷ []) (2 * m) ≡ slice_index c.args.a (8 + m))
    (left_at c.args.a c.args.b 8 c.fits-a.0 (omega arith))
    (left_at c.args.a c.args.b 9 c.fits-a.0 (omega arith))
    (left_at c.args.a c.args.b 10 c.fits-a.0 (omega arith))
    (left_at c.args.a c.args.b 11 c.fits-a.0 (omega arith))
    (left_at c.args.a c.args.b 12 c.fits-a.0 (omega arith))
    (left_at c.args.a c.args.b 13 c.fits-a.0 (omega arith))
    (left_at c.args.a c.args.b 14 c.fits-a.0 (omega arith))
    (left_at c.args.a c.args.b 15 c.fits-a.0 (omega arith))
    m h

pub returns-clause-odd : goal.returns-clause-odd
returns-clause-odd c m h =
    below_8 (λ (m : ℕ). slice_index (get_or (c.args.a ++ c.args.b) 8 0 ∷ get_or (c.args.a ++ c.args.b) 24 0 ∷ get_or (c.args.a ++ c.args.b) 9 0 ∷ get_or (c.args.a ++ c.args.b) 25 0 ∷ get_or (c.args.a ++ c.args.b) 10 0 ∷ get_or (c.args.a ++ c.args.b) 26 0 ∷ get_or (c.args.a ++ c.args.b) 11 0 ∷ get_or (c.args.a ++ c.args.b) 27 0 ∷ get_or (c.args.a ++ c.args.b) 12 0 ∷ get_or (c.args.a ++ c.args.b) 28 0 ∷ get_or (c.args.a ++ c.args.b) 13 0 ∷ get_or (c.args.a ++ c.args.b) 29 0 ∷ get_or (c.args.a ++ c.args.b) 14 0 ∷ get_or (c.args.a ++ c.args.b) 30 0 ∷ get_or (c.args.a ++ c.args.b) 15 0 ∷ get_or (c.args.a ++ c.args.b) 31 0 ∷ []) (2 * m + 1) ≡ slice_index c.args.b (8 + m))
    (right_at c.args.a c.args.b 8 c.fits-a.0)
    (right_at c.args.a c.args.b 9 c.fits-a.0)
    (right_at c.args.a c.args.b 10 c.fits-a.0)
    (right_at c.args.a c.args.b 11 c.fits-a.0)
    (right_at c.args.a c.args.b 12 c.fits-a.0)
    (right_at c.args.a c.args.b 13 c.fits-a.0)
    (right_at c.args.a c.args.b 14 c.fits-a.0)
    (right_at c.args.a c.args.b 15 c.fits-a.0)
    m h
