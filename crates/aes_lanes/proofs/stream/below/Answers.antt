use Rattle.std.proofs.Common.{◌≡◌, ℕ, ◌<◌, ltb, false, cond, List, map, length, get_or, replicate, sym, ap, ◌∙◌, arith, w8}
use lib.Lanes.{zip2, sel_l, top}
use Rattle.std.proofs.lemmas.Simd.{get_or-zip2, get_or-sel_l, get_or-replicate, tops_compared, length-zip2}
use Rattle.aes_lanes.proofs.stream.below.Goals as goal

below_lane : (a b : List ℕ) (j : ℕ) → length a ≡ 16 → length b ≡ 16 → j < 16
    → ◌≡◌ {A = ℕ} (get_or (sel_l (map (top 7) (zip2 (λ (x y : ℕ). cond (ltb x y) 255 0) a b)) (replicate 16 1) (replicate 16 0)) j 0) (cond (ltb (get_or a j 0) (get_or b j 0)) 1 0)
below_lane a b j la lb h =
    let ms = zip2 ltb a b in
    let lm : length ms ≡ 16 = length-zip2 ltb a b (la ∙ sym lb) ∙ la in
    ap (λ m. get_or (sel_l m (replicate 16 1) (replicate 16 0)) j 0) (tops_compared w8 ltb a b)
    ∙ get_or-sel_l ms (replicate 16 1) (replicate 16 0) j 0 (omega (arith, lm)) (omega arith) (omega arith)
    ∙ (λ i. cond (get_or-zip2 ltb a b j 0 0 false (omega (arith, la)) (omega (arith, lb)) i) (get_or-replicate 16 j 1 0 h i) (get_or-replicate 16 j 0 0 h i))

pub returns : goal.returns
returns c j h = below_lane c.args.a c.args.b j c.fits-a.0 c.fits-b.0 h
