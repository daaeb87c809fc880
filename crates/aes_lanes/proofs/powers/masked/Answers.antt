use Rattle.std.proofs.Common.{ℕ, [], ap, ap₂, ◌∙◌, bit_xor, slice_index, slice_index_or}
use Rattle.aes_lanes.specs.Powers.{gate, doubled, chosen}
use Rattle.aes_lanes.proofs.powers.masked.Goals as goal

pub returns : goal.returns
unfolding chosen
returns c j h =
    let m = λ (i : ℕ). slice_index (slice_index_or c.args.m i []) j in
    let b6 = c.twice-b6.ensures j h in
    let b5 = c.twice-b5.ensures j h ∙ ap doubled b6 in
    let b4 = c.twice-b4.ensures j h ∙ ap doubled b5 in
    let b3 = c.twice-b3.ensures j h ∙ ap doubled b4 in
    let b2 = c.twice-b2.ensures j h ∙ ap doubled b3 in
    let b1 = c.twice-b1.ensures j h ∙ ap doubled b2 in
    let b0 = c.twice-b0.ensures j h ∙ ap doubled b1 in
    let g7 = c.where_high.ensures j h in
    let g6 = c.where_high-2.ensures j h ∙ ap (λ (x : ℕ). gate x (m 6)) b6 in
    let g5 = c.where_high-3.ensures j h ∙ ap (λ (x : ℕ). gate x (m 5)) b5 in
    let g4 = c.where_high-4.ensures j h ∙ ap (λ (x : ℕ). gate x (m 4)) b4 in
    let g3 = c.where_high-5.ensures j h ∙ ap (λ (x : ℕ). gate x (m 3)) b3 in
    let g2 = c.where_high-6.ensures j h ∙ ap (λ (x : ℕ). gate x (m 2)) b2 in
    let g1 = c.where_high-7.ensures j h ∙ ap (λ (x : ℕ). gate x (m 1)) b1 in
    let g0 = c.where_high-8.ensures j h ∙ ap (λ (x : ℕ). gate x (m 0)) b0 in
    c.sum-5.ensures j h
    ∙ ap₂ bit_xor (c.sum-high.ensures j h ∙ ap₂ bit_xor (c.sum.ensures j h ∙ ap₂ bit_xor g7 g6) (c.sum-2.ensures j h ∙ ap₂ bit_xor g5 g4))
    (c.sum-low.ensures j h ∙ ap₂ bit_xor (c.sum-3.ensures j h ∙ ap₂ bit_xor g3 g2) (c.sum-4.ensures j h ∙ ap₂ bit_xor g1 g0))
