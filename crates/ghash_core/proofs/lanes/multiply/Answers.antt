use Rattle.std.proofs.Common.{◌≡◌, ℕ, ◌<◌, ap, ◌∙◌, refl, bit_xor, slice_index, [], ◌∷◌}
use Rattle.ghash_core.specs.Number.{shift_by, digits_product, digits}
use Rattle.ghash_core.specs.Lane.{lane}
use Rattle.ghash_core.proofs.LaneWords.{two_words, word_at-lt, below_four}
use Rattle.ghash_core.proofs.lanes.multiply.Goals as goal

no_lane : (j : ℕ) → j < 4 → lane j (0 ∷ 0 ∷ 0 ∷ 0 ∷ []) (0 ∷ 0 ∷ 0 ∷ 0 ∷ []) ≡ 0
no_lane = below_four _ refl refl refl refl

pub returns : goal.returns
returns c j h below rows =
    two_words (slice_index c.args.x_hi j) (slice_index c.args.x_lo j) h
    (lane j c.multiply_word.result.0 c.multiply_word.result.1) (lane j c.multiply_word-2.result.0 c.multiply_word-2.result.1)
    (word_at-lt c.args.x_lo j c.fits-x_lo.0 c.fits-x_lo.1)
    (c.multiply_word.ensures j h below rows ∙ ap (λ (z : ℕ). bit_xor (digits_product (digits 64 (slice_index c.args.x_lo j)) h) (shift_by 64 z)) (no_lane j below))
    (c.multiply_word-2.ensures j h below rows)
