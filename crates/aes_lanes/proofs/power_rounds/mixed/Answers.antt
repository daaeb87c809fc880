use Rattle.std.proofs.Common.{◌≡◌, ℕ, [], ◌∷◌, ◌∙◌, arith, bit_xor, slice_index}
use Rattle.aes_spec.specs.Field.{times}
use Rattle.aes_spec.specs.Aes.{mix_columns}
use Rattle.aes_lanes.specs.Rounds.{byte}
use Rattle.aes_lanes.proofs.Tower.{below_16}
use Rattle.aes_lanes.proofs.power_rounds.mixed.Goals as goal

pub returns : goal.returns
returns c j s h es r hr =
    below_16 (λ (r : ℕ). byte (c.mixed_column.result.0 ∷ c.mixed_column.result.1 ∷ c.mixed_column.result.2 ∷ c.mixed_column.result.3 ∷ c.mixed_column-2.result.0 ∷ c.mixed_column-2.result.1 ∷ c.mixed_column-2.result.2 ∷ c.mixed_column-2.result.3 ∷ c.mixed_column-3.result.0 ∷ c.mixed_column-3.result.1 ∷ c.mixed_column-3.result.2 ∷ c.mixed_column-3.result.3 ∷ c.mixed_column-4.result.0 ∷ c.mixed_column-4.result.1 ∷ c.mixed_column-4.result.2 ∷ c.mixed_column-4.result.3 ∷ []) j r ≡ slice_index (mix_columns s) r)
    (c.mixed_column.ensures.first j h ∙ (λ i. bit_xor (bit_xor (times 2 (es 0 (omega arith) i)) (times 3 (es 1 (omega arith) i))) (bit_xor (times 1 (es 2 (omega arith) i)) (times 1 (es 3 (omega arith) i)))))
    (c.mixed_column.ensures.second j h ∙ (λ i. bit_xor (bit_xor (times 1 (es 0 (omega arith) i)) (times 2 (es 1 (omega arith) i))) (bit_xor (times 3 (es 2 (omega arith) i)) (times 1 (es 3 (omega arith) i)))))
    (c.mixed_column.ensures.third j h ∙ (λ i. bit_xor (bit_xor (times 1 (es 0 (omega arith) i)) (times 1 (es 1 (omega arith) i))) (bit_xor (times 2 (es 2 (omega arith) i)) (times 3 (es 3 (omega arith) i)))))
    (c.mixed_column.ensures.fourth j h ∙ (λ i. bit_xor (bit_xor (times 3 (es 0 (omega arith) i)) (times 1 (es 1 (omega arith) i))) (bit_xor (times 1 (es 2 (omega arith) i)) (times 2 (es 3 (omega arith) i)))))
    (c.mixed_column-2.ensures.first j h ∙ (λ i. bit_xor (bit_xor (times 2 (es 4 (omega arith) i)) (times 3 (es 5 (omega arith) i))) (bit_xor (times 1 (es 6 (omega arith) i)) (times 1 (es 7 (omega arith) i)))))
    (c.mixed_column-2.ensures.second j h ∙ (λ i. bit_xor (bit_xor (times 1 (es 4 (omega arith) i)) (times 2 (es 5 (omega arith) i))) (bit_xor (times 3 (es 6 (omega arith) i)) (times 1 (es 7 (omega arith) i)))))
    (c.mixed_column-2.ensures.third j h ∙ (λ i. bit_xor (bit_xor (times 1 (es 4 (omega arith) i)) (times 1 (es 5 (omega arith) i))) (bit_xor (times 2 (es 6 (omega arith) i)) (times 3 (es 7 (omega arith) i)))))
    (c.mixed_column-2.ensures.fourth j h ∙ (λ i. bit_xor (bit_xor (times 3 (es 4 (omega arith) i)) (times 1 (es 5 (omega arith) i))) (bit_xor (times 1 (es 6 (omega arith) i)) (times 2 (es 7 (omega arith) i)))))
    (c.mixed_column-3.ensures.first j h ∙ (λ i. bit_xor (bit_xor (times 2 (es 8 (omega arith) i)) (times 3 (es 9 (omega arith) i))) (bit_xor (times 1 (es 10 (omega arith) i)) (times 1 (es 11 (omega arith) i)))))
    (c.mixed_column-3.ensures.second j h ∙ (λ i. bit_xor (bit_xor (times 1 (es 8 (omega arith) i)) (times 2 (es 9 (omega arith) i))) (bit_xor (times 3 (es 10 (omega arith) i)) (times 1 (es 11 (omega arith) i)))))
    (c.mixed_column-3.ensures.third j h ∙ (λ i. bit_xor (bit_xor (times 1 (es 8 (omega arith) i)) (times 1 (es 9 (omega arith) i))) (bit_xor (times 2 (es 10 (omega arith) i)) (times 3 (es 11 (omega arith) i)))))
    (c.mixed_column-3.ensures.fourth j h ∙ (λ i. bit_xor (bit_xor (times 3 (es 8 (omega arith) i)) (times 1 (es 9 (omega arith) i))) (bit_xor (times 1 (es 10 (omega arith) i)) (times 2 (es 11 (omega arith) i)))))
    (c.mixed_column-4.ensures.first j h ∙ (λ i. bit_xor (bit_xor (times 2 (es 12 (omega arith) i)) (times 3 (es 13 (omega arith) i))) (bit_xor (times 1 (es 14 (omega arith) i)) (times 1 (es 15 (omega arith) i)))))
    (c.mixed_column-4.ensures.second j h ∙ (λ i. bit_xor (bit_xor (times 1 (es 12 (omega arith) i)) (times 2 (es 13 (omega arith) i))) (bit_xor (times 3 (es 14 (omega arith) i)) (times 1 (es 15 (omega arith) i)))))
    (c.mixed_column-4.ensures.third j h ∙ (λ i. bit_xor (bit_xor (times 1 (es 12 (omega arith) i)) (times 1 (es 13 (omega arith) i))) (bit_xor (times 2 (es 14 (omega arith) i)) (times 3 (es 15 (omega arith) i)))))
    (c.mixed_column-4.ensures.fourth j h ∙ (λ i. bit_xor (bit_xor (times 3 (es 12 (omega arith) i)) (times 1 (es 13 (omega arith) i))) (bit_xor (times 1 (es 14 (omega arith) i)) (times 2 (es 15 (omega arith) i)))))
    r hr
