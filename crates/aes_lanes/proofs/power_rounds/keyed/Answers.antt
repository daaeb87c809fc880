use Rattle.std.proofs.Common.{◌≡◌, ℕ, [], ◌∷◌, ap₂, ◌∙◌, arith, bit_xor, slice_index}
use Rattle.aes_spec.specs.Aes.{add_round_key}
use Rattle.aes_lanes.specs.Rounds.{byte}
use Rattle.aes_lanes.proofs.Tower.{below_16}
use Rattle.aes_lanes.proofs.power_rounds.keyed.Goals as goal

pub returns : goal.returns
returns c j s k h es ek r hr =
    below_16 (λ (r : ℕ). byte (c.sum.result ∷ c.sum-2.result ∷ c.sum-3.result ∷ c.sum-4.result ∷ c.sum-5.result ∷ c.sum-6.result ∷ c.sum-7.result ∷ c.sum-8.result ∷ c.sum-9.result ∷ c.sum-10.result ∷ c.sum-11.result ∷ c.sum-12.result ∷ c.sum-13.result ∷ c.sum-14.result ∷ c.sum-15.result ∷ c.sum-16.result ∷ []) j r ≡ slice_index (add_round_key k s) r)
    (c.sum.ensures j h ∙ ap₂ bit_xor (es 0 (omega arith)) (ek 0 (omega arith)))
    (c.sum-2.ensures j h ∙ ap₂ bit_xor (es 1 (omega arith)) (ek 1 (omega arith)))
    (c.sum-3.ensures j h ∙ ap₂ bit_xor (es 2 (omega arith)) (ek 2 (omega arith)))
    (c.sum-4.ensures j h ∙ ap₂ bit_xor (es 3 (omega arith)) (ek 3 (omega arith)))
    (c.sum-5.ensures j h ∙ ap₂ bit_xor (es 4 (omega arith)) (ek 4 (omega arith)))
    (c.sum-6.ensures j h ∙ ap₂ bit_xor (es 5 (omega arith)) (ek 5 (omega arith)))
    (c.sum-7.ensures j h ∙ ap₂ bit_xor (es 6 (omega arith)) (ek 6 (omega arith)))
    (c.sum-8.ensures j h ∙ ap₂ bit_xor (es 7 (omega arith)) (ek 7 (omega arith)))
    (c.sum-9.ensures j h ∙ ap₂ bit_xor (es 8 (omega arith)) (ek 8 (omega arith)))
    (c.sum-10.ensures j h ∙ ap₂ bit_xor (es 9 (omega arith)) (ek 9 (omega arith)))
    (c.sum-11.ensures j h ∙ ap₂ bit_xor (es 10 (omega arith)) (ek 10 (omega arith)))
    (c.sum-12.ensures j h ∙ ap₂ bit_xor (es 11 (omega arith)) (ek 11 (omega arith)))
    (c.sum-13.ensures j h ∙ ap₂ bit_xor (es 12 (omega arith)) (ek 12 (omega arith)))
    (c.sum-14.ensures j h ∙ ap₂ bit_xor (es 13 (omega arith)) (ek 13 (omega arith)))
    (c.sum-15.ensures j h ∙ ap₂ bit_xor (es 14 (omega arith)) (ek 14 (omega arith)))
    (c.sum-16.ensures j h ∙ ap₂ bit_xor (es 15 (omega arith)) (ek 15 (omega arith)))
    r hr
