use Rattle.std.proofs.Common.{◌≡◌, ℕ, [], ◌∷◌, ap, ap₂, ◌∙◌, arith, bit_xor, slice_index}
use Rattle.aes_spec.specs.Aes.{add_round_key, shift_rows, sub_bytes}
use Rattle.aes_lanes.specs.Nibbles.{last_sub}
use Rattle.aes_lanes.specs.Rounds.{byte}
use Rattle.aes_lanes.proofs.Tower.{below_16, last_byte}
use Rattle.aes_lanes.proofs.sixteen.last_round.Goals as goal

pub returns : goal.returns
returns c j s k h ts es ek r hr =
    below_16 (λ (r : ℕ). byte (c.sum.result ∷ c.sum-2.result ∷ c.sum-3.result ∷ c.sum-4.result ∷ c.sum-5.result ∷ c.sum-6.result ∷ c.sum-7.result ∷ c.sum-8.result ∷ c.sum-9.result ∷ c.sum-10.result ∷ c.sum-11.result ∷ c.sum-12.result ∷ c.sum-13.result ∷ c.sum-14.result ∷ c.sum-15.result ∷ c.sum-16.result ∷ []) j r ≡ slice_index (add_round_key k (shift_rows (sub_bytes s))) r)
    (c.sum.ensures j h ∙ ap₂ bit_xor (c.last_sub.ensures j h ∙ ap last_sub (es 0 (omega arith))) (ek 0 (omega arith)) ∙ last_byte (slice_index s 0) (slice_index k 0) (ts.small 0))
    (c.sum-2.ensures j h ∙ ap₂ bit_xor (c.last_sub-2.ensures j h ∙ ap last_sub (es 5 (omega arith))) (ek 1 (omega arith)) ∙ last_byte (slice_index s 5) (slice_index k 1) (ts.small 5))
    (c.sum-3.ensures j h ∙ ap₂ bit_xor (c.last_sub-3.ensures j h ∙ ap last_sub (es 10 (omega arith))) (ek 2 (omega arith)) ∙ last_byte (slice_index s 10) (slice_index k 2) (ts.small 10))
    (c.sum-4.ensures j h ∙ ap₂ bit_xor (c.last_sub-4.ensures j h ∙ ap last_sub (es 15 (omega arith))) (ek 3 (omega arith)) ∙ last_byte (slice_index s 15) (slice_index k 3) (ts.small 15))
    (c.sum-5.ensures j h ∙ ap₂ bit_xor (c.last_sub-5.ensures j h ∙ ap last_sub (es 4 (omega arith))) (ek 4 (omega arith)) ∙ last_byte (slice_index s 4) (slice_index k 4) (ts.small 4))
    (c.sum-6.ensures j h ∙ ap₂ bit_xor (c.last_sub-6.ensures j h ∙ ap last_sub (es 9 (omega arith))) (ek 5 (omega arith)) ∙ last_byte (slice_index s 9) (slice_index k 5) (ts.small 9))
    (c.sum-7.ensures j h ∙ ap₂ bit_xor (c.last_sub-7.ensures j h ∙ ap last_sub (es 14 (omega arith))) (ek 6 (omega arith)) ∙ last_byte (slice_index s 14) (slice_index k 6) (ts.small 14))
    (c.sum-8.ensures j h ∙ ap₂ bit_xor (c.last_sub-8.ensures j h ∙ ap last_sub (es 3 (omega arith))) (ek 7 (omega arith)) ∙ last_byte (slice_index s 3) (slice_index k 7) (ts.small 3))
    (c.sum-9.ensures j h ∙ ap₂ bit_xor (c.last_sub-9.ensures j h ∙ ap last_sub (es 8 (omega arith))) (ek 8 (omega arith)) ∙ last_byte (slice_index s 8) (slice_index k 8) (ts.small 8))
    (c.sum-10.ensures j h ∙ ap₂ bit_xor (c.last_sub-10.ensures j h ∙ ap last_sub (es 13 (omega arith))) (ek 9 (omega arith)) ∙ last_byte (slice_index s 13) (slice_index k 9) (ts.small 13))
    (c.sum-11.ensures j h ∙ ap₂ bit_xor (c.last_sub-11.ensures j h ∙ ap last_sub (es 2 (omega arith))) (ek 10 (omega arith)) ∙ last_byte (slice_index s 2) (slice_index k 10) (ts.small 2))
    (c.sum-12.ensures j h ∙ ap₂ bit_xor (c.last_sub-12.ensures j h ∙ ap last_sub (es 7 (omega arith))) (ek 11 (omega arith)) ∙ last_byte (slice_index s 7) (slice_index k 11) (ts.small 7))
    (c.sum-13.ensures j h ∙ ap₂ bit_xor (c.last_sub-13.ensures j h ∙ ap last_sub (es 12 (omega arith))) (ek 12 (omega arith)) ∙ last_byte (slice_index s 12) (slice_index k 12) (ts.small 12))
    (c.sum-14.ensures j h ∙ ap₂ bit_xor (c.last_sub-14.ensures j h ∙ ap last_sub (es 1 (omega arith))) (ek 13 (omega arith)) ∙ last_byte (slice_index s 1) (slice_index k 13) (ts.small 1))
    (c.sum-15.ensures j h ∙ ap₂ bit_xor (c.last_sub-15.ensures j h ∙ ap last_sub (es 6 (omega arith))) (ek 14 (omega arith)) ∙ last_byte (slice_index s 6) (slice_index k 14) (ts.small 6))
    (c.sum-16.ensures j h ∙ ap₂ bit_xor (c.last_sub-16.ensures j h ∙ ap last_sub (es 11 (omega arith))) (ek 15 (omega arith)) ∙ last_byte (slice_index s 11) (slice_index k 15) (ts.small 11))
    r hr
