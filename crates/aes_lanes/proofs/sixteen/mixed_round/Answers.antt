use Rattle.std.proofs.Common.{◌≡◌, ℕ, [], ◌∷◌, ap₂, ◌∙◌, arith, bit_xor, slice_index}
use Rattle.aes_spec.specs.Aes.{add_round_key, mix_columns, shift_rows, sub_bytes}
use Rattle.aes_lanes.specs.Nibbles.{to_tower}
use Rattle.aes_lanes.specs.Rounds.{gap, byte}
use Rattle.aes_lanes.proofs.Tower.{below_16, mixed_0, mixed_1, mixed_2, mixed_3}
use Rattle.aes_lanes.proofs.sixteen.mixed_round.Goals as goal

pub returns : goal.returns
returns c j s k h ts tk es ek r hr =
    let p = λ (n : ℕ). slice_index s n in
    below_16 (λ (r : ℕ). byte (c.sum.result ∷ c.sum-2.result ∷ c.sum-3.result ∷ c.sum-4.result ∷ c.sum-5.result ∷ c.sum-6.result ∷ c.sum-7.result ∷ c.sum-8.result ∷ c.sum-9.result ∷ c.sum-10.result ∷ c.sum-11.result ∷ c.sum-12.result ∷ c.sum-13.result ∷ c.sum-14.result ∷ c.sum-15.result ∷ c.sum-16.result ∷ []) j r ≡ to_tower (slice_index (add_round_key k (mix_columns (shift_rows (sub_bytes s)))) r))
    (c.sum.ensures j h
    ∙ ap₂ bit_xor (c.column.ensures.first j h ∙ (λ i. bit_xor (bit_xor (gap (es 5 (omega arith) i) (es 10 (omega arith) i)) (gap (es 10 (omega arith) i) (es 15 (omega arith) i))) (gap (es 15 (omega arith) i) (es 0 (omega arith) i)))) (ek 0 (omega arith))
    ∙ mixed_0 (p 0) (p 5) (p 10) (p 15) (slice_index k 0) (ts.small 0) (ts.small 5) (ts.small 10) (ts.small 15) (tk.small 0))
    (c.sum-2.ensures j h
    ∙ ap₂ bit_xor (c.column.ensures.second j h ∙ (λ i. bit_xor (bit_xor (gap (es 15 (omega arith) i) (es 0 (omega arith) i)) (gap (es 0 (omega arith) i) (es 5 (omega arith) i))) (gap (es 10 (omega arith) i) (es 15 (omega arith) i)))) (ek 1 (omega arith))
    ∙ mixed_1 (p 0) (p 5) (p 10) (p 15) (slice_index k 1) (ts.small 0) (ts.small 5) (ts.small 10) (ts.small 15) (tk.small 1))
    (c.sum-3.ensures j h
    ∙ ap₂ bit_xor (c.column.ensures.third j h ∙ (λ i. bit_xor (bit_xor (gap (es 15 (omega arith) i) (es 0 (omega arith) i)) (gap (es 0 (omega arith) i) (es 5 (omega arith) i))) (gap (es 5 (omega arith) i) (es 10 (omega arith) i)))) (ek 2 (omega arith))
    ∙ mixed_2 (p 0) (p 5) (p 10) (p 15) (slice_index k 2) (ts.small 0) (ts.small 5) (ts.small 10) (ts.small 15) (tk.small 2))
    (c.sum-4.ensures j h
    ∙ ap₂ bit_xor (c.column.ensures.fourth j h ∙ (λ i. bit_xor (bit_xor (gap (es 5 (omega arith) i) (es 10 (omega arith) i)) (gap (es 10 (omega arith) i) (es 15 (omega arith) i))) (gap (es 0 (omega arith) i) (es 5 (omega arith) i)))) (ek 3 (omega arith))
    ∙ mixed_3 (p 0) (p 5) (p 10) (p 15) (slice_index k 3) (ts.small 0) (ts.small 5) (ts.small 10) (ts.small 15) (tk.small 3))
    (c.sum-5.ensures j h
    ∙ ap₂ bit_xor (c.column-2.ensures.first j h ∙ (λ i. bit_xor (bit_xor (gap (es 9 (omega arith) i) (es 14 (omega arith) i)) (gap (es 14 (omega arith) i) (es 3 (omega arith) i))) (gap (es 3 (omega arith) i) (es 4 (omega arith) i)))) (ek 4 (omega arith))
    ∙ mixed_0 (p 4) (p 9) (p 14) (p 3) (slice_index k 4) (ts.small 4) (ts.small 9) (ts.small 14) (ts.small 3) (tk.small 4))
    (c.sum-6.ensures j h
    ∙ ap₂ bit_xor (c.column-2.ensures.second j h ∙ (λ i. bit_xor (bit_xor (gap (es 3 (omega arith) i) (es 4 (omega arith) i)) (gap (es 4 (omega arith) i) (es 9 (omega arith) i))) (gap (es 14 (omega arith) i) (es 3 (omega arith) i)))) (ek 5 (omega arith))
    ∙ mixed_1 (p 4) (p 9) (p 14) (p 3) (slice_index k 5) (ts.small 4) (ts.small 9) (ts.small 14) (ts.small 3) (tk.small 5))
    (c.sum-7.ensures j h
    ∙ ap₂ bit_xor (c.column-2.ensures.third j h ∙ (λ i. bit_xor (bit_xor (gap (es 3 (omega arith) i) (es 4 (omega arith) i)) (gap (es 4 (omega arith) i) (es 9 (omega arith) i))) (gap (es 9 (omega arith) i) (es 14 (omega arith) i)))) (ek 6 (omega arith))
    ∙ mixed_2 (p 4) (p 9) (p 14) (p 3) (slice_index k 6) (ts.small 4) (ts.small 9) (ts.small 14) (ts.small 3) (tk.small 6))
    (c.sum-8.ensures j h
    ∙ ap₂ bit_xor (c.column-2.ensures.fourth j h ∙ (λ i. bit_xor (bit_xor (gap (es 9 (omega arith) i) (es 14 (omega arith) i)) (gap (es 14 (omega arith) i) (es 3 (omega arith) i))) (gap (es 4 (omega arith) i) (es 9 (omega arith) i)))) (ek 7 (omega arith))
    ∙ mixed_3 (p 4) (p 9) (p 14) (p 3) (slice_index k 7) (ts.small 4) (ts.small 9) (ts.small 14) (ts.small 3) (tk.small 7))
    (c.sum-9.ensures j h
    ∙ ap₂ bit_xor (c.column-3.ensures.first j h ∙ (λ i. bit_xor (bit_xor (gap (es 13 (omega arith) i) (es 2 (omega arith) i)) (gap (es 2 (omega arith) i) (es 7 (omega arith) i))) (gap (es 7 (omega arith) i) (es 8 (omega arith) i)))) (ek 8 (omega arith))
    ∙ mixed_0 (p 8) (p 13) (p 2) (p 7) (slice_index k 8) (ts.small 8) (ts.small 13) (ts.small 2) (ts.small 7) (tk.small 8))
    (c.sum-10.ensures j h
    ∙ ap₂ bit_xor (c.column-3.ensures.second j h ∙ (λ i. bit_xor (bit_xor (gap (es 7 (omega arith) i) (es 8 (omega arith) i)) (gap (es 8 (omega arith) i) (es 13 (omega arith) i))) (gap (es 2 (omega arith) i) (es 7 (omega arith) i)))) (ek 9 (omega arith))
    ∙ mixed_1 (p 8) (p 13) (p 2) (p 7) (slice_index k 9) (ts.small 8) (ts.small 13) (ts.small 2) (ts.small 7) (tk.small 9))
    (c.sum-11.ensures j h
    ∙ ap₂ bit_xor (c.column-3.ensures.third j h ∙ (λ i. bit_xor (bit_xor (gap (es 7 (omega arith) i) (es 8 (omega arith) i)) (gap (es 8 (omega arith) i) (es 13 (omega arith) i))) (gap (es 13 (omega arith) i) (es 2 (omega arith) i)))) (ek 10 (omega arith))
    ∙ mixed_2 (p 8) (p 13) (p 2) (p 7) (slice_index k 10) (ts.small 8) (ts.small 13) (ts.small 2) (ts.small 7) (tk.small 10))
    (c.sum-12.ensures j h
    ∙ ap₂ bit_xor (c.column-3.ensures.fourth j h ∙ (λ i. bit_xor (bit_xor (gap (es 13 (omega arith) i) (es 2 (omega arith) i)) (gap (es 2 (omega arith) i) (es 7 (omega arith) i))) (gap (es 8 (omega arith) i) (es 13 (omega arith) i)))) (ek 11 (omega arith))
    ∙ mixed_3 (p 8) (p 13) (p 2) (p 7) (slice_index k 11) (ts.small 8) (ts.small 13) (ts.small 2) (ts.small 7) (tk.small 11))
    (c.sum-13.ensures j h
    ∙ ap₂ bit_xor (c.column-4.ensures.first j h ∙ (λ i. bit_xor (bit_xor (gap (es 1 (omega arith) i) (es 6 (omega arith) i)) (gap (es 6 (omega arith) i) (es 11 (omega arith) i))) (gap (es 11 (omega arith) i) (es 12 (omega arith) i)))) (ek 12 (omega arith))
    ∙ mixed_0 (p 12) (p 1) (p 6) (p 11) (slice_index k 12) (ts.small 12) (ts.small 1) (ts.small 6) (ts.small 11) (tk.small 12))
    (c.sum-14.ensures j h
    ∙ ap₂ bit_xor (c.column-4.ensures.second j h ∙ (λ i. bit_xor (bit_xor (gap (es 11 (omega arith) i) (es 12 (omega arith) i)) (gap (es 12 (omega arith) i) (es 1 (omega arith) i))) (gap (es 6 (omega arith) i) (es 11 (omega arith) i)))) (ek 13 (omega arith))
    ∙ mixed_1 (p 12) (p 1) (p 6) (p 11) (slice_index k 13) (ts.small 12) (ts.small 1) (ts.small 6) (ts.small 11) (tk.small 13))
    (c.sum-15.ensures j h
    ∙ ap₂ bit_xor (c.column-4.ensures.third j h ∙ (λ i. bit_xor (bit_xor (gap (es 11 (omega arith) i) (es 12 (omega arith) i)) (gap (es 12 (omega arith) i) (es 1 (omega arith) i))) (gap (es 1 (omega arith) i) (es 6 (omega arith) i)))) (ek 14 (omega arith))
    ∙ mixed_2 (p 12) (p 1) (p 6) (p 11) (slice_index k 14) (ts.small 12) (ts.small 1) (ts.small 6) (ts.small 11) (tk.small 14))
    (c.sum-16.ensures j h
    ∙ ap₂ bit_xor (c.column-4.ensures.fourth j h ∙ (λ i. bit_xor (bit_xor (gap (es 1 (omega arith) i) (es 6 (omega arith) i)) (gap (es 6 (omega arith) i) (es 11 (omega arith) i))) (gap (es 12 (omega arith) i) (es 1 (omega arith) i)))) (ek 15 (omega arith))
    ∙ mixed_3 (p 12) (p 1) (p 6) (p 11) (slice_index k 15) (ts.small 12) (ts.small 1) (ts.small 6) (ts.small 11) (tk.small 15))
    r hr
