use Rattle.std.proofs.Common.{◌≡◌, ℕ, List, ap, ap₂, ◌∙◌, arith, bit_xor, slice_index}
use Rattle.aes_spec.specs.Aes.{add_round_key, shift_rows, sub_bytes}
use Rattle.aes_lanes.specs.Nibbles.{last_sub}
use Rattle.aes_lanes.proofs.Tower.{below_16, last_byte}
use Rattle.aes_lanes.proofs.single.last_single.Goals as goal

pub returns : goal.returns
returns c s k ts es ek r hr =
    below_16 (λ (r : ℕ). slice_index c.sum.result r ≡ slice_index (add_round_key k (shift_rows (sub_bytes s))) r)
    (c.sum.ensures 0 (omega arith) ∙ ap₂ bit_xor (c.last_sub.ensures 0 (omega arith) ∙ ap last_sub (ap (λ (v : List ℕ). slice_index v 0) c.shifted.ensures ∙ es 0 (omega arith))) (ek 0 (omega arith)) ∙ last_byte (slice_index s 0) (slice_index k 0) (ts.small 0))
    (c.sum.ensures 1 (omega arith) ∙ ap₂ bit_xor (c.last_sub.ensures 1 (omega arith) ∙ ap last_sub (ap (λ (v : List ℕ). slice_index v 1) c.shifted.ensures ∙ es 5 (omega arith))) (ek 1 (omega arith)) ∙ last_byte (slice_index s 5) (slice_index k 1) (ts.small 5))
    (c.sum.ensures 2 (omega arith) ∙ ap₂ bit_xor (c.last_sub.ensures 2 (omega arith) ∙ ap last_sub (ap (λ (v : List ℕ). slice_index v 2) c.shifted.ensures ∙ es 10 (omega arith))) (ek 2 (omega arith)) ∙ last_byte (slice_index s 10) (slice_index k 2) (ts.small 10))
    (c.sum.ensures 3 (omega arith) ∙ ap₂ bit_xor (c.last_sub.ensures 3 (omega arith) ∙ ap last_sub (ap (λ (v : List ℕ). slice_index v 3) c.shifted.ensures ∙ es 15 (omega arith))) (ek 3 (omega arith)) ∙ last_byte (slice_index s 15) (slice_index k 3) (ts.small 15))
    (c.sum.ensures 4 (omega arith) ∙ ap₂ bit_xor (c.last_sub.ensures 4 (omega arith) ∙ ap last_sub (ap (λ (v : List ℕ). slice_index v 4) c.shifted.ensures ∙ es 4 (omega arith))) (ek 4 (omega arith)) ∙ last_byte (slice_index s 4) (slice_index k 4) (ts.small 4))
    (c.sum.ensures 5 (omega arith) ∙ ap₂ bit_xor (c.last_sub.ensures 5 (omega arith) ∙ ap last_sub (ap (λ (v : List ℕ). slice_index v 5) c.shifted.ensures ∙ es 9 (omega arith))) (ek 5 (omega arith)) ∙ last_byte (slice_index s 9) (slice_index k 5) (ts.small 9))
    (c.sum.ensures 6 (omega arith) ∙ ap₂ bit_xor (c.last_sub.ensures 6 (omega arith) ∙ ap last_sub (ap (λ (v : List ℕ). slice_index v 6) c.shifted.ensures ∙ es 14 (omega arith))) (ek 6 (omega arith)) ∙ last_byte (slice_index s 14) (slice_index k 6) (ts.small 14))
    (c.sum.ensures 7 (omega arith) ∙ ap₂ bit_xor (c.last_sub.ensures 7 (omega arith) ∙ ap last_sub (ap (λ (v : List ℕ). slice_index v 7) c.shifted.ensures ∙ es 3 (omega arith))) (ek 7 (omega arith)) ∙ last_byte (slice_index s 3) (slice_index k 7) (ts.small 3))
    (c.sum.ensures 8 (omega arith) ∙ ap₂ bit_xor (c.last_sub.ensures 8 (omega arith) ∙ ap last_sub (ap (λ (v : List ℕ). slice_index v 8) c.shifted.ensures ∙ es 8 (omega arith))) (ek 8 (omega arith)) ∙ last_byte (slice_index s 8) (slice_index k 8) (ts.small 8))
    (c.sum.ensures 9 (omega arith) ∙ ap₂ bit_xor (c.last_sub.ensures 9 (omega arith) ∙ ap last_sub (ap (λ (v : List ℕ). slice_index v 9) c.shifted.ensures ∙ es 13 (omega arith))) (ek 9 (omega arith)) ∙ last_byte (slice_index s 13) (slice_index k 9) (ts.small 13))
    (c.sum.ensures 10 (omega arith) ∙ ap₂ bit_xor (c.last_sub.ensures 10 (omega arith) ∙ ap last_sub (ap (λ (v : List ℕ). slice_index v 10) c.shifted.ensures ∙ es 2 (omega arith))) (ek 10 (omega arith)) ∙ last_byte (slice_index s 2) (slice_index k 10) (ts.small 2))
    (c.sum.ensures 11 (omega arith) ∙ ap₂ bit_xor (c.last_sub.ensures 11 (omega arith) ∙ ap last_sub (ap (λ (v : List ℕ). slice_index v 11) c.shifted.ensures ∙ es 7 (omega arith))) (ek 11 (omega arith)) ∙ last_byte (slice_index s 7) (slice_index k 11) (ts.small 7))
    (c.sum.ensures 12 (omega arith) ∙ ap₂ bit_xor (c.last_sub.ensures 12 (omega arith) ∙ ap last_sub (ap (λ (v : List ℕ). slice_index v 12) c.shifted.ensures ∙ es 12 (omega arith))) (ek 12 (omega arith)) ∙ last_byte (slice_index s 12) (slice_index k 12) (ts.small 12))
    (c.sum.ensures 13 (omega arith) ∙ ap₂ bit_xor (c.last_sub.ensures 13 (omega arith) ∙ ap last_sub (ap (λ (v : List ℕ). slice_index v 13) c.shifted.ensures ∙ es 1 (omega arith))) (ek 13 (omega arith)) ∙ last_byte (slice_index s 1) (slice_index k 13) (ts.small 1))
    (c.sum.ensures 14 (omega arith) ∙ ap₂ bit_xor (c.last_sub.ensures 14 (omega arith) ∙ ap last_sub (ap (λ (v : List ℕ). slice_index v 14) c.shifted.ensures ∙ es 6 (omega arith))) (ek 14 (omega arith)) ∙ last_byte (slice_index s 6) (slice_index k 14) (ts.small 6))
    (c.sum.ensures 15 (omega arith) ∙ ap₂ bit_xor (c.last_sub.ensures 15 (omega arith) ∙ ap last_sub (ap (λ (v : List ℕ). slice_index v 15) c.shifted.ensures ∙ es 11 (omega arith))) (ek 15 (omega arith)) ∙ last_byte (slice_index s 11) (slice_index k 15) (ts.small 11))
    r hr
