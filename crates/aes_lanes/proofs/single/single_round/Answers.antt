use Rattle.std.proofs.Common.{◌≡◌, ℕ, List, [], ◌∷◌, refl, ap, ap₂, ◌∙◌, arith, bit_xor, slice_index}
use Rattle.aes_spec.specs.Aes.{add_round_key, mix_columns, shift_rows, sub_bytes}
use Rattle.aes_lanes.specs.Nibbles.{to_tower, twice_sub, thrice_sub}
use Rattle.aes_lanes.specs.Rounds.{gap}
use Rattle.aes_lanes.proofs.Sums.{one, plus, same_sum}
use Rattle.aes_lanes.proofs.Tower.{below_16, mixed_0, mixed_1, mixed_2, mixed_3}
use Rattle.aes_lanes.proofs.single.single_round.Goals as goal

order_1 : (x y z : ℕ) → bit_xor (bit_xor x y) z ≡ bit_xor (bit_xor y z) x
order_1 x y z = same_sum (x ∷ y ∷ z ∷ []) (plus (plus (one 0) (one 1)) (one 2)) (plus (plus (one 1) (one 2)) (one 0)) refl

pub returns : goal.returns
unfolding gap
returns c s k ts tk es ek r hr =
    let p = λ (n : ℕ). slice_index s n in
    let d0 : slice_index c.sum-d.result 0 ≡ gap (to_tower (p 0)) (to_tower (p 5)) = (c.sum-d.ensures 0 (omega arith) ∙ ap₂ bit_xor (c.multiples.ensures.thrice 0 (omega arith) ∙ ap thrice_sub (ap (λ (v : List ℕ). slice_index v 0) c.shifted.ensures ∙ es 0 (omega arith))) (ap (λ (v : List ℕ). slice_index v 0) c.turned_1.ensures ∙ c.multiples.ensures.twice 1 (omega arith) ∙ ap twice_sub (ap (λ (v : List ℕ). slice_index v 1) c.shifted.ensures ∙ es 5 (omega arith)))) in
    let d1 : slice_index c.sum-d.result 1 ≡ gap (to_tower (p 5)) (to_tower (p 10)) = (c.sum-d.ensures 1 (omega arith) ∙ ap₂ bit_xor (c.multiples.ensures.thrice 1 (omega arith) ∙ ap thrice_sub (ap (λ (v : List ℕ). slice_index v 1) c.shifted.ensures ∙ es 5 (omega arith))) (ap (λ (v : List ℕ). slice_index v 1) c.turned_1.ensures ∙ c.multiples.ensures.twice 2 (omega arith) ∙ ap twice_sub (ap (λ (v : List ℕ). slice_index v 2) c.shifted.ensures ∙ es 10 (omega arith)))) in
    let d2 : slice_index c.sum-d.result 2 ≡ gap (to_tower (p 10)) (to_tower (p 15)) = (c.sum-d.ensures 2 (omega arith) ∙ ap₂ bit_xor (c.multiples.ensures.thrice 2 (omega arith) ∙ ap thrice_sub (ap (λ (v : List ℕ). slice_index v 2) c.shifted.ensures ∙ es 10 (omega arith))) (ap (λ (v : List ℕ). slice_index v 2) c.turned_1.ensures ∙ c.multiples.ensures.twice 3 (omega arith) ∙ ap twice_sub (ap (λ (v : List ℕ). slice_index v 3) c.shifted.ensures ∙ es 15 (omega arith)))) in
    let d3 : slice_index c.sum-d.result 3 ≡ gap (to_tower (p 15)) (to_tower (p 0)) = (c.sum-d.ensures 3 (omega arith) ∙ ap₂ bit_xor (c.multiples.ensures.thrice 3 (omega arith) ∙ ap thrice_sub (ap (λ (v : List ℕ). slice_index v 3) c.shifted.ensures ∙ es 15 (omega arith))) (ap (λ (v : List ℕ). slice_index v 3) c.turned_1.ensures ∙ c.multiples.ensures.twice 0 (omega arith) ∙ ap twice_sub (ap (λ (v : List ℕ). slice_index v 0) c.shifted.ensures ∙ es 0 (omega arith)))) in
    let d4 : slice_index c.sum-d.result 4 ≡ gap (to_tower (p 4)) (to_tower (p 9)) = (c.sum-d.ensures 4 (omega arith) ∙ ap₂ bit_xor (c.multiples.ensures.thrice 4 (omega arith) ∙ ap thrice_sub (ap (λ (v : List ℕ). slice_index v 4) c.shifted.ensures ∙ es 4 (omega arith))) (ap (λ (v : List ℕ). slice_index v 4) c.turned_1.ensures ∙ c.multiples.ensures.twice 5 (omega arith) ∙ ap twice_sub (ap (λ (v : List ℕ). slice_index v 5) c.shifted.ensures ∙ es 9 (omega arith)))) in
    let d5 : slice_index c.sum-d.result 5 ≡ gap (to_tower (p 9)) (to_tower (p 14)) = (c.sum-d.ensures 5 (omega arith) ∙ ap₂ bit_xor (c.multiples.ensures.thrice 5 (omega arith) ∙ ap thrice_sub (ap (λ (v : List ℕ). slice_index v 5) c.shifted.ensures ∙ es 9 (omega arith))) (ap (λ (v : List ℕ). slice_index v 5) c.turned_1.ensures ∙ c.multiples.ensures.twice 6 (omega arith) ∙ ap twice_sub (ap (λ (v : List ℕ). slice_index v 6) c.shifted.ensures ∙ es 14 (omega arith)))) in
    let d6 : slice_index c.sum-d.result 6 ≡ gap (to_tower (p 14)) (to_tower (p 3)) = (c.sum-d.ensures 6 (omega arith) ∙ ap₂ bit_xor (c.multiples.ensures.thrice 6 (omega arith) ∙ ap thrice_sub (ap (λ (v : List ℕ). slice_index v 6) c.shifted.ensures ∙ es 14 (omega arith))) (ap (λ (v : List ℕ). slice_index v 6) c.turned_1.ensures ∙ c.multiples.ensures.twice 7 (omega arith) ∙ ap twice_sub (ap (λ (v : List ℕ). slice_index v 7) c.shifted.ensures ∙ es 3 (omega arith)))) in
    let d7 : slice_index c.sum-d.result 7 ≡ gap (to_tower (p 3)) (to_tower (p 4)) = (c.sum-d.ensures 7 (omega arith) ∙ ap₂ bit_xor (c.multiples.ensures.thrice 7 (omega arith) ∙ ap thrice_sub (ap (λ (v : List ℕ). slice_index v 7) c.shifted.ensures ∙ es 3 (omega arith))) (ap (λ (v : List ℕ). slice_index v 7) c.turned_1.ensures ∙ c.multiples.ensures.twice 4 (omega arith) ∙ ap twice_sub (ap (λ (v : List ℕ). slice_index v 4) c.shifted.ensures ∙ es 4 (omega arith)))) in
    let d8 : slice_index c.sum-d.result 8 ≡ gap (to_tower (p 8)) (to_tower (p 13)) = (c.sum-d.ensures 8 (omega arith) ∙ ap₂ bit_xor (c.multiples.ensures.thrice 8 (omega arith) ∙ ap thrice_sub (ap (λ (v : List ℕ). slice_index v 8) c.shifted.ensures ∙ es 8 (omega arith))) (ap (λ (v : List ℕ). slice_index v 8) c.turned_1.ensures ∙ c.multiples.ensures.twice 9 (omega arith) ∙ ap twice_sub (ap (λ (v : List ℕ). slice_index v 9) c.shifted.ensures ∙ es 13 (omega arith)))) in
    let d9 : slice_index c.sum-d.result 9 ≡ gap (to_tower (p 13)) (to_tower (p 2)) = (c.sum-d.ensures 9 (omega arith) ∙ ap₂ bit_xor (c.multiples.ensures.thrice 9 (omega arith) ∙ ap thrice_sub (ap (λ (v : List ℕ). slice_index v 9) c.shifted.ensures ∙ es 13 (omega arith))) (ap (λ (v : List ℕ). slice_index v 9) c.turned_1.ensures ∙ c.multiples.ensures.twice 10 (omega arith) ∙ ap twice_sub (ap (λ (v : List ℕ). slice_index v 10) c.shifted.ensures ∙ es 2 (omega arith)))) in
    let d10 : slice_index c.sum-d.result 10 ≡ gap (to_tower (p 2)) (to_tower (p 7)) = (c.sum-d.ensures 10 (omega arith) ∙ ap₂ bit_xor (c.multiples.ensures.thrice 10 (omega arith) ∙ ap thrice_sub (ap (λ (v : List ℕ). slice_index v 10) c.shifted.ensures ∙ es 2 (omega arith))) (ap (λ (v : List ℕ). slice_index v 10) c.turned_1.ensures ∙ c.multiples.ensures.twice 11 (omega arith) ∙ ap twice_sub (ap (λ (v : List ℕ). slice_index v 11) c.shifted.ensures ∙ es 7 (omega arith)))) in
    let d11 : slice_index c.sum-d.result 11 ≡ gap (to_tower (p 7)) (to_tower (p 8)) = (c.sum-d.ensures 11 (omega arith) ∙ ap₂ bit_xor (c.multiples.ensures.thrice 11 (omega arith) ∙ ap thrice_sub (ap (λ (v : List ℕ). slice_index v 11) c.shifted.ensures ∙ es 7 (omega arith))) (ap (λ (v : List ℕ). slice_index v 11) c.turned_1.ensures ∙ c.multiples.ensures.twice 8 (omega arith) ∙ ap twice_sub (ap (λ (v : List ℕ). slice_index v 8) c.shifted.ensures ∙ es 8 (omega arith)))) in
    let d12 : slice_index c.sum-d.result 12 ≡ gap (to_tower (p 12)) (to_tower (p 1)) = (c.sum-d.ensures 12 (omega arith) ∙ ap₂ bit_xor (c.multiples.ensures.thrice 12 (omega arith) ∙ ap thrice_sub (ap (λ (v : List ℕ). slice_index v 12) c.shifted.ensures ∙ es 12 (omega arith))) (ap (λ (v : List ℕ). slice_index v 12) c.turned_1.ensures ∙ c.multiples.ensures.twice 13 (omega arith) ∙ ap twice_sub (ap (λ (v : List ℕ). slice_index v 13) c.shifted.ensures ∙ es 1 (omega arith)))) in
    let d13 : slice_index c.sum-d.result 13 ≡ gap (to_tower (p 1)) (to_tower (p 6)) = (c.sum-d.ensures 13 (omega arith) ∙ ap₂ bit_xor (c.multiples.ensures.thrice 13 (omega arith) ∙ ap thrice_sub (ap (λ (v : List ℕ). slice_index v 13) c.shifted.ensures ∙ es 1 (omega arith))) (ap (λ (v : List ℕ). slice_index v 13) c.turned_1.ensures ∙ c.multiples.ensures.twice 14 (omega arith) ∙ ap twice_sub (ap (λ (v : List ℕ). slice_index v 14) c.shifted.ensures ∙ es 6 (omega arith)))) in
    let d14 : slice_index c.sum-d.result 14 ≡ gap (to_tower (p 6)) (to_tower (p 11)) = (c.sum-d.ensures 14 (omega arith) ∙ ap₂ bit_xor (c.multiples.ensures.thrice 14 (omega arith) ∙ ap thrice_sub (ap (λ (v : List ℕ). slice_index v 14) c.shifted.ensures ∙ es 6 (omega arith))) (ap (λ (v : List ℕ). slice_index v 14) c.turned_1.ensures ∙ c.multiples.ensures.twice 15 (omega arith) ∙ ap twice_sub (ap (λ (v : List ℕ). slice_index v 15) c.shifted.ensures ∙ es 11 (omega arith)))) in
    let d15 : slice_index c.sum-d.result 15 ≡ gap (to_tower (p 11)) (to_tower (p 12)) = (c.sum-d.ensures 15 (omega arith) ∙ ap₂ bit_xor (c.multiples.ensures.thrice 15 (omega arith) ∙ ap thrice_sub (ap (λ (v : List ℕ). slice_index v 15) c.shifted.ensures ∙ es 11 (omega arith))) (ap (λ (v : List ℕ). slice_index v 15) c.turned_1.ensures ∙ c.multiples.ensures.twice 12 (omega arith) ∙ ap twice_sub (ap (λ (v : List ℕ). slice_index v 12) c.shifted.ensures ∙ es 12 (omega arith)))) in
    below_16 (λ (r : ℕ). slice_index c.sum-3.result r ≡ to_tower (slice_index (add_round_key k (mix_columns (shift_rows (sub_bytes s)))) r))
    (c.sum-3.ensures 0 (omega arith) ∙ ap₂ bit_xor (c.sum-2.ensures 0 (omega arith) ∙ ap₂ bit_xor (c.sum.ensures 0 (omega arith) ∙ ap₂ bit_xor (ap (λ (v : List ℕ). slice_index v 0) c.turned_1-2.ensures ∙ d1) (ap (λ (v : List ℕ). slice_index v 0) c.turned_2.ensures ∙ d2)) (ap (λ (v : List ℕ). slice_index v 0) c.turned_3.ensures ∙ d3)) (ek 0 (omega arith)) ∙ mixed_0 (p 0) (p 5) (p 10) (p 15) (slice_index k 0) (ts.small 0) (ts.small 5) (ts.small 10) (ts.small 15) (tk.small 0))
    (c.sum-3.ensures 1 (omega arith) ∙ ap₂ bit_xor (c.sum-2.ensures 1 (omega arith) ∙ ap₂ bit_xor (c.sum.ensures 1 (omega arith) ∙ ap₂ bit_xor (ap (λ (v : List ℕ). slice_index v 1) c.turned_1-2.ensures ∙ d2) (ap (λ (v : List ℕ). slice_index v 1) c.turned_2.ensures ∙ d3)) (ap (λ (v : List ℕ). slice_index v 1) c.turned_3.ensures ∙ d0) ∙ order_1 (gap (to_tower (p 10)) (to_tower (p 15))) (gap (to_tower (p 15)) (to_tower (p 0))) (gap (to_tower (p 0)) (to_tower (p 5)))) (ek 1 (omega arith)) ∙ mixed_1 (p 0) (p 5) (p 10) (p 15) (slice_index k 1) (ts.small 0) (ts.small 5) (ts.small 10) (ts.small 15) (tk.small 1))
    (c.sum-3.ensures 2 (omega arith) ∙ ap₂ bit_xor (c.sum-2.ensures 2 (omega arith) ∙ ap₂ bit_xor (c.sum.ensures 2 (omega arith) ∙ ap₂ bit_xor (ap (λ (v : List ℕ). slice_index v 2) c.turned_1-2.ensures ∙ d3) (ap (λ (v : List ℕ). slice_index v 2) c.turned_2.ensures ∙ d0)) (ap (λ (v : List ℕ). slice_index v 2) c.turned_3.ensures ∙ d1)) (ek 2 (omega arith)) ∙ mixed_2 (p 0) (p 5) (p 10) (p 15) (slice_index k 2) (ts.small 0) (ts.small 5) (ts.small 10) (ts.small 15) (tk.small 2))
    (c.sum-3.ensures 3 (omega arith) ∙ ap₂ bit_xor (c.sum-2.ensures 3 (omega arith) ∙ ap₂ bit_xor (c.sum.ensures 3 (omega arith) ∙ ap₂ bit_xor (ap (λ (v : List ℕ). slice_index v 3) c.turned_1-2.ensures ∙ d0) (ap (λ (v : List ℕ). slice_index v 3) c.turned_2.ensures ∙ d1)) (ap (λ (v : List ℕ). slice_index v 3) c.turned_3.ensures ∙ d2) ∙ order_1 (gap (to_tower (p 0)) (to_tower (p 5))) (gap (to_tower (p 5)) (to_tower (p 10))) (gap (to_tower (p 10)) (to_tower (p 15)))) (ek 3 (omega arith)) ∙ mixed_3 (p 0) (p 5) (p 10) (p 15) (slice_index k 3) (ts.small 0) (ts.small 5) (ts.small 10) (ts.small 15) (tk.small 3))
    (c.sum-3.ensures 4 (omega arith) ∙ ap₂ bit_xor (c.sum-2.ensures 4 (omega arith) ∙ ap₂ bit_xor (c.sum.ensures 4 (omega arith) ∙ ap₂ bit_xor (ap (λ (v : List ℕ). slice_index v 4) c.turned_1-2.ensures ∙ d5) (ap (λ (v : List ℕ). slice_index v 4) c.turned_2.ensures ∙ d6)) (ap (λ (v : List ℕ). slice_index v 4) c.turned_3.ensures ∙ d7)) (ek 4 (omega arith)) ∙ mixed_0 (p 4) (p 9) (p 14) (p 3) (slice_index k 4) (ts.small 4) (ts.small 9) (ts.small 14) (ts.small 3) (tk.small 4))
    (c.sum-3.ensures 5 (omega arith) ∙ ap₂ bit_xor (c.sum-2.ensures 5 (omega arith) ∙ ap₂ bit_xor (c.sum.ensures 5 (omega arith) ∙ ap₂ bit_xor (ap (λ (v : List ℕ). slice_index v 5) c.turned_1-2.ensures ∙ d6) (ap (λ (v : List ℕ). slice_index v 5) c.turned_2.ensures ∙ d7)) (ap (λ (v : List ℕ). slice_index v 5) c.turned_3.ensures ∙ d4) ∙ order_1 (gap (to_tower (p 14)) (to_tower (p 3))) (gap (to_tower (p 3)) (to_tower (p 4))) (gap (to_tower (p 4)) (to_tower (p 9)))) (ek 5 (omega arith)) ∙ mixed_1 (p 4) (p 9) (p 14) (p 3) (slice_index k 5) (ts.small 4) (ts.small 9) (ts.small 14) (ts.small 3) (tk.small 5))
    (c.sum-3.ensures 6 (omega arith) ∙ ap₂ bit_xor (c.sum-2.ensures 6 (omega arith) ∙ ap₂ bit_xor (c.sum.ensures 6 (omega arith) ∙ ap₂ bit_xor (ap (λ (v : List ℕ). slice_index v 6) c.turned_1-2.ensures ∙ d7) (ap (λ (v : List ℕ). slice_index v 6) c.turned_2.ensures ∙ d4)) (ap (λ (v : List ℕ). slice_index v 6) c.turned_3.ensures ∙ d5)) (ek 6 (omega arith)) ∙ mixed_2 (p 4) (p 9) (p 14) (p 3) (slice_index k 6) (ts.small 4) (ts.small 9) (ts.small 14) (ts.small 3) (tk.small 6))
    (c.sum-3.ensures 7 (omega arith) ∙ ap₂ bit_xor (c.sum-2.ensures 7 (omega arith) ∙ ap₂ bit_xor (c.sum.ensures 7 (omega arith) ∙ ap₂ bit_xor (ap (λ (v : List ℕ). slice_index v 7) c.turned_1-2.ensures ∙ d4) (ap (λ (v : List ℕ). slice_index v 7) c.turned_2.ensures ∙ d5)) (ap (λ (v : List ℕ). slice_index v 7) c.turned_3.ensures ∙ d6) ∙ order_1 (gap (to_tower (p 4)) (to_tower (p 9))) (gap (to_tower (p 9)) (to_tower (p 14))) (gap (to_tower (p 14)) (to_tower (p 3)))) (ek 7 (omega arith)) ∙ mixed_3 (p 4) (p 9) (p 14) (p 3) (slice_index k 7) (ts.small 4) (ts.small 9) (ts.small 14) (ts.small 3) (tk.small 7))
    (c.sum-3.ensures 8 (omega arith) ∙ ap₂ bit_xor (c.sum-2.ensures 8 (omega arith) ∙ ap₂ bit_xor (c.sum.ensures 8 (omega arith) ∙ ap₂ bit_xor (ap (λ (v : List ℕ). slice_index v 8) c.turned_1-2.ensures ∙ d9) (ap (λ (v : List ℕ). slice_index v 8) c.turned_2.ensures ∙ d10)) (ap (λ (v : List ℕ). slice_index v 8) c.turned_3.ensures ∙ d11)) (ek 8 (omega arith)) ∙ mixed_0 (p 8) (p 13) (p 2) (p 7) (slice_index k 8) (ts.small 8) (ts.small 13) (ts.small 2) (ts.small 7) (tk.small 8))
    (c.sum-3.ensures 9 (omega arith) ∙ ap₂ bit_xor (c.sum-2.ensures 9 (omega arith) ∙ ap₂ bit_xor (c.sum.ensures 9 (omega arith) ∙ ap₂ bit_xor (ap (λ (v : List ℕ). slice_index v 9) c.turned_1-2.ensures ∙ d10) (ap (λ (v : List ℕ). slice_index v 9) c.turned_2.ensures ∙ d11)) (ap (λ (v : List ℕ). slice_index v 9) c.turned_3.ensures ∙ d8) ∙ order_1 (gap (to_tower (p 2)) (to_tower (p 7))) (gap (to_tower (p 7)) (to_tower (p 8))) (gap (to_tower (p 8)) (to_tower (p 13)))) (ek 9 (omega arith)) ∙ mixed_1 (p 8) (p 13) (p 2) (p 7) (slice_index k 9) (ts.small 8) (ts.small 13) (ts.small 2) (ts.small 7) (tk.small 9))
    (c.sum-3.ensures 10 (omega arith) ∙ ap₂ bit_xor (c.sum-2.ensures 10 (omega arith) ∙ ap₂ bit_xor (c.sum.ensures 10 (omega arith) ∙ ap₂ bit_xor (ap (λ (v : List ℕ). slice_index v 10) c.turned_1-2.ensures ∙ d11) (ap (λ (v : List ℕ). slice_index v 10) c.turned_2.ensures ∙ d8)) (ap (λ (v : List ℕ). slice_index v 10) c.turned_3.ensures ∙ d9)) (ek 10 (omega arith)) ∙ mixed_2 (p 8) (p 13) (p 2) (p 7) (slice_index k 10) (ts.small 8) (ts.small 13) (ts.small 2) (ts.small 7) (tk.small 10))
    (c.sum-3.ensures 11 (omega arith) ∙ ap₂ bit_xor (c.sum-2.ensures 11 (omega arith) ∙ ap₂ bit_xor (c.sum.ensures 11 (omega arith) ∙ ap₂ bit_xor (ap (λ (v : List ℕ). slice_index v 11) c.turned_1-2.ensures ∙ d8) (ap (λ (v : List ℕ). slice_index v 11) c.turned_2.ensures ∙ d9)) (ap (λ (v : List ℕ). slice_index v 11) c.turned_3.ensures ∙ d10) ∙ order_1 (gap (to_tower (p 8)) (to_tower (p 13))) (gap (to_tower (p 13)) (to_tower (p 2))) (gap (to_tower (p 2)) (to_tower (p 7)))) (ek 11 (omega arith)) ∙ mixed_3 (p 8) (p 13) (p 2) (p 7) (slice_index k 11) (ts.small 8) (ts.small 13) (ts.small 2) (ts.small 7) (tk.small 11))
    (c.sum-3.ensures 12 (omega arith) ∙ ap₂ bit_xor (c.sum-2.ensures 12 (omega arith) ∙ ap₂ bit_xor (c.sum.ensures 12 (omega arith) ∙ ap₂ bit_xor (ap (λ (v : List ℕ). slice_index v 12) c.turned_1-2.ensures ∙ d13) (ap (λ (v : List ℕ). slice_index v 12) c.turned_2.ensures ∙ d14)) (ap (λ (v : List ℕ). slice_index v 12) c.turned_3.ensures ∙ d15)) (ek 12 (omega arith)) ∙ mixed_0 (p 12) (p 1) (p 6) (p 11) (slice_index k 12) (ts.small 12) (ts.small 1) (ts.small 6) (ts.small 11) (tk.small 12))
    (c.sum-3.ensures 13 (omega arith) ∙ ap₂ bit_xor (c.sum-2.ensures 13 (omega arith) ∙ ap₂ bit_xor (c.sum.ensures 13 (omega arith) ∙ ap₂ bit_xor (ap (λ (v : List ℕ). slice_index v 13) c.turned_1-2.ensures ∙ d14) (ap (λ (v : List ℕ). slice_index v 13) c.turned_2.ensures ∙ d15)) (ap (λ (v : List ℕ). slice_index v 13) c.turned_3.ensures ∙ d12) ∙ order_1 (gap (to_tower (p 6)) (to_tower (p 11))) (gap (to_tower (p 11)) (to_tower (p 12))) (gap (to_tower (p 12)) (to_tower (p 1)))) (ek 13 (omega arith)) ∙ mixed_1 (p 12) (p 1) (p 6) (p 11) (slice_index k 13) (ts.small 12) (ts.small 1) (ts.small 6) (ts.small 11) (tk.small 13))
    (c.sum-3.ensures 14 (omega arith) ∙ ap₂ bit_xor (c.sum-2.ensures 14 (omega arith) ∙ ap₂ bit_xor (c.sum.ensures 14 (omega arith) ∙ ap₂ bit_xor (ap (λ (v : List ℕ). slice_index v 14) c.turned_1-2.ensures ∙ d15) (ap (λ (v : List ℕ). slice_index v 14) c.turned_2.ensures ∙ d12)) (ap (λ (v : List ℕ). slice_index v 14) c.turned_3.ensures ∙ d13)) (ek 14 (omega arith)) ∙ mixed_2 (p 12) (p 1) (p 6) (p 11) (slice_index k 14) (ts.small 12) (ts.small 1) (ts.small 6) (ts.small 11) (tk.small 14))
    (c.sum-3.ensures 15 (omega arith) ∙ ap₂ bit_xor (c.sum-2.ensures 15 (omega arith) ∙ ap₂ bit_xor (c.sum.ensures 15 (omega arith) ∙ ap₂ bit_xor (ap (λ (v : List ℕ). slice_index v 15) c.turned_1-2.ensures ∙ d12) (ap (λ (v : List ℕ). slice_index v 15) c.turned_2.ensures ∙ d13)) (ap (λ (v : List ℕ). slice_index v 15) c.turned_3.ensures ∙ d14) ∙ order_1 (gap (to_tower (p 12)) (to_tower (p 1))) (gap (to_tower (p 1)) (to_tower (p 6))) (gap (to_tower (p 6)) (to_tower (p 11)))) (ek 15 (omega arith)) ∙ mixed_3 (p 12) (p 1) (p 6) (p 11) (slice_index k 15) (ts.small 12) (ts.small 1) (ts.small 6) (ts.small 11) (tk.small 15))
    r hr
