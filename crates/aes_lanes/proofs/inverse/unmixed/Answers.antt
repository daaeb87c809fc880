use Rattle.std.proofs.Common.{◌≡◌, ◌<◌, ℕ, List, [], ◌∷◌, refl, ap, ap₂, ◌∙◌, arith, bit_xor, slice_index}
use Rattle.std.proofs.lemmas.Grind.{same_number_lists}
use Rattle.aes_spec.specs.Field.{times}
use Rattle.aes_spec.specs.Aes.{inv_mix_columns}
use Rattle.aes_lanes.proofs.Places.{byte_at}
use Rattle.aes_lanes.proofs.Sums.{one, plus, same_sum}
use Rattle.aes_lanes.proofs.Tower.{below_16}
use Rattle.aes_lanes.proofs.Inverses.{times_9_is, times_11_is, times_13_is, times_14_is}
use Rattle.aes_lanes.proofs.inverse.unmixed.Goals as goal

-- the four products of a row, in the order of the columns
order_1 : (a b c d : ℕ) → bit_xor (bit_xor (times 14 b) (times 11 c)) (bit_xor (times 13 d) (times 9 a)) ≡ bit_xor (bit_xor (times 9 a) (times 14 b)) (bit_xor (times 11 c) (times 13 d))
order_1 a b c d = same_sum (times 9 a ∷ times 14 b ∷ times 11 c ∷ times 13 d ∷ []) (plus (plus (one 1) (one 2)) (plus (one 3) (one 0))) (plus (plus (one 0) (one 1)) (plus (one 2) (one 3))) refl

order_2 : (a b c d : ℕ) → bit_xor (bit_xor (times 14 c) (times 11 d)) (bit_xor (times 13 a) (times 9 b)) ≡ bit_xor (bit_xor (times 13 a) (times 9 b)) (bit_xor (times 14 c) (times 11 d))
order_2 a b c d = same_sum (times 13 a ∷ times 9 b ∷ times 14 c ∷ times 11 d ∷ []) (plus (plus (one 2) (one 3)) (plus (one 0) (one 1))) (plus (plus (one 0) (one 1)) (plus (one 2) (one 3))) refl

order_3 : (a b c d : ℕ) → bit_xor (bit_xor (times 14 d) (times 11 a)) (bit_xor (times 13 b) (times 9 c)) ≡ bit_xor (bit_xor (times 11 a) (times 13 b)) (bit_xor (times 9 c) (times 14 d))
order_3 a b c d = same_sum (times 11 a ∷ times 13 b ∷ times 9 c ∷ times 14 d ∷ []) (plus (plus (one 3) (one 0)) (plus (one 1) (one 2))) (plus (plus (one 0) (one 1)) (plus (one 2) (one 3))) refl

pub returns : goal.returns
returns c =
    let v = c.args.v in
    let p = λ (n : ℕ). slice_index v n in
    let small = λ (n : ℕ) (h : n < 16). byte_at v n c.fits-v h in
    same_number_lists c.sum.result (inv_mix_columns v) (omega (arith, c.sum.type_inv))
    (λ r h.
    let hr : r < 16 = omega (arith, h, c.sum.type_inv) in
    below_16 (λ (r : ℕ). slice_index c.sum.result r ≡ slice_index (inv_mix_columns v) r)
    (c.sum.ensures 0 (omega arith) ∙ ap₂ bit_xor (c.sum-front.ensures 0 (omega arith) ∙ ap₂ bit_xor (c.by_nibbles-fourteen.ensures 0 (omega arith) ∙ times_14_is (p 0) (small 0 (omega arith))) (ap (λ (t : List ℕ). slice_index t 0) c.turned_1.ensures ∙ c.by_nibbles-eleven.ensures 1 (omega arith) ∙ times_11_is (p 1) (small 1 (omega arith)))) (c.sum-back.ensures 0 (omega arith) ∙ ap₂ bit_xor (ap (λ (t : List ℕ). slice_index t 0) c.turned_2.ensures ∙ c.by_nibbles-thirteen.ensures 2 (omega arith) ∙ times_13_is (p 2) (small 2 (omega arith))) (ap (λ (t : List ℕ). slice_index t 0) c.turned_3.ensures ∙ c.by_nibbles-nine.ensures 3 (omega arith) ∙ times_9_is (p 3) (small 3 (omega arith)))))
    (c.sum.ensures 1 (omega arith) ∙ ap₂ bit_xor (c.sum-front.ensures 1 (omega arith) ∙ ap₂ bit_xor (c.by_nibbles-fourteen.ensures 1 (omega arith) ∙ times_14_is (p 1) (small 1 (omega arith))) (ap (λ (t : List ℕ). slice_index t 1) c.turned_1.ensures ∙ c.by_nibbles-eleven.ensures 2 (omega arith) ∙ times_11_is (p 2) (small 2 (omega arith)))) (c.sum-back.ensures 1 (omega arith) ∙ ap₂ bit_xor (ap (λ (t : List ℕ). slice_index t 1) c.turned_2.ensures ∙ c.by_nibbles-thirteen.ensures 3 (omega arith) ∙ times_13_is (p 3) (small 3 (omega arith))) (ap (λ (t : List ℕ). slice_index t 1) c.turned_3.ensures ∙ c.by_nibbles-nine.ensures 0 (omega arith) ∙ times_9_is (p 0) (small 0 (omega arith)))) ∙ order_1 (p 0) (p 1) (p 2) (p 3))
    (c.sum.ensures 2 (omega arith) ∙ ap₂ bit_xor (c.sum-front.ensures 2 (omega arith) ∙ ap₂ bit_xor (c.by_nibbles-fourteen.ensures 2 (omega arith) ∙ times_14_is (p 2) (small 2 (omega arith))) (ap (λ (t : List ℕ). slice_index t 2) c.turned_1.ensures ∙ c.by_nibbles-eleven.ensures 3 (omega arith) ∙ times_11_is (p 3) (small 3 (omega arith)))) (c.sum-back.ensures 2 (omega arith) ∙ ap₂ bit_xor (ap (λ (t : List ℕ). slice_index t 2) c.turned_2.ensures ∙ c.by_nibbles-thirteen.ensures 0 (omega arith) ∙ times_13_is (p 0) (small 0 (omega arith))) (ap (λ (t : List ℕ). slice_index t 2) c.turned_3.ensures ∙ c.by_nibbles-nine.ensures 1 (omega arith) ∙ times_9_is (p 1) (small 1 (omega arith)))) ∙ order_2 (p 0) (p 1) (p 2) (p 3))
    (c.sum.ensures 3 (omega arith) ∙ ap₂ bit_xor (c.sum-front.ensures 3 (omega arith) ∙ ap₂ bit_xor (c.by_nibbles-fourteen.ensures 3 (omega arith) ∙ times_14_is (p 3) (small 3 (omega arith))) (ap (λ (t : List ℕ). slice_index t 3) c.turned_1.ensures ∙ c.by_nibbles-eleven.ensures 0 (omega arith) ∙ times_11_is (p 0) (small 0 (omega arith)))) (c.sum-back.ensures 3 (omega arith) ∙ ap₂ bit_xor (ap (λ (t : List ℕ). slice_index t 3) c.turned_2.ensures ∙ c.by_nibbles-thirteen.ensures 1 (omega arith) ∙ times_13_is (p 1) (small 1 (omega arith))) (ap (λ (t : List ℕ). slice_index t 3) c.turned_3.ensures ∙ c.by_nibbles-nine.ensures 2 (omega arith) ∙ times_9_is (p 2) (small 2 (omega arith)))) ∙ order_3 (p 0) (p 1) (p 2) (p 3))
    (c.sum.ensures 4 (omega arith) ∙ ap₂ bit_xor (c.sum-front.ensures 4 (omega arith) ∙ ap₂ bit_xor (c.by_nibbles-fourteen.ensures 4 (omega arith) ∙ times_14_is (p 4) (small 4 (omega arith))) (ap (λ (t : List ℕ). slice_index t 4) c.turned_1.ensures ∙ c.by_nibbles-eleven.ensures 5 (omega arith) ∙ times_11_is (p 5) (small 5 (omega arith)))) (c.sum-back.ensures 4 (omega arith) ∙ ap₂ bit_xor (ap (λ (t : List ℕ). slice_index t 4) c.turned_2.ensures ∙ c.by_nibbles-thirteen.ensures 6 (omega arith) ∙ times_13_is (p 6) (small 6 (omega arith))) (ap (λ (t : List ℕ). slice_index t 4) c.turned_3.ensures ∙ c.by_nibbles-nine.ensures 7 (omega arith) ∙ times_9_is (p 7) (small 7 (omega arith)))))
    (c.sum.ensures 5 (omega arith) ∙ ap₂ bit_xor (c.sum-front.ensures 5 (omega arith) ∙ ap₂ bit_xor (c.by_nibbles-fourteen.ensures 5 (omega arith) ∙ times_14_is (p 5) (small 5 (omega arith))) (ap (λ (t : List ℕ). slice_index t 5) c.turned_1.ensures ∙ c.by_nibbles-eleven.ensures 6 (omega arith) ∙ times_11_is (p 6) (small 6 (omega arith)))) (c.sum-back.ensures 5 (omega arith) ∙ ap₂ bit_xor (ap (λ (t : List ℕ). slice_index t 5) c.turned_2.ensures ∙ c.by_nibbles-thirteen.ensures 7 (omega arith) ∙ times_13_is (p 7) (small 7 (omega arith))) (ap (λ (t : List ℕ). slice_index t 5) c.turned_3.ensures ∙ c.by_nibbles-nine.ensures 4 (omega arith) ∙ times_9_is (p 4) (small 4 (omega arith)))) ∙ order_1 (p 4) (p 5) (p 6) (p 7))
    (c.sum.ensures 6 (omega arith) ∙ ap₂ bit_xor (c.sum-front.ensures 6 (omega arith) ∙ ap₂ bit_xor (c.by_nibbles-fourteen.ensures 6 (omega arith) ∙ times_14_is (p 6) (small 6 (omega arith))) (ap (λ (t : List ℕ). slice_index t 6) c.turned_1.ensures ∙ c.by_nibbles-eleven.ensures 7 (omega arith) ∙ times_11_is (p 7) (small 7 (omega arith)))) (c.sum-back.ensures 6 (omega arith) ∙ ap₂ bit_xor (ap (λ (t : List ℕ). slice_index t 6) c.turned_2.ensures ∙ c.by_nibbles-thirteen.ensures 4 (omega arith) ∙ times_13_is (p 4) (small 4 (omega arith))) (ap (λ (t : List ℕ). slice_index t 6) c.turned_3.ensures ∙ c.by_nibbles-nine.ensures 5 (omega arith) ∙ times_9_is (p 5) (small 5 (omega arith)))) ∙ order_2 (p 4) (p 5) (p 6) (p 7))
    (c.sum.ensures 7 (omega arith) ∙ ap₂ bit_xor (c.sum-front.ensures 7 (omega arith) ∙ ap₂ bit_xor (c.by_nibbles-fourteen.ensures 7 (omega arith) ∙ times_14_is (p 7) (small 7 (omega arith))) (ap (λ (t : List ℕ). slice_index t 7) c.turned_1.ensures ∙ c.by_nibbles-eleven.ensures 4 (omega arith) ∙ times_11_is (p 4) (small 4 (omega arith)))) (c.sum-back.ensures 7 (omega arith) ∙ ap₂ bit_xor (ap (λ (t : List ℕ). slice_index t 7) c.turned_2.ensures ∙ c.by_nibbles-thirteen.ensures 5 (omega arith) ∙ times_13_is (p 5) (small 5 (omega arith))) (ap (λ (t : List ℕ). slice_index t 7) c.turned_3.ensures ∙ c.by_nibbles-nine.ensures 6 (omega arith) ∙ times_9_is (p 6) (small 6 (omega arith)))) ∙ order_3 (p 4) (p 5) (p 6) (p 7))
    (c.sum.ensures 8 (omega arith) ∙ ap₂ bit_xor (c.sum-front.ensures 8 (omega arith) ∙ ap₂ bit_xor (c.by_nibbles-fourteen.ensures 8 (omega arith) ∙ times_14_is (p 8) (small 8 (omega arith))) (ap (λ (t : List ℕ). slice_index t 8) c.turned_1.ensures ∙ c.by_nibbles-eleven.ensures 9 (omega arith) ∙ times_11_is (p 9) (small 9 (omega arith)))) (c.sum-back.ensures 8 (omega arith) ∙ ap₂ bit_xor (ap (λ (t : List ℕ). slice_index t 8) c.turned_2.ensures ∙ c.by_nibbles-thirteen.ensures 10 (omega arith) ∙ times_13_is (p 10) (small 10 (omega arith))) (ap (λ (t : List ℕ). slice_index t 8) c.turned_3.ensures ∙ c.by_nibbles-nine.ensures 11 (omega arith) ∙ times_9_is (p 11) (small 11 (omega arith)))))
    (c.sum.ensures 9 (omega arith) ∙ ap₂ bit_xor (c.sum-front.ensures 9 (omega arith) ∙ ap₂ bit_xor (c.by_nibbles-fourteen.ensures 9 (omega arith) ∙ times_14_is (p 9) (small 9 (omega arith))) (ap (λ (t : List ℕ). slice_index t 9) c.turned_1.ensures ∙ c.by_nibbles-eleven.ensures 10 (omega arith) ∙ times_11_is (p 10) (small 10 (omega arith)))) (c.sum-back.ensures 9 (omega arith) ∙ ap₂ bit_xor (ap (λ (t : List ℕ). slice_index t 9) c.turned_2.ensures ∙ c.by_nibbles-thirteen.ensures 11 (omega arith) ∙ times_13_is (p 11) (small 11 (omega arith))) (ap (λ (t : List ℕ). slice_index t 9) c.turned_3.ensures ∙ c.by_nibbles-nine.ensures 8 (omega arith) ∙ times_9_is (p 8) (small 8 (omega arith)))) ∙ order_1 (p 8) (p 9) (p 10) (p 11))
    (c.sum.ensures 10 (omega arith) ∙ ap₂ bit_xor (c.sum-front.ensures 10 (omega arith) ∙ ap₂ bit_xor (c.by_nibbles-fourteen.ensures 10 (omega arith) ∙ times_14_is (p 10) (small 10 (omega arith))) (ap (λ (t : List ℕ). slice_index t 10) c.turned_1.ensures ∙ c.by_nibbles-eleven.ensures 11 (omega arith) ∙ times_11_is (p 11) (small 11 (omega arith)))) (c.sum-back.ensures 10 (omega arith) ∙ ap₂ bit_xor (ap (λ (t : List ℕ). slice_index t 10) c.turned_2.ensures ∙ c.by_nibbles-thirteen.ensures 8 (omega arith) ∙ times_13_is (p 8) (small 8 (omega arith))) (ap (λ (t : List ℕ). slice_index t 10) c.turned_3.ensures ∙ c.by_nibbles-nine.ensures 9 (omega arith) ∙ times_9_is (p 9) (small 9 (omega arith)))) ∙ order_2 (p 8) (p 9) (p 10) (p 11))
    (c.sum.ensures 11 (omega arith) ∙ ap₂ bit_xor (c.sum-front.ensures 11 (omega arith) ∙ ap₂ bit_xor (c.by_nibbles-fourteen.ensures 11 (omega arith) ∙ times_14_is (p 11) (small 11 (omega arith))) (ap (λ (t : List ℕ). slice_index t 11) c.turned_1.ensures ∙ c.by_nibbles-eleven.ensures 8 (omega arith) ∙ times_11_is (p 8) (small 8 (omega arith)))) (c.sum-back.ensures 11 (omega arith) ∙ ap₂ bit_xor (ap (λ (t : List ℕ). slice_index t 11) c.turned_2.ensures ∙ c.by_nibbles-thirteen.ensures 9 (omega arith) ∙ times_13_is (p 9) (small 9 (omega arith))) (ap (λ (t : List ℕ). slice_index t 11) c.turned_3.ensures ∙ c.by_nibbles-nine.ensures 10 (omega arith) ∙ times_9_is (p 10) (small 10 (omega arith)))) ∙ order_3 (p 8) (p 9) (p 10) (p 11))
    (c.sum.ensures 12 (omega arith) ∙ ap₂ bit_xor (c.sum-front.ensures 12 (omega arith) ∙ ap₂ bit_xor (c.by_nibbles-fourteen.ensures 12 (omega arith) ∙ times_14_is (p 12) (small 12 (omega arith))) (ap (λ (t : List ℕ). slice_index t 12) c.turned_1.ensures ∙ c.by_nibbles-eleven.ensures 13 (omega arith) ∙ times_11_is (p 13) (small 13 (omega arith)))) (c.sum-back.ensures 12 (omega arith) ∙ ap₂ bit_xor (ap (λ (t : List ℕ). slice_index t 12) c.turned_2.ensures ∙ c.by_nibbles-thirteen.ensures 14 (omega arith) ∙ times_13_is (p 14) (small 14 (omega arith))) (ap (λ (t : List ℕ). slice_index t 12) c.turned_3.ensures ∙ c.by_nibbles-nine.ensures 15 (omega arith) ∙ times_9_is (p 15) (small 15 (omega arith)))))
    (c.sum.ensures 13 (omega arith) ∙ ap₂ bit_xor (c.sum-front.ensures 13 (omega arith) ∙ ap₂ bit_xor (c.by_nibbles-fourteen.ensures 13 (omega arith) ∙ times_14_is (p 13) (small 13 (omega arith))) (ap (λ (t : List ℕ). slice_index t 13) c.turned_1.ensures ∙ c.by_nibbles-eleven.ensures 14 (omega arith) ∙ times_11_is (p 14) (small 14 (omega arith)))) (c.sum-back.ensures 13 (omega arith) ∙ ap₂ bit_xor (ap (λ (t : List ℕ). slice_index t 13) c.turned_2.ensures ∙ c.by_nibbles-thirteen.ensures 15 (omega arith) ∙ times_13_is (p 15) (small 15 (omega arith))) (ap (λ (t : List ℕ). slice_index t 13) c.turned_3.ensures ∙ c.by_nibbles-nine.ensures 12 (omega arith) ∙ times_9_is (p 12) (small 12 (omega arith)))) ∙ order_1 (p 12) (p 13) (p 14) (p 15))
    (c.sum.ensures 14 (omega arith) ∙ ap₂ bit_xor (c.sum-front.ensures 14 (omega arith) ∙ ap₂ bit_xor (c.by_nibbles-fourteen.ensures 14 (omega arith) ∙ times_14_is (p 14) (small 14 (omega arith))) (ap (λ (t : List ℕ). slice_index t 14) c.turned_1.ensures ∙ c.by_nibbles-eleven.ensures 15 (omega arith) ∙ times_11_is (p 15) (small 15 (omega arith)))) (c.sum-back.ensures 14 (omega arith) ∙ ap₂ bit_xor (ap (λ (t : List ℕ). slice_index t 14) c.turned_2.ensures ∙ c.by_nibbles-thirteen.ensures 12 (omega arith) ∙ times_13_is (p 12) (small 12 (omega arith))) (ap (λ (t : List ℕ). slice_index t 14) c.turned_3.ensures ∙ c.by_nibbles-nine.ensures 13 (omega arith) ∙ times_9_is (p 13) (small 13 (omega arith)))) ∙ order_2 (p 12) (p 13) (p 14) (p 15))
    (c.sum.ensures 15 (omega arith) ∙ ap₂ bit_xor (c.sum-front.ensures 15 (omega arith) ∙ ap₂ bit_xor (c.by_nibbles-fourteen.ensures 15 (omega arith) ∙ times_14_is (p 15) (small 15 (omega arith))) (ap (λ (t : List ℕ). slice_index t 15) c.turned_1.ensures ∙ c.by_nibbles-eleven.ensures 12 (omega arith) ∙ times_11_is (p 12) (small 12 (omega arith)))) (c.sum-back.ensures 15 (omega arith) ∙ ap₂ bit_xor (ap (λ (t : List ℕ). slice_index t 15) c.turned_2.ensures ∙ c.by_nibbles-thirteen.ensures 13 (omega arith) ∙ times_13_is (p 13) (small 13 (omega arith))) (ap (λ (t : List ℕ). slice_index t 15) c.turned_3.ensures ∙ c.by_nibbles-nine.ensures 14 (omega arith) ∙ times_9_is (p 14) (small 14 (omega arith)))) ∙ order_3 (p 12) (p 13) (p 14) (p 15))
    r hr)
