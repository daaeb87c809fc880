-- Lanes, and the power 254 byte by byte.
use Rattle.std.proofs.Common.{◌≡◌, ℕ, ◌<◌, Bool, true, false, cond, leb, List, map, get_or, refl, sym, ap, ap₂, ◌∙◌, arith, bit_xor, replicate, length, w8}
use lib.Lanes.{zip2, sel_l, top}
use Rattle.std.proofs.lemmas.Simd.{get_or-zip2, get_or-sel_l, tops_compared, get_or-replicate, length-zip2}
use Rattle.aes_spec.specs.Field.{product, remainder, times, first_from, inverse, affine_bit, byte_of, affine, sub_byte}
use Rattle.aes_spec.proofs.EveryByte.{on_bytes}
use Rattle.aes_spec.proofs.Linear.{times_sum}
use Rattle.aes_lanes.specs.Powers.{gate, doubled, chosen, linear}
use Rattle.aes_lanes.specs.declared.powers.TheConstants.{SQUARES, FOURTHS, SIXTEENTHS, AFFINES}

pub high_lane : (v w : List ℕ) (j : ℕ) → length v ≡ 16 → length w ≡ 16 → j < 16
    → get_or (sel_l (map (top 7) (zip2 (λ (a b : ℕ). cond (leb a b) 255 0) (replicate 16 128) v)) w (replicate 16 0)) j 0 ≡ gate (get_or v j 0) (get_or w j 0)
unfolding gate
high_lane v w j lv lw h =
    let ms = zip2 leb (replicate 16 128) v in
    let e : map (top 7) (zip2 (λ (a b : ℕ). cond (leb a b) 255 0) (replicate 16 128) v) ≡ ms = tops_compared w8 leb (replicate 16 128) v in
    let lm : length ms ≡ 16 = length-zip2 leb (replicate 16 128) v (sym lv) in
    ap (λ (m : List Bool). get_or (sel_l m w (replicate 16 0)) j 0) e
    ∙ get_or-sel_l ms w (replicate 16 0) j 0 (omega (arith, lm)) (omega (arith, lw)) (omega arith)
    ∙ (λ i. cond ((get_or-zip2 leb (replicate 16 128) v j 0 0 false (omega arith) (omega (arith, lv)) ∙ ap (λ (x : ℕ). leb x (get_or v j 0)) (get_or-replicate 16 j 128 0 h)) i) (get_or w j 0) (get_or-replicate 16 j 0 0 h i))

pub double_lane : (x : ℕ) → x < 256 → bit_xor (doubled x) (gate x 27) ≡ times 2 x
unfolding product remainder times gate doubled
double_lane x h = on_bytes (λ x. bit_xor (doubled x) (gate x 27)) (times 2) refl x h

pub single_is : (x : ℕ) → x < 256 → x ≡ times 1 x
unfolding product remainder times
single_is x h = on_bytes (λ x. x) (times 1) refl x h

pub triple_is : (x : ℕ) → x < 256 → bit_xor (times 2 x) x ≡ times 3 x
unfolding product remainder times
triple_is x h = on_bytes (λ x. bit_xor (times 2 x) x) (times 3) refl x h

pub again_1 : (x : ℕ) → x < 256 → times 2 (times 1 x) ≡ times 2 x
unfolding product remainder times
again_1 x h = on_bytes (λ x. times 2 (times 1 x)) (times 2) refl x h

pub again_2 : (x : ℕ) → x < 256 → times 2 (times 2 x) ≡ times 4 x
unfolding product remainder times
again_2 x h = on_bytes (λ x. times 2 (times 2 x)) (times 4) refl x h

pub again_3 : (x : ℕ) → x < 256 → times 2 (times 4 x) ≡ times 8 x
unfolding product remainder times
again_3 x h = on_bytes (λ x. times 2 (times 4 x)) (times 8) refl x h

pub again_4 : (x : ℕ) → x < 256 → times 2 (times 8 x) ≡ times 16 x
unfolding product remainder times
again_4 x h = on_bytes (λ x. times 2 (times 8 x)) (times 16) refl x h

pub again_5 : (x : ℕ) → x < 256 → times 2 (times 16 x) ≡ times 32 x
unfolding product remainder times
again_5 x h = on_bytes (λ x. times 2 (times 16 x)) (times 32) refl x h

pub again_6 : (x : ℕ) → x < 256 → times 2 (times 32 x) ≡ times 64 x
unfolding product remainder times
again_6 x h = on_bytes (λ x. times 2 (times 32 x)) (times 64) refl x h

pub again_7 : (x : ℕ) → x < 256 → times 2 (times 64 x) ≡ times 128 x
unfolding product remainder times
again_7 x h = on_bytes (λ x. times 2 (times 64 x)) (times 128) refl x h

swap_0 : (x : ℕ) → x < 256 → times x 1 ≡ times 1 x
unfolding product remainder times
swap_0 x h = on_bytes (λ x. times x 1) (times 1) refl x h

swap_1 : (x : ℕ) → x < 256 → times x 2 ≡ times 2 x
unfolding product remainder times
swap_1 x h = on_bytes (λ x. times x 2) (times 2) refl x h

swap_2 : (x : ℕ) → x < 256 → times x 4 ≡ times 4 x
unfolding product remainder times
swap_2 x h = on_bytes (λ x. times x 4) (times 4) refl x h

swap_3 : (x : ℕ) → x < 256 → times x 8 ≡ times 8 x
unfolding product remainder times
swap_3 x h = on_bytes (λ x. times x 8) (times 8) refl x h

swap_4 : (x : ℕ) → x < 256 → times x 16 ≡ times 16 x
unfolding product remainder times
swap_4 x h = on_bytes (λ x. times x 16) (times 16) refl x h

swap_5 : (x : ℕ) → x < 256 → times x 32 ≡ times 32 x
unfolding product remainder times
swap_5 x h = on_bytes (λ x. times x 32) (times 32) refl x h

swap_6 : (x : ℕ) → x < 256 → times x 64 ≡ times 64 x
unfolding product remainder times
swap_6 x h = on_bytes (λ x. times x 64) (times 64) refl x h

swap_7 : (x : ℕ) → x < 256 → times x 128 ≡ times 128 x
unfolding product remainder times
swap_7 x h = on_bytes (λ x. times x 128) (times 128) refl x h

times_zero : (x : ℕ) → x < 256 → times x 0 ≡ 0
unfolding product remainder times
times_zero x h = on_bytes (λ x. times x 0) (λ x. 0) refl x h

times_gate : (y d m : ℕ) → y < 256 → times y (gate d m) ≡ gate d (times y m)
unfolding gate
times_gate y d m h = elim (leb 128 d) as (λ b. times y (cond b m 0) ≡ cond b (times y m) 0) [ true ↦ refl | false ↦ times_zero y h ]

spread : (x : ℕ) → x < 256 → x ≡ chosen x 1 2 4 8 16 32 64 128
unfolding chosen gate doubled
spread x h = on_bytes (λ x. x) (λ x. chosen x 1 2 4 8 16 32 64 128) refl x h

times_tree : (y g7 g6 g5 g4 g3 g2 g1 g0 : ℕ) → times y (bit_xor (bit_xor (bit_xor g7 g6) (bit_xor g5 g4)) (bit_xor (bit_xor g3 g2) (bit_xor g1 g0))) ≡ bit_xor (bit_xor (bit_xor (times y g7) (times y g6)) (bit_xor (times y g5) (times y g4))) (bit_xor (bit_xor (times y g3) (times y g2)) (bit_xor (times y g1) (times y g0)))
times_tree y g7 g6 g5 g4 g3 g2 g1 g0 =
    times_sum y (bit_xor (bit_xor g7 g6) (bit_xor g5 g4)) (bit_xor (bit_xor g3 g2) (bit_xor g1 g0))
    ∙ ap₂ bit_xor (times_sum y (bit_xor g7 g6) (bit_xor g5 g4) ∙ ap₂ bit_xor (times_sum y g7 g6) (times_sum y g5 g4))
    (times_sum y (bit_xor g3 g2) (bit_xor g1 g0) ∙ ap₂ bit_xor (times_sum y g3 g2) (times_sum y g1 g0))

pub chosen_times : (y x : ℕ) → y < 256 → x < 256 → chosen x (times 1 y) (times 2 y) (times 4 y) (times 8 y) (times 16 y) (times 32 y) (times 64 y) (times 128 y) ≡ times y x
unfolding chosen
chosen_times y x hy hx =
    let e0 : times y (gate (doubled (doubled (doubled (doubled (doubled (doubled (doubled x))))))) 1) ≡ gate (doubled (doubled (doubled (doubled (doubled (doubled (doubled x))))))) (times 1 y) = times_gate y (doubled (doubled (doubled (doubled (doubled (doubled (doubled x))))))) 1 hy ∙ ap (gate (doubled (doubled (doubled (doubled (doubled (doubled (doubled x)))))))) (swap_0 y hy) in
    let e1 : times y (gate (doubled (doubled (doubled (doubled (doubled (doubled x)))))) 2) ≡ gate (doubled (doubled (doubled (doubled (doubled (doubled x)))))) (times 2 y) = times_gate y (doubled (doubled (doubled (doubled (doubled (doubled x)))))) 2 hy ∙ ap (gate (doubled (doubled (doubled (doubled (doubled (doubled x))))))) (swap_1 y hy) in
    let e2 : times y (gate (doubled (doubled (doubled (doubled (doubled x))))) 4) ≡ gate (doubled (doubled (doubled (doubled (doubled x))))) (times 4 y) = times_gate y (doubled (doubled (doubled (doubled (doubled x))))) 4 hy ∙ ap (gate (doubled (doubled (doubled (doubled (doubled x)))))) (swap_2 y hy) in
    let e3 : times y (gate (doubled (doubled (doubled (doubled x)))) 8) ≡ gate (doubled (doubled (doubled (doubled x)))) (times 8 y) = times_gate y (doubled (doubled (doubled (doubled x)))) 8 hy ∙ ap (gate (doubled (doubled (doubled (doubled x))))) (swap_3 y hy) in
    let e4 : times y (gate (doubled (doubled (doubled x))) 16) ≡ gate (doubled (doubled (doubled x))) (times 16 y) = times_gate y (doubled (doubled (doubled x))) 16 hy ∙ ap (gate (doubled (doubled (doubled x)))) (swap_4 y hy) in
    let e5 : times y (gate (doubled (doubled x)) 32) ≡ gate (doubled (doubled x)) (times 32 y) = times_gate y (doubled (doubled x)) 32 hy ∙ ap (gate (doubled (doubled x))) (swap_5 y hy) in
    let e6 : times y (gate (doubled x) 64) ≡ gate (doubled x) (times 64 y) = times_gate y (doubled x) 64 hy ∙ ap (gate (doubled x)) (swap_6 y hy) in
    let e7 : times y (gate x 128) ≡ gate x (times 128 y) = times_gate y x 128 hy ∙ ap (gate x) (swap_7 y hy) in
    sym (ap (times y) (spread x hx)
    ∙ times_tree y (gate x 128) (gate (doubled x) 64) (gate (doubled (doubled x)) 32) (gate (doubled (doubled (doubled x))) 16) (gate (doubled (doubled (doubled (doubled x)))) 8) (gate (doubled (doubled (doubled (doubled (doubled x))))) 4) (gate (doubled (doubled (doubled (doubled (doubled (doubled x)))))) 2) (gate (doubled (doubled (doubled (doubled (doubled (doubled (doubled x))))))) 1)
    ∙ (λ i. bit_xor (bit_xor (bit_xor (e7 i) (e6 i)) (bit_xor (e5 i) (e4 i))) (bit_xor (bit_xor (e3 i) (e2 i)) (bit_xor (e1 i) (e0 i)))))

abbrev pub power_254 : ℕ → ℕ
power_254 x =
    let x2 = linear SQUARES x in
    let x3 = times x2 x in
    let x12 = linear FOURTHS x3 in
    let x15 = times x12 x3 in
    let x240 = linear SIXTEENTHS x15 in
    times x2 (times x12 x240)

pub sub_lane : (x : ℕ) → x < 256 → bit_xor (linear AFFINES (power_254 x)) 99 ≡ sub_byte x
unfolding product remainder times first_from inverse affine_bit byte_of affine sub_byte chosen linear gate doubled
sub_lane x h = on_bytes (λ x. bit_xor (linear AFFINES (power_254 x)) 99) sub_byte refl x h
