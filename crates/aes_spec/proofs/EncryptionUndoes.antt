-- The other way round: encryption undoes decryption.
use Rattle.std.proofs.Common.{◌≡◌, ℕ, zero, suc, ◌+◌, ◌-◌, ◌<◌, List, [], ◌∷◌, refl, ap, ◌∙◌, bit_xor, slice_index}
use Rattle.std.specs.Int.Bits.{xor_zero_r}
use Rattle.aes_spec.specs.Field.{product, remainder, times, first_from, inverse, affine_bit, byte_of, affine, sub_byte, inv_affine_bit, inv_affine, inv_sub_byte}
use Rattle.aes_spec.specs.Aes.{sub_bytes, inv_sub_bytes, shift_rows, inv_shift_rows, mix_columns, inv_mix_columns, add_round_key, IsState, mixed_rounds, cipher, unmixed_rounds, inverse_cipher}
use Rattle.aes_spec.specs.Key.{key_words, round_key, aes, aes_inverse}
use Rattle.aes_spec.proofs.EveryByte.{on_bytes, pair, inv_sub_small, times_9_small, times_11_small, times_13_small, times_14_small}
use Rattle.aes_spec.proofs.InverseSteps.{as_state_by, row, four, unadded}
use Rattle.aes_spec.proofs.States.{small_at, sixteen_state, add_state, xor_small}
use Rattle.aes_spec.proofs.RoundKeys.{round_key_state}
use Rattle.bits_core.specs.ByteList.{IsBytes}

resub : (b : ℕ) → b < 256 → sub_byte (inv_sub_byte b) ≡ b
unfolding product remainder times first_from inverse affine_bit byte_of affine sub_byte inv_affine_bit inv_affine inv_sub_byte
resub b h = on_bytes (λ b. sub_byte (inv_sub_byte b)) (λ b. b) refl b h

cell_00 : (b : ℕ) → b < 256 → pair 2 14 3 9 1 13 1 11 b ≡ b
unfolding product remainder times
cell_00 = on_bytes (pair 2 14 3 9 1 13 1 11) (λ b. b) refl

cell_01 : (b : ℕ) → b < 256 → pair 2 11 3 14 1 9 1 13 b ≡ 0
unfolding product remainder times
cell_01 = on_bytes (pair 2 11 3 14 1 9 1 13) (λ b. 0) refl

cell_02 : (b : ℕ) → b < 256 → pair 2 13 3 11 1 14 1 9 b ≡ 0
unfolding product remainder times
cell_02 = on_bytes (pair 2 13 3 11 1 14 1 9) (λ b. 0) refl

cell_03 : (b : ℕ) → b < 256 → pair 2 9 3 13 1 11 1 14 b ≡ 0
unfolding product remainder times
cell_03 = on_bytes (pair 2 9 3 13 1 11 1 14) (λ b. 0) refl

cell_10 : (b : ℕ) → b < 256 → pair 1 14 2 9 3 13 1 11 b ≡ 0
unfolding product remainder times
cell_10 = on_bytes (pair 1 14 2 9 3 13 1 11) (λ b. 0) refl

cell_11 : (b : ℕ) → b < 256 → pair 1 11 2 14 3 9 1 13 b ≡ b
unfolding product remainder times
cell_11 = on_bytes (pair 1 11 2 14 3 9 1 13) (λ b. b) refl

cell_12 : (b : ℕ) → b < 256 → pair 1 13 2 11 3 14 1 9 b ≡ 0
unfolding product remainder times
cell_12 = on_bytes (pair 1 13 2 11 3 14 1 9) (λ b. 0) refl

cell_13 : (b : ℕ) → b < 256 → pair 1 9 2 13 3 11 1 14 b ≡ 0
unfolding product remainder times
cell_13 = on_bytes (pair 1 9 2 13 3 11 1 14) (λ b. 0) refl

cell_20 : (b : ℕ) → b < 256 → pair 1 14 1 9 2 13 3 11 b ≡ 0
unfolding product remainder times
cell_20 = on_bytes (pair 1 14 1 9 2 13 3 11) (λ b. 0) refl

cell_21 : (b : ℕ) → b < 256 → pair 1 11 1 14 2 9 3 13 b ≡ 0
unfolding product remainder times
cell_21 = on_bytes (pair 1 11 1 14 2 9 3 13) (λ b. 0) refl

cell_22 : (b : ℕ) → b < 256 → pair 1 13 1 11 2 14 3 9 b ≡ b
unfolding product remainder times
cell_22 = on_bytes (pair 1 13 1 11 2 14 3 9) (λ b. b) refl

cell_23 : (b : ℕ) → b < 256 → pair 1 9 1 13 2 11 3 14 b ≡ 0
unfolding product remainder times
cell_23 = on_bytes (pair 1 9 1 13 2 11 3 14) (λ b. 0) refl

cell_30 : (b : ℕ) → b < 256 → pair 3 14 1 9 1 13 2 11 b ≡ 0
unfolding product remainder times
cell_30 = on_bytes (pair 3 14 1 9 1 13 2 11) (λ b. 0) refl

cell_31 : (b : ℕ) → b < 256 → pair 3 11 1 14 1 9 2 13 b ≡ 0
unfolding product remainder times
cell_31 = on_bytes (pair 3 11 1 14 1 9 2 13) (λ b. 0) refl

cell_32 : (b : ℕ) → b < 256 → pair 3 13 1 11 1 14 2 9 b ≡ 0
unfolding product remainder times
cell_32 = on_bytes (pair 3 13 1 11 1 14 2 9) (λ b. 0) refl

cell_33 : (b : ℕ) → b < 256 → pair 3 9 1 13 1 11 2 14 b ≡ b
unfolding product remainder times
cell_33 = on_bytes (pair 3 9 1 13 1 11 2 14) (λ b. b) refl

remixed_0 : (a b c d : ℕ) → a < 256 → b < 256 → c < 256 → d < 256
    → four (times 2 (four (times 14 a) (times 11 b) (times 13 c) (times 9 d))) (times 3 (four (times 9 a) (times 14 b) (times 11 c) (times 13 d))) (times 1 (four (times 13 a) (times 9 b) (times 14 c) (times 11 d))) (times 1 (four (times 11 a) (times 13 b) (times 9 c) (times 14 d))) ≡ a
remixed_0 a b c d ha hb hc hd =
    row 2 3 1 1 14 11 13 9 9 14 11 13 13 9 14 11 11 13 9 14 a b c d
    ∙ (λ i. four (cell_00 a ha i) (cell_01 b hb i) (cell_02 c hc i) (cell_03 d hd i))
    ∙ simp xor_zero_r

remixed_1 : (a b c d : ℕ) → a < 256 → b < 256 → c < 256 → d < 256
    → four (times 1 (four (times 14 a) (times 11 b) (times 13 c) (times 9 d))) (times 2 (four (times 9 a) (times 14 b) (times 11 c) (times 13 d))) (times 3 (four (times 13 a) (times 9 b) (times 14 c) (times 11 d))) (times 1 (four (times 11 a) (times 13 b) (times 9 c) (times 14 d))) ≡ b
remixed_1 a b c d ha hb hc hd =
    row 1 2 3 1 14 11 13 9 9 14 11 13 13 9 14 11 11 13 9 14 a b c d
    ∙ (λ i. four (cell_10 a ha i) (cell_11 b hb i) (cell_12 c hc i) (cell_13 d hd i))
    ∙ simp xor_zero_r

remixed_2 : (a b c d : ℕ) → a < 256 → b < 256 → c < 256 → d < 256
    → four (times 1 (four (times 14 a) (times 11 b) (times 13 c) (times 9 d))) (times 1 (four (times 9 a) (times 14 b) (times 11 c) (times 13 d))) (times 2 (four (times 13 a) (times 9 b) (times 14 c) (times 11 d))) (times 3 (four (times 11 a) (times 13 b) (times 9 c) (times 14 d))) ≡ c
remixed_2 a b c d ha hb hc hd =
    row 1 1 2 3 14 11 13 9 9 14 11 13 13 9 14 11 11 13 9 14 a b c d
    ∙ (λ i. four (cell_20 a ha i) (cell_21 b hb i) (cell_22 c hc i) (cell_23 d hd i))
    ∙ simp xor_zero_r

remixed_3 : (a b c d : ℕ) → a < 256 → b < 256 → c < 256 → d < 256
    → four (times 3 (four (times 14 a) (times 11 b) (times 13 c) (times 9 d))) (times 1 (four (times 9 a) (times 14 b) (times 11 c) (times 13 d))) (times 1 (four (times 13 a) (times 9 b) (times 14 c) (times 11 d))) (times 2 (four (times 11 a) (times 13 b) (times 9 c) (times 14 d))) ≡ d
remixed_3 a b c d ha hb hc hd =
    row 3 1 1 2 14 11 13 9 9 14 11 13 13 9 14 11 11 13 9 14 a b c d
    ∙ (λ i. four (cell_30 a ha i) (cell_31 b hb i) (cell_32 c hc i) (cell_33 d hd i))

remixed : (s : List ℕ) → IsState s → mix_columns (inv_mix_columns s) ≡ s
remixed s h =
    let x = λ (n : ℕ). slice_index s n in
    let l = h.small in
    let e0 = remixed_0 (x 0) (x 1) (x 2) (x 3) (l 0) (l 1) (l 2) (l 3) in
    let e1 = remixed_1 (x 0) (x 1) (x 2) (x 3) (l 0) (l 1) (l 2) (l 3) in
    let e2 = remixed_2 (x 0) (x 1) (x 2) (x 3) (l 0) (l 1) (l 2) (l 3) in
    let e3 = remixed_3 (x 0) (x 1) (x 2) (x 3) (l 0) (l 1) (l 2) (l 3) in
    let e4 = remixed_0 (x 4) (x 5) (x 6) (x 7) (l 4) (l 5) (l 6) (l 7) in
    let e5 = remixed_1 (x 4) (x 5) (x 6) (x 7) (l 4) (l 5) (l 6) (l 7) in
    let e6 = remixed_2 (x 4) (x 5) (x 6) (x 7) (l 4) (l 5) (l 6) (l 7) in
    let e7 = remixed_3 (x 4) (x 5) (x 6) (x 7) (l 4) (l 5) (l 6) (l 7) in
    let e8 = remixed_0 (x 8) (x 9) (x 10) (x 11) (l 8) (l 9) (l 10) (l 11) in
    let e9 = remixed_1 (x 8) (x 9) (x 10) (x 11) (l 8) (l 9) (l 10) (l 11) in
    let e10 = remixed_2 (x 8) (x 9) (x 10) (x 11) (l 8) (l 9) (l 10) (l 11) in
    let e11 = remixed_3 (x 8) (x 9) (x 10) (x 11) (l 8) (l 9) (l 10) (l 11) in
    let e12 = remixed_0 (x 12) (x 13) (x 14) (x 15) (l 12) (l 13) (l 14) (l 15) in
    let e13 = remixed_1 (x 12) (x 13) (x 14) (x 15) (l 12) (l 13) (l 14) (l 15) in
    let e14 = remixed_2 (x 12) (x 13) (x 14) (x 15) (l 12) (l 13) (l 14) (l 15) in
    let e15 = remixed_3 (x 12) (x 13) (x 14) (x 15) (l 12) (l 13) (l 14) (l 15) in
    (λ i. e0 i ∷ e1 i ∷ e2 i ∷ e3 i ∷ e4 i ∷ e5 i ∷ e6 i ∷ e7 i ∷ e8 i ∷ e9 i ∷ e10 i ∷ e11 i ∷ e12 i ∷ e13 i ∷ e14 i ∷ e15 i ∷ [])
    ∙ as_state_by s h

reshift : (s : List ℕ) → IsState s → shift_rows (inv_shift_rows s) ≡ s
reshift s h = as_state_by s h

resubbed : (s : List ℕ) → IsState s → sub_bytes (inv_sub_bytes s) ≡ s
resubbed s h =
    let e = λ (n : ℕ). resub (slice_index s n) (h.small n) in
    (λ i. e 0 i ∷ e 1 i ∷ e 2 i ∷ e 3 i ∷ e 4 i ∷ e 5 i ∷ e 6 i ∷ e 7 i ∷ e 8 i ∷ e 9 i ∷ e 10 i ∷ e 11 i ∷ e 12 i ∷ e 13 i ∷ e 14 i ∷ e 15 i ∷ [])
    ∙ as_state_by s h

inv_sub_state : (s : List ℕ) → IsState s → IsState (inv_sub_bytes s)
inv_sub_state s h = sixteen_state (λ n. inv_sub_byte (slice_index s n)) (λ n. inv_sub_small (slice_index s n) (h.small n))

inv_shift_state : (s : List ℕ) → IsState s → IsState (inv_shift_rows s)
inv_shift_state s h = record { long = refl; small = small_at (inv_shift_rows s) (h.small 0, (h.small 13, (h.small 10, (h.small 7, (h.small 4, (h.small 1, (h.small 14, (h.small 11, (h.small 8, (h.small 5, (h.small 2, (h.small 15, (h.small 12, (h.small 9, (h.small 6, (h.small 3, tt)))))))))))))))) }

imix_0 : (a b c d : ℕ) → a < 256 → b < 256 → c < 256 → d < 256 → bit_xor (bit_xor (times 14 a) (times 11 b)) (bit_xor (times 13 c) (times 9 d)) < 256
imix_0 a b c d ha hb hc hd =
    xor_small (bit_xor (times 14 a) (times 11 b)) (bit_xor (times 13 c) (times 9 d)) (xor_small (times 14 a) (times 11 b) (times_14_small a ha) (times_11_small b hb)) (xor_small (times 13 c) (times 9 d) (times_13_small c hc) (times_9_small d hd))

imix_1 : (a b c d : ℕ) → a < 256 → b < 256 → c < 256 → d < 256 → bit_xor (bit_xor (times 9 a) (times 14 b)) (bit_xor (times 11 c) (times 13 d)) < 256
imix_1 a b c d ha hb hc hd =
    xor_small (bit_xor (times 9 a) (times 14 b)) (bit_xor (times 11 c) (times 13 d)) (xor_small (times 9 a) (times 14 b) (times_9_small a ha) (times_14_small b hb)) (xor_small (times 11 c) (times 13 d) (times_11_small c hc) (times_13_small d hd))

imix_2 : (a b c d : ℕ) → a < 256 → b < 256 → c < 256 → d < 256 → bit_xor (bit_xor (times 13 a) (times 9 b)) (bit_xor (times 14 c) (times 11 d)) < 256
imix_2 a b c d ha hb hc hd =
    xor_small (bit_xor (times 13 a) (times 9 b)) (bit_xor (times 14 c) (times 11 d)) (xor_small (times 13 a) (times 9 b) (times_13_small a ha) (times_9_small b hb)) (xor_small (times 14 c) (times 11 d) (times_14_small c hc) (times_11_small d hd))

imix_3 : (a b c d : ℕ) → a < 256 → b < 256 → c < 256 → d < 256 → bit_xor (bit_xor (times 11 a) (times 13 b)) (bit_xor (times 9 c) (times 14 d)) < 256
imix_3 a b c d ha hb hc hd =
    xor_small (bit_xor (times 11 a) (times 13 b)) (bit_xor (times 9 c) (times 14 d)) (xor_small (times 11 a) (times 13 b) (times_11_small a ha) (times_13_small b hb)) (xor_small (times 9 c) (times 14 d) (times_9_small c hc) (times_14_small d hd))

inv_mix_state : (s : List ℕ) → IsState s → IsState (inv_mix_columns s)
inv_mix_state s h =
    let x = λ (n : ℕ). slice_index s n in
    let l = h.small in
    record { long = refl; small = small_at (inv_mix_columns s) (imix_0 (x 0) (x 1) (x 2) (x 3) (l 0) (l 1) (l 2) (l 3), (imix_1 (x 0) (x 1) (x 2) (x 3) (l 0) (l 1) (l 2) (l 3), (imix_2 (x 0) (x 1) (x 2) (x 3) (l 0) (l 1) (l 2) (l 3), (imix_3 (x 0) (x 1) (x 2) (x 3) (l 0) (l 1) (l 2) (l 3), (imix_0 (x 4) (x 5) (x 6) (x 7) (l 4) (l 5) (l 6) (l 7), (imix_1 (x 4) (x 5) (x 6) (x 7) (l 4) (l 5) (l 6) (l 7), (imix_2 (x 4) (x 5) (x 6) (x 7) (l 4) (l 5) (l 6) (l 7), (imix_3 (x 4) (x 5) (x 6) (x 7) (l 4) (l 5) (l 6) (l 7), (imix_0 (x 8) (x 9) (x 10) (x 11) (l 8) (l 9) (l 10) (l 11), (imix_1 (x 8) (x 9) (x 10) (x 11) (l 8) (l 9) (l 10) (l 11), (imix_2 (x 8) (x 9) (x 10) (x 11) (l 8) (l 9) (l 10) (l 11), (imix_3 (x 8) (x 9) (x 10) (x 11) (l 8) (l 9) (l 10) (l 11), (imix_0 (x 12) (x 13) (x 14) (x 15) (l 12) (l 13) (l 14) (l 15), (imix_1 (x 12) (x 13) (x 14) (x 15) (l 12) (l 13) (l 14) (l 15), (imix_2 (x 12) (x 13) (x 14) (x 15) (l 12) (l 13) (l 14) (l 15), (imix_3 (x 12) (x 13) (x 14) (x 15) (l 12) (l 13) (l 14) (l 15), tt)))))))))))))))) }

-- one round and its inverse
rounded : (k s : List ℕ) → IsState k → IsState s → add_round_key k (mix_columns (shift_rows (sub_bytes (inv_sub_bytes (inv_shift_rows (inv_mix_columns (add_round_key k s))))))) ≡ s
rounded k s hk h =
    let a = add_round_key k s in
    let ta = add_state k s hk h in
    let b = inv_mix_columns a in
    let tb = inv_mix_state a ta in
    let c = inv_shift_rows b in
    ap (λ (x : List ℕ). add_round_key k (mix_columns (shift_rows x))) (resubbed c (inv_shift_state b tb))
    ∙ ap (λ (x : List ℕ). add_round_key k (mix_columns x)) (reshift b tb)
    ∙ ap (add_round_key k) (remixed a ta)
    ∙ unadded k s h

mixed_again : (w : ℕ → List ℕ) → ((r : ℕ) → IsState (w r)) → (n : ℕ) (s : List ℕ) → IsState s → mixed_rounds w n (unmixed_rounds w n s) ≡ s
unfolding mixed_rounds unmixed_rounds
mixed_again w hw zero s h = unadded (w 0) s h
mixed_again w hw (suc n) s h =
    let k = w (n + 1) in
    let hk = hw (n + 1) in
    let a = add_round_key k s in
    let b = inv_mix_columns a in
    let c = inv_shift_rows b in
    let td = inv_sub_state c (inv_shift_state b (inv_mix_state a (add_state k s hk h))) in
    ap (λ (x : List ℕ). add_round_key k (mix_columns (shift_rows (sub_bytes x)))) (mixed_again w hw n (inv_sub_bytes c) td)
    ∙ rounded k s hk h

redone : (w : ℕ → List ℕ) → ((r : ℕ) → IsState (w r)) → (n : ℕ) (s : List ℕ) → IsState s → cipher w n (inverse_cipher w n s) ≡ s
unfolding cipher inverse_cipher
redone w hw n s h =
    let a = add_round_key (w n) s in
    let ta = add_state (w n) s (hw n) h in
    let c = inv_shift_rows a in
    let tc = inv_shift_state a ta in
    ap (λ (x : List ℕ). add_round_key (w n) (shift_rows (sub_bytes x))) (mixed_again w hw (n - 1) (inv_sub_bytes c) (inv_sub_state c tc))
    ∙ ap (λ (x : List ℕ). add_round_key (w n) (shift_rows x)) (resubbed c tc)
    ∙ ap (add_round_key (w n)) (reshift a ta)
    ∙ unadded (w n) s h

pub aes-aes_inverse : (key block : List ℕ) → IsBytes key → IsState block → aes key (aes_inverse key block) ≡ block
aes-aes_inverse key block hk hb = redone (round_key key) (round_key_state key hk) (key_words key + 6) block hb
