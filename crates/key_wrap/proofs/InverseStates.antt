-- The inverse cipher takes a block of bytes to one.
use Rattle.std.proofs.Common.{ℕ, zero, suc, ◌+◌, ◌-◌, ◌<◌, List, refl, bit_xor, slice_index}
use Rattle.bits_core.specs.ByteList.{IsBytes}
use Rattle.aes_core.specs.Field.{times, inv_sub_byte}
use Rattle.aes_core.specs.Aes.{IsState, inv_sub_bytes, inv_shift_rows, inv_mix_columns, add_round_key, unmixed_rounds, inverse_cipher}
use Rattle.aes_core.specs.Key.{key_words, round_key, aes_inverse}
use Rattle.aes_spec.proofs.EveryByte.{inv_sub_small, times_9_small, times_11_small, times_13_small, times_14_small}
use Rattle.aes_spec.proofs.States.{small_at, sixteen_state, xor_small, add_state}
use Rattle.aes_spec.proofs.RoundKeys.{round_key_state}

inv_sub_state : (s : List ℕ) → IsState s → IsState (inv_sub_bytes s)
inv_sub_state s h = sixteen_state (λ n. inv_sub_byte (slice_index s n)) (λ n. inv_sub_small (slice_index s n) (h.small n))

inv_shift_state : (s : List ℕ) → IsState s → IsState (inv_shift_rows s)
inv_shift_state s h = record { long = refl; small = small_at (inv_shift_rows s) (h.small 0, (h.small 13, (h.small 10, (h.small 7, (h.small 4, (h.small 1, (h.small 14, (h.small 11, (h.small 8, (h.small 5, (h.small 2, (h.small 15, (h.small 12, (h.small 9, (h.small 6, (h.small 3, tt)))))))))))))))) }

sum_small : (a b c d : ℕ) → a < 256 → b < 256 → c < 256 → d < 256 → bit_xor (bit_xor a b) (bit_xor c d) < 256
sum_small a b c d ha hb hc hd = xor_small (bit_xor a b) (bit_xor c d) (xor_small a b ha hb) (xor_small c d hc hd)

row_0 : (a b c d : ℕ) → a < 256 → b < 256 → c < 256 → d < 256 → bit_xor (bit_xor (times 14 a) (times 11 b)) (bit_xor (times 13 c) (times 9 d)) < 256
row_0 a b c d ha hb hc hd = sum_small (times 14 a) (times 11 b) (times 13 c) (times 9 d) (times_14_small a ha) (times_11_small b hb) (times_13_small c hc) (times_9_small d hd)

row_1 : (a b c d : ℕ) → a < 256 → b < 256 → c < 256 → d < 256 → bit_xor (bit_xor (times 9 a) (times 14 b)) (bit_xor (times 11 c) (times 13 d)) < 256
row_1 a b c d ha hb hc hd = sum_small (times 9 a) (times 14 b) (times 11 c) (times 13 d) (times_9_small a ha) (times_14_small b hb) (times_11_small c hc) (times_13_small d hd)

row_2 : (a b c d : ℕ) → a < 256 → b < 256 → c < 256 → d < 256 → bit_xor (bit_xor (times 13 a) (times 9 b)) (bit_xor (times 14 c) (times 11 d)) < 256
row_2 a b c d ha hb hc hd = sum_small (times 13 a) (times 9 b) (times 14 c) (times 11 d) (times_13_small a ha) (times_9_small b hb) (times_14_small c hc) (times_11_small d hd)

row_3 : (a b c d : ℕ) → a < 256 → b < 256 → c < 256 → d < 256 → bit_xor (bit_xor (times 11 a) (times 13 b)) (bit_xor (times 9 c) (times 14 d)) < 256
row_3 a b c d ha hb hc hd = sum_small (times 11 a) (times 13 b) (times 9 c) (times 14 d) (times_11_small a ha) (times_13_small b hb) (times_9_small c hc) (times_14_small d hd)

inv_mix_state : (s : List ℕ) → IsState s → IsState (inv_mix_columns s)
inv_mix_state s h =
    let x = λ (n : ℕ). slice_index s n in
    let l = h.small in
    record { long = refl; small = small_at (inv_mix_columns s) (row_0 (x 0) (x 1) (x 2) (x 3) (l 0) (l 1) (l 2) (l 3), (row_1 (x 0) (x 1) (x 2) (x 3) (l 0) (l 1) (l 2) (l 3), (row_2 (x 0) (x 1) (x 2) (x 3) (l 0) (l 1) (l 2) (l 3), (row_3 (x 0) (x 1) (x 2) (x 3) (l 0) (l 1) (l 2) (l 3), (row_0 (x 4) (x 5) (x 6) (x 7) (l 4) (l 5) (l 6) (l 7), (row_1 (x 4) (x 5) (x 6) (x 7) (l 4) (l 5) (l 6) (l 7), (row_2 (x 4) (x 5) (x 6) (x 7) (l 4) (l 5) (l 6) (l 7), (row_3 (x 4) (x 5) (x 6) (x 7) (l 4) (l 5) (l 6) (l 7), (row_0 (x 8) (x 9) (x 10) (x 11) (l 8) (l 9) (l 10) (l 11), (row_1 (x 8) (x 9) (x 10) (x 11) (l 8) (l 9) (l 10) (l 11), (row_2 (x 8) (x 9) (x 10) (x 11) (l 8) (l 9) (l 10) (l 11), (row_3 (x 8) (x 9) (x 10) (x 11) (l 8) (l 9) (l 10) (l 11), (row_0 (x 12) (x 13) (x 14) (x 15) (l 12) (l 13) (l 14) (l 15), (row_1 (x 12) (x 13) (x 14) (x 15) (l 12) (l 13) (l 14) (l 15), (row_2 (x 12) (x 13) (x 14) (x 15) (l 12) (l 13) (l 14) (l 15), (row_3 (x 12) (x 13) (x 14) (x 15) (l 12) (l 13) (l 14) (l 15), tt)))))))))))))))) }

unmixed_state : (w : ℕ → List ℕ) → ((r : ℕ) → IsState (w r)) → (n : ℕ) (s : List ℕ) → IsState s → IsState (unmixed_rounds w n s)
unfolding unmixed_rounds
unmixed_state w hw zero s h = add_state (w 0) s (hw 0) h
unmixed_state w hw (suc n) s h =
    let a = add_round_key (w (n + 1)) s in
    let b = inv_mix_columns a in
    let c = inv_shift_rows b in
    unmixed_state w hw n (inv_sub_bytes c) (inv_sub_state c (inv_shift_state b (inv_mix_state a (add_state (w (n + 1)) s (hw (n + 1)) h))))

pub aes_inverse-state : (key b : List ℕ) → IsBytes key → IsState b → IsState (aes_inverse key b)
unfolding inverse_cipher
aes_inverse-state key b hk hb =
    let w : ℕ → List ℕ = round_key key in
    let hw : (r : ℕ) → IsState (w r) = round_key_state key hk in
    let n : ℕ = key_words key + 6 in
    let a = add_round_key (w n) b in
    let c = inv_shift_rows a in
    unmixed_state w hw (n - 1) (inv_sub_bytes c) (inv_sub_state c (inv_shift_state a (add_state (w n) b (hw n) hb)))
