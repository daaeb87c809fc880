-- The look-ups of the inverse cipher, at each byte.
use Rattle.std.proofs.Common.{◌≡◌, ℕ, ◌<◌, true, refl, bit_xor}
use Rattle.aes_spec.specs.Field.{product, remainder, times, first_from, inverse, byte_of, inv_affine_bit, inv_affine, inv_sub_byte}
use Rattle.aes_spec.proofs.EveryByte.{on_bytes}
use Rattle.aes_lanes.specs.Nibbles.{read, is_place, first_half, second_half, by_nibbles}
use Rattle.aes_lanes.specs.declared.tables.TheConstants.{UNSUB_LOW, UNSUB_HIGH, INVERSE_P, INVERSE_Q, TIMES_9_LOW, TIMES_9_HIGH, TIMES_11_LOW, TIMES_11_HIGH, TIMES_13_LOW, TIMES_13_HIGH, TIMES_14_LOW, TIMES_14_HIGH}
use Rattle.aes_lanes.proofs.Places.{at_bytes}

pub unsub_p_place : (b : ℕ) → b < 256 → is_place (first_half (by_nibbles UNSUB_LOW UNSUB_HIGH b)) ≡ true
unfolding read first_half by_nibbles
unsub_p_place = at_bytes (λ b. is_place (first_half (by_nibbles UNSUB_LOW UNSUB_HIGH b))) refl

pub unsub_q_place : (b : ℕ) → b < 256 → is_place (second_half (by_nibbles UNSUB_LOW UNSUB_HIGH b)) ≡ true
unfolding read second_half by_nibbles
unsub_q_place = at_bytes (λ b. is_place (second_half (by_nibbles UNSUB_LOW UNSUB_HIGH b))) refl

pub inverse_sub_is : (b : ℕ) → b < 256
    → bit_xor (read INVERSE_P (first_half (by_nibbles UNSUB_LOW UNSUB_HIGH b))) (read INVERSE_Q (second_half (by_nibbles UNSUB_LOW UNSUB_HIGH b))) ≡ inv_sub_byte b
unfolding read first_half second_half by_nibbles product remainder times first_from inverse byte_of inv_affine_bit inv_affine inv_sub_byte
inverse_sub_is = on_bytes (λ b. bit_xor (read INVERSE_P (first_half (by_nibbles UNSUB_LOW UNSUB_HIGH b))) (read INVERSE_Q (second_half (by_nibbles UNSUB_LOW UNSUB_HIGH b)))) inv_sub_byte refl

pub times_9_is : (b : ℕ) → b < 256 → by_nibbles TIMES_9_LOW TIMES_9_HIGH b ≡ times 9 b
unfolding read by_nibbles product remainder times
times_9_is = on_bytes (by_nibbles TIMES_9_LOW TIMES_9_HIGH) (times 9) refl

pub times_11_is : (b : ℕ) → b < 256 → by_nibbles TIMES_11_LOW TIMES_11_HIGH b ≡ times 11 b
unfolding read by_nibbles product remainder times
times_11_is = on_bytes (by_nibbles TIMES_11_LOW TIMES_11_HIGH) (times 11) refl

pub times_13_is : (b : ℕ) → b < 256 → by_nibbles TIMES_13_LOW TIMES_13_HIGH b ≡ times 13 b
unfolding read by_nibbles product remainder times
times_13_is = on_bytes (by_nibbles TIMES_13_LOW TIMES_13_HIGH) (times 13) refl

pub times_14_is : (b : ℕ) → b < 256 → by_nibbles TIMES_14_LOW TIMES_14_HIGH b ≡ times 14 b
unfolding read by_nibbles product remainder times
times_14_is = on_bytes (by_nibbles TIMES_14_LOW TIMES_14_HIGH) (times 14) refl
