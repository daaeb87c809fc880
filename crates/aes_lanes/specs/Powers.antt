-- Sums of masked bytes in a lane.
use Rattle.std.specs.Prelude.{ℕ, ◌+◌, ◌%◌, List, nat_le, cond, bit_xor, slice_index}

-- y where the highest bit of x is set, else 0
unfoldable pub gate : ℕ → ℕ → ℕ
gate x y = cond (nat_le 128 x) y 0

-- a byte shifted by one place, its highest bit lost
unfoldable pub doubled : ℕ → ℕ
doubled x = (x + x) % 256

-- the sum of the bytes mi where bit i of b7 is set
unfoldable pub chosen : ℕ → ℕ → ℕ → ℕ → ℕ → ℕ → ℕ → ℕ → ℕ → ℕ
chosen b7 m0 m1 m2 m3 m4 m5 m6 m7 =
    let b6 = doubled b7 in
    let b5 = doubled b6 in
    let b4 = doubled b5 in
    let b3 = doubled b4 in
    let b2 = doubled b3 in
    let b1 = doubled b2 in
    let b0 = doubled b1 in
    bit_xor (bit_xor (bit_xor (gate b7 m7) (gate b6 m6)) (bit_xor (gate b5 m5) (gate b4 m4)))
    (bit_xor (bit_xor (gate b3 m3) (gate b2 m2)) (bit_xor (gate b1 m1) (gate b0 m0)))

-- the image of b under the linear map that takes bit i to byte i of m
unfoldable pub linear : List ℕ → ℕ → ℕ
linear m b =
    chosen b (slice_index m 0) (slice_index m 1) (slice_index m 2) (slice_index m 3) (slice_index m 4) (slice_index m 5) (slice_index m 6) (slice_index m 7)
