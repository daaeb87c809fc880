-- The rounds of AES (FIPS 197, section 5). A state is a table of 4 by 4 bytes, given as the list of its
-- columns: the byte in row r and column c is at r + 4 * c (section 3.4).
use Rattle.std.specs.Prelude.{◌≡◌, ℕ, zero, suc, ◌+◌, ◌-◌, ◌*◌, ◌/◌, ◌%◌, ◌<◌, List, [], ◌∷◌, map, length, bit_xor, slice_index}
use Rattle.std.specs.List.{range_with_len}
use Rattle.aes_spec.specs.Field.{times, sub_byte, inv_sub_byte}

-- a state: sixteen bytes
pub record IsState (s : List ℕ) : Type 0 where
  pub long : length s ≡ 16
  pub small : (n : ℕ) → slice_index s n < 256

-- the byte in row r and column c
abbrev pub at : List ℕ → ℕ → ℕ → ℕ
at s r c = slice_index s (r + 4 * c)

-- the state whose byte in row r and column c is f r c
abbrev pub state_by : (ℕ → ℕ → ℕ) → List ℕ
state_by f = map (λ n. f (n % 4) (n / 4)) (range_with_len 0 16)

-- SUBBYTES() (section 5.1.1)
abbrev pub sub_bytes : List ℕ → List ℕ
sub_bytes s = state_by (λ r c. sub_byte (at s r c))

-- INVSUBBYTES() (section 5.3.2)
abbrev pub inv_sub_bytes : List ℕ → List ℕ
inv_sub_bytes s = state_by (λ r c. inv_sub_byte (at s r c))

-- SHIFTROWS(): row r moves r places to the left (section 5.1.2)
abbrev pub shift_rows : List ℕ → List ℕ
shift_rows s = state_by (λ r c. at s r ((c + r) % 4))

-- INVSHIFTROWS(): row r moves r places to the right (section 5.3.1)
abbrev pub inv_shift_rows : List ℕ → List ℕ
inv_shift_rows s = state_by (λ r c. at s r ((c + 4 - r) % 4))

-- in row r and column k, the matrix of the polynomial m modulo x^4 + 1 (section 4.3)
abbrev pub matrix_entry : List ℕ → ℕ → ℕ → ℕ
matrix_entry m r k = slice_index m ((r + 4 - k) % 4)

abbrev pub sum4 : (ℕ → ℕ) → ℕ
sum4 f = bit_xor (bit_xor (f 0) (f 1)) (bit_xor (f 2) (f 3))

-- the product of the matrix of m with a state
abbrev pub matrix_product : List ℕ → List ℕ → List ℕ
matrix_product m s = state_by (λ r c. sum4 (λ k. times (matrix_entry m r k) (at s k c)))

-- MIXCOLUMNS(): the polynomial {03}x^3 + {01}x^2 + {01}x + {02} (section 5.1.3)
abbrev pub mix_columns : List ℕ → List ℕ
mix_columns s = matrix_product (2 ∷ 1 ∷ 1 ∷ 3 ∷ []) s

-- INVMIXCOLUMNS(): the polynomial {0b}x^3 + {0d}x^2 + {09}x + {0e} (section 5.3.3)
abbrev pub inv_mix_columns : List ℕ → List ℕ
inv_mix_columns s = matrix_product (14 ∷ 9 ∷ 13 ∷ 11 ∷ []) s

-- ADDROUNDKEY() (section 5.1.4)
abbrev pub add_round_key : List ℕ → List ℕ → List ℕ
add_round_key k s = state_by (λ r c. bit_xor (at s r c) (at k r c))

-- the block after the first n rounds with MIXCOLUMNS(), under the round keys w
unfoldable pub mixed_rounds : (ℕ → List ℕ) → ℕ → List ℕ → List ℕ
mixed_rounds w zero s = add_round_key (w 0) s
mixed_rounds w (suc n) s = add_round_key (w (n + 1)) (mix_columns (shift_rows (sub_bytes (mixed_rounds w n s))))

-- CIPHER() of n rounds under the round keys w (section 5.1)
unfoldable pub cipher : (ℕ → List ℕ) → ℕ → List ℕ → List ℕ
cipher w n s = add_round_key (w n) (shift_rows (sub_bytes (mixed_rounds w (n - 1) s)))

-- the block before the first n rounds with MIXCOLUMNS()
unfoldable pub unmixed_rounds : (ℕ → List ℕ) → ℕ → List ℕ → List ℕ
unmixed_rounds w zero s = add_round_key (w 0) s
unmixed_rounds w (suc n) s = unmixed_rounds w n (inv_sub_bytes (inv_shift_rows (inv_mix_columns (add_round_key (w (n + 1)) s))))

-- INVCIPHER() of n rounds under the round keys w (section 5.3)
unfoldable pub inverse_cipher : (ℕ → List ℕ) → ℕ → List ℕ → List ℕ
inverse_cipher w n s = unmixed_rounds w (n - 1) (inv_sub_bytes (inv_shift_rows (add_round_key (w n) s)))
