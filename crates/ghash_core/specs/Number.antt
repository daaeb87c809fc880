-- Blocks as numbers below 2 ^ 128, the highest bit the coefficient of x^0: what the code computes with.
use Rattle.std.specs.Prelude.{◌≡◌, ℕ, zero, suc, ◌/◌, ◌%◌, ◌^◌, ◌<◌, List, [], ◌∷◌, ◌++◌, length, take, drop, replicate, bit_xor, slice_index}
use Rattle.std.specs.Int.{w128, from_be_bytes}

-- R: 11100001 and 120 zeros
unfoldable pub r_number : ℕ
r_number = 0xe1000000000000000000000000000000

-- c times v, for a bit c
abbrev pub when : ℕ → ℕ → ℕ
when zero v = 0
when (suc c) v = v

-- the product by x
unfoldable pub shift_by_x : ℕ → ℕ
shift_by_x v = bit_xor (v / 2) (when (v % 2) r_number)

-- the lowest k bits, most significant first, as 0 and 1
unfoldable pub digits : ℕ → ℕ → List ℕ
digits zero n = []
digits (suc k) n = (n / 2 ^ k % 2) ∷ digits k n

-- the sum of v times x^i over the ones of the digits, i their place
unfoldable pub digits_product : List ℕ → ℕ → ℕ
digits_product [] v = 0
digits_product (b ∷ bs) v = bit_xor (when b v) (digits_product bs (shift_by_x v))

-- the product of two numbers below 2 ^ 128
unfoldable pub number_product : ℕ → ℕ → ℕ
number_product a b = digits_product (digits 128 a) b

-- h^n
unfoldable pub number_power : ℕ → ℕ → ℕ
number_power h zero = 2 ^ 127
number_power h (suc n) = number_product (number_power h n) h

-- the sum of xi times h^(m + 1 - i)
unfoldable pub number_ghash : ℕ → List ℕ → ℕ
number_ghash h [] = 0
number_ghash h (x ∷ xs) = bit_xor (number_product x (number_power h (suc (length xs)))) (number_ghash h xs)

-- the running value: each block is added, and the sum multiplied by h
unfoldable pub horner : ℕ → ℕ → List ℕ → ℕ
horner h acc [] = acc
horner h acc (x ∷ xs) = horner h (number_product (bit_xor acc x) h) xs

-- a block as a number, its first bit the highest
unfoldable pub number_of : List ℕ → ℕ
number_of block = from_be_bytes w128 block

-- the first n blocks of bytes, zero-padded, as numbers
unfoldable pub numbers : ℕ → List ℕ → List ℕ
numbers zero bytes = []
numbers (suc n) bytes = number_of (take 16 (bytes ++ replicate 16 0)) ∷ numbers n (drop 16 bytes)

-- v times x^n
unfoldable pub shift_by : ℕ → ℕ → ℕ
shift_by zero v = v
shift_by (suc n) v = shift_by n (shift_by_x v)

-- table holds the product of each number of four bits by h
abbrev pub AreMultiples : List ℕ → ℕ → Type 0
AreMultiples table h = (n : ℕ) → n < 16 → slice_index table n ≡ digits_product (digits 4 n) h
