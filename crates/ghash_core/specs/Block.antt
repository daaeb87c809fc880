-- The product of blocks and GHASH, after SP 800-38D, sections 6.3 and 6.4.
-- A block is a list of 128 bits, leftmost first; the leftmost is the coefficient of x^0.
use Rattle.std.specs.Prelude.{ℕ, ◌+◌, ◌/◌, ◌%◌, ◌^◌, ◌++◌, nat_eq, zero, suc, Bool, true, false, cond, not, List, [], ◌∷◌, length, take, drop, get_or, replicate, if◌then◌else◌}

-- the lowest k bits of n, the highest first
unfoldable pub bits : ℕ → ℕ → List Bool
bits zero n = []
bits (suc k) n = nat_eq (n / 2 ^ k % 2) 1 ∷ bits k n

-- bytes as bits, each byte's highest first
unfoldable pub block_of : List ℕ → List Bool
block_of [] = []
block_of (b ∷ bytes) = bits 8 b ++ block_of bytes

-- the number that bits spell, the first the highest
unfoldable pub value_of_bits : List Bool → ℕ
value_of_bits [] = 0
value_of_bits (b ∷ bs) = (if b then 2 ^ length bs else 0) + value_of_bits bs

-- the first n bytes of bits
unfoldable pub first_bytes : ℕ → List Bool → List ℕ
first_bytes zero bs = []
first_bytes (suc n) bs = value_of_bits (take 8 bs) ∷ first_bytes n (drop 8 bs)

-- a block as its 16 bytes
unfoldable pub bytes_of : List Bool → List ℕ
bytes_of block = first_bytes 16 block

-- the sum of two bits
abbrev pub plus_bit : Bool → Bool → Bool
plus_bit false y = y
plus_bit true y = not y

-- the sum of two blocks, bit by bit
unfoldable pub plus : List Bool → List Bool → List Bool
plus [] ys = []
plus (x ∷ xs) [] = []
plus (x ∷ xs) (y ∷ ys) = plus_bit x y ∷ plus xs ys

-- the zero block
unfoldable pub zero_block : List Bool
zero_block = replicate 128 false

-- the block of the polynomial 1: a one and 127 zeros
unfoldable pub one_block : List Bool
one_block = true ∷ replicate 127 false

-- R (6.3): 11100001 and 120 zeros
unfoldable pub reduction : List Bool
reduction = true ∷ true ∷ true ∷ false ∷ false ∷ false ∷ false ∷ true ∷ replicate 120 false

-- the product by x (6.3): shifted right by one, and where a one fell out, R is added
unfoldable pub by_x : List Bool → List Bool
by_x v = cond (get_or v 127 false) (plus (false ∷ take 127 v) reduction) (false ∷ take 127 v)

-- the product (6.3): the sum of v times x^i over the ones of the first block, i its place
unfoldable pub product : List Bool → List Bool → List Bool
product [] v = zero_block
product (b ∷ bs) v = plus (cond b v zero_block) (product bs (by_x v))

-- H^n
unfoldable pub power : List Bool → ℕ → List Bool
power h zero = one_block
power h (suc n) = product (power h n) h

-- GHASH of X1 to Xm (6.4): the sum of Xi times H^(m + 1 - i)
unfoldable pub ghash : List Bool → List (List Bool) → List Bool
ghash h [] = zero_block
ghash h (x ∷ xs) = plus (product x (power h (length (x ∷ xs)))) (ghash h xs)

-- what a running value is after the blocks X1 to Xm: it times H^m, plus their GHASH
unfoldable pub absorbed : List Bool → List Bool → List (List Bool) → List Bool
absorbed h acc xs = plus (product acc (power h (length xs))) (ghash h xs)

-- the first n blocks of bytes, the last padded with zeros
unfoldable pub first_blocks : ℕ → List ℕ → List (List Bool)
first_blocks zero bytes = []
first_blocks (suc n) bytes = block_of (take 16 (bytes ++ replicate 16 0)) ∷ first_blocks n (drop 16 bytes)

-- the number of blocks that n bytes begin
unfoldable pub blocks_in : ℕ → ℕ
blocks_in n = (n + 15) / 16

-- bytes as blocks, the last padded with zeros
unfoldable pub blocks_of : List ℕ → List (List Bool)
blocks_of bytes = first_blocks (blocks_in (length bytes)) bytes
