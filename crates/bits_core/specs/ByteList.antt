-- Lists of bytes.
use Rattle.std.specs.Prelude.{ℕ, ◌-◌, ◌<◌, List, [], ◌∷◌, ◌++◌, length, replicate, bit_xor, slice_index}

-- each number is a byte; past the end `slice_index` is 0
abbrev pub IsBytes : List ℕ → Type 0
IsBytes xs = (n : ℕ) → slice_index xs n < 256

-- n zero bytes
abbrev pub zeros : ℕ → List ℕ
zeros n = replicate n 0

-- bytes with zeros after them up to a length of n
abbrev pub zero_padded : ℕ → List ℕ → List ℕ
zero_padded n bytes = bytes ++ zeros (n - length bytes)

-- the sum of two lists bit by bit
abbrev pub xor_bytes : List ℕ → List ℕ → List ℕ
xor_bytes [] ys = []
xor_bytes (x ∷ xs) [] = []
xor_bytes (x ∷ xs) (y ∷ ys) = bit_xor x y ∷ xor_bytes xs ys
