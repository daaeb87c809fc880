-- A fault in an output.
use Rattle.std.specs.Prelude.{ℕ, ◌%◌, ◌^◌, List, [], ◌∷◌, bit_xor}

-- the output with a bit of its first byte turned, 0 the lowest and 7 the highest; an empty one stays empty
abbrev pub turned : ℕ → List ℕ → List ℕ
turned bit [] = []
turned bit (first ∷ rest) = bit_xor first (2 ^ (bit % 8)) ∷ rest
