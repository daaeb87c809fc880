-- Rounds in the tower.
use Rattle.std.specs.Prelude.{◌≡◌, ℕ, ◌<◌, ◌≤◌, List, [], bit_xor, slice_index, slice_index_or}
use Rattle.aes_spec.specs.Aes.{IsState}
use Rattle.aes_lanes.specs.Nibbles.{to_tower, twice_sub, thrice_sub}

-- three times the S-box of x and twice that of y
unfoldable pub gap : ℕ → ℕ → ℕ
gap x y = bit_xor (thrice_sub x) (twice_sub y)

-- byte r of block j
abbrev pub byte : List (List ℕ) → ℕ → ℕ → ℕ
byte v j r = slice_index (slice_index_or v r []) j

-- block j of the state is s in the tower
abbrev pub IsInTower : List (List ℕ) → ℕ → List ℕ → Type 0
IsInTower v j s = (r : ℕ) → r < 16 → byte v j r ≡ to_tower (slice_index s r)

-- the round key k, with the constant of the S-box
abbrev pub IsKeyInTower : List (List ℕ) → ℕ → List ℕ → Type 0
IsKeyInTower v j k = (r : ℕ) → r < 16 → byte v j r ≡ to_tower (bit_xor (slice_index k r) 99)

-- the last round key, with the constant of the S-box, outside the tower
abbrev pub IsLastKey : List (List ℕ) → ℕ → List ℕ → Type 0
IsLastKey v j k = (r : ℕ) → r < 16 → byte v j r ≡ bit_xor (slice_index k r) 99

-- block j of the state is s
abbrev pub IsBlock : List (List ℕ) → ℕ → List ℕ → Type 0
IsBlock v j s = (r : ℕ) → r < 16 → byte v j r ≡ slice_index s r

-- at block j, the round keys w of n rounds
pub record AreKeys (keys : List (List (List ℕ))) (j : ℕ) (w : ℕ → List ℕ) (n : ℕ) : Type 0 where
  pub states : (r : ℕ) → r ≤ n → IsState (w r)
  pub first : IsInTower (slice_index_or keys 0 []) j (w 0)
  pub mixed : (r : ℕ) → 1 ≤ r → r < n → IsKeyInTower (slice_index_or keys r []) j (w r)
  pub last : IsLastKey (slice_index_or keys n []) j (w n)

-- the lanes are the table s in the tower
abbrev pub IsLanes : List ℕ → List ℕ → Type 0
IsLanes v s = (r : ℕ) → r < 16 → slice_index v r ≡ to_tower (slice_index s r)

-- the round key k in lanes, with the constant of the S-box
abbrev pub IsKeyLanes : List ℕ → List ℕ → Type 0
IsKeyLanes v k = (r : ℕ) → r < 16 → slice_index v r ≡ to_tower (bit_xor (slice_index k r) 99)
