-- What a table holds.
use Rattle.std.specs.Prelude.{◌≡◌, ℕ, ◌<◌, List, length, slice_index, replicate}
use Rattle.ghash_core.specs.Number.{number_of, number_power}
use Rattle.ghash_core.specs.Places.{ArePlaces}
use Rattle.ghash_core.specs.declared.place.Place.{Place}
use Rattle.ghash_core.specs.declared.key_table.Table.{Table}

-- the table was filled for the subkey h of 16 bytes: it holds the places of h to h^4, and nothing else
pub record IsFilled (t : Table) (h : List ℕ) : Type 0 where
  pub size : length h ≡ 16
  pub bytes : (i : ℕ) → slice_index h i < 256
  pub first : ArePlaces t.first (number_of h)
  pub second : ArePlaces t.second (number_power (number_of h) 2)
  pub third : ArePlaces t.third (number_power (number_of h) 3)
  pub fourth : ArePlaces t.fourth (number_power (number_of h) 4)

-- sixteen places of zeros
abbrev pub zero_places : List Place
zero_places = replicate 16 (record { high = replicate 16 0; low = replicate 16 0 })

-- all of the table is zero
pub record IsWiped (t : Table) : Type 0 where
  pub first : t.first ≡ zero_places
  pub second : t.second ≡ zero_places
  pub third : t.third ≡ zero_places
  pub fourth : t.fourth ≡ zero_places
