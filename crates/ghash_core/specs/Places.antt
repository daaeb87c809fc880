-- What the look-ups of a block hold, byte place by byte place.
use Rattle.std.specs.Prelude.{◌≡◌, ℕ, ◌*◌, ◌/◌, ◌%◌, ◌^◌, ◌<◌, List, bit_xor, slice_index, slice_index_or}
use Rattle.ghash_core.specs.ByBytes.{product_byte}
use Rattle.ghash_core.specs.declared.place.Place.{Place}

-- the value at a byte: that of its high half and that of its low half
abbrev pub value_at : Place → ℕ → ℕ
value_at place b = bit_xor (slice_index place.high (b / 16)) (slice_index place.low (b % 16))

-- place k of h: bytes k of the products of h by the blocks whose first byte is n * 16, and n
pub record IsPlace (place : Place) (h k : ℕ) : Type 0 where
  pub high : (n : ℕ) → n < 16 → slice_index place.high n ≡ product_byte h k (n * 16)
  pub low : (n : ℕ) → n < 16 → slice_index place.low n ≡ product_byte h k n

-- the sixteen places of h
pub record ArePlaces (places : List Place) (h : ℕ) : Type 0 where
  pub below : h < 2 ^ 128
  pub each : (k : ℕ) (d : Place) → k < 16 → IsPlace (slice_index_or places k d) h k
