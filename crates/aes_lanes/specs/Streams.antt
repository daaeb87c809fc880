-- The key stream added to part of a text, and its counter blocks by their counts.
use Rattle.std.specs.Prelude.{◌≡◌, ℕ, ◌<◌, ◌≤◌, ◌%◌, ◌^◌, List, ◌++◌, length, map, bit_xor, slice_index}
use Rattle.std.specs.List.{range_with_len}
use Rattle.std.specs.Int.{w32, from_be_bytes, to_be_bytes}
use Rattle.aes_spec.specs.Gctr.{stream_byte}

-- the count in the last four bytes of a block
abbrev pub count_of : List ℕ → ℕ
count_of b = from_be_bytes w32 (map (slice_index b) (range_with_len 12 4))

-- the block b with the count n in its last four bytes
abbrev pub with_count : List ℕ → ℕ → List ℕ
with_count b n = map (slice_index b) (range_with_len 0 12) ++ to_be_bytes w32 (n % 2 ^ 32)

-- new is old plus the key stream at the places from a to b, and old elsewhere
pub record Adds (enciphered : List ℕ → List ℕ) (start old new : List ℕ) (a b : ℕ) : Type 0 where
  pub long : length new ≡ length old
  pub before : (p : ℕ) → p < a → slice_index new p ≡ slice_index old p
  pub added : (p : ℕ) → a ≤ p → p < b → p < length old → slice_index new p ≡ bit_xor (slice_index old p) (stream_byte enciphered start p)
  pub after : (p : ℕ) → b ≤ p → slice_index new p ≡ slice_index old p
