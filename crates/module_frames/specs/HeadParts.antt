-- What the end of a reply's head tells.
use Rattle.std.specs.Prelude.{◌≡◌, ◌≢◌, ◌≤◌, ◌<◌, ◌^◌, ℕ, List, length, take, drop, slice_index, Option, None, Some}
use Rattle.std.specs.Option.{MatchOption}
use Rattle.std.specs.Int.{to_be_bytes, w32}

-- the bytes are of this version, and of as many bytes as its head has, with this sequence number at the head's end or with none
abbrev pub EndsWithSequence : List ℕ → Option ℕ → Type 0
EndsWithSequence bytes None = slice_index bytes 1 ≡ 0x01
EndsWithSequence bytes (Some number) = (slice_index bytes 1 ≡ 0x02) × (28 ≤ length bytes) × (number < 2 ^ 32) × (to_be_bytes w32 number ≡ take 4 (drop 24 bytes))

-- the bytes have neither version, or are fewer than a head of version 2 has
abbrev pub HasNoSequence : List ℕ → Type 0
HasNoSequence bytes = (slice_index bytes 1 ≢ 0x01) × (slice_index bytes 1 ≡ 0x02 → length bytes < 28)

abbrev pub ReadsSequence : List ℕ → Option (Option ℕ) → Type 0
ReadsSequence bytes answer = MatchOption answer (HasNoSequence bytes) (λ sequence. EndsWithSequence bytes sequence)
