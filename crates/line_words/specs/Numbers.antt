-- The word of a number: its decimal digits, with no sign and no leading zero, as std prints it.
use Rattle.std.specs.Prelude.{ℕ, ◌≡◌, ◌≤◌, ◌<◌, List, length, slice_index}
use Rattle.std.specs.Char.{is_ascii_digit}
use Rattle.std.specs.List.{AllPass}
use Rattle.std.specs.Fmt.{decimal}

-- the word spells the number, which is no more than the most that is allowed
abbrev pub IsNumberWord : ℕ → List ℕ → ℕ → Type 0
IsNumberWord most word number = (word ≡ decimal number) × (number ≤ most)

-- one decimal digit or more, with no leading zero
abbrev pub IsCanonical : List ℕ → Type 0
IsCanonical word = (0 < length word) × AllPass is_ascii_digit word × (slice_index word 0 ≡ 48 → length word ≡ 1)
