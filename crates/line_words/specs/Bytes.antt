-- The word of bytes (a form of this project's own): an even number of hex digits of either case, at least two, or a hyphen for no byte.
use Rattle.std.specs.Prelude.{ℕ, ◌==◌, ◌≡◌, ◌<◌, ◌%◌, if◌then◌else◌, List, [], ◌∷◌, length, Option, Some, None, bytes_eq}
use Rattle.std.specs.List.{AllPass}
use Rattle.std.specs.Result.{result_ok}
use Rattle.hex.specs.Hex.{decode_of, is_hex_digit}

-- the hyphen
abbrev pub no_byte : List ℕ
no_byte = 0x2d ∷ []

-- the bytes that a word spells, if it spells any
unfoldable pub bytes_of : List ℕ → Option (List ℕ)
bytes_of word =
    if bytes_eq word no_byte then Some []
    else if length word == 0 then None
    else result_ok (decode_of word)

-- an even number of hex digits, at least two
abbrev pub IsHex : List ℕ → Type 0
IsHex word = (0 < length word) × (length word % 2 ≡ 0) × AllPass is_hex_digit word
