-- The file of an image's digest (a form of this project's own): 64 hex digits of either case, and at most one LF behind them.
use Rattle.std.specs.Prelude.{ℕ, ◌-◌, List, [], ◌∷◌, Option, if◌then◌else◌, bytes_eq, length, take, drop}
use Rattle.std.specs.Result.{result_ok}
use Rattle.hex.specs.Hex.{decode_sized}

-- a text without one LF at its end
abbrev pub digits_of : List ℕ → List ℕ
digits_of text = if bytes_eq (drop (length text - 1) text) (10 ∷ []) then take (length text - 1) text else text

-- The 32 bytes that the digits of a text spell. None where the text isn't of the form.
abbrev pub digest_of : List ℕ → Option (List ℕ)
digest_of text = result_ok (decode_sized (digits_of text) 32)
