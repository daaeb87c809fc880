-- Where a line's first word ends.
use Rattle.std.specs.Prelude.{ℕ, suc, ◌==◌, if◌then◌else◌, List, [], ◌∷◌}

-- the bytes before the first space
abbrev pub word_length : List ℕ → ℕ
word_length [] = 0
word_length (byte ∷ line) = if byte == 0x20 then 0 else suc (word_length line)
