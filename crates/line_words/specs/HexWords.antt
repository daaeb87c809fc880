-- What a word of bytes shows.
use Rattle.std.specs.Prelude.{ℕ, List, []}
use Rattle.std.specs.Option.{unwrap_or}
use Rattle.line_words.specs.Bytes.{bytes_of}

-- the bytes that a word spells; none where it spells none
abbrev pub spelled : List ℕ → List ℕ
spelled word = unwrap_or (bytes_of word) []
