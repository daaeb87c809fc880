-- What a failed write leaves.
use Rattle.std.specs.Prelude.{◌<◌, ℕ, List, length, take, Option}
use Rattle.outside.specs.Contents.{Appends}

-- where a content is told, a part of these bytes came to its end, and not all of them
abbrev pub AppendsPart : Option (List ℕ) → List ℕ → Option (List ℕ) → Type 0
AppendsPart before piece now = (count : ℕ) × (count < length piece) × Appends before (take count piece) now
