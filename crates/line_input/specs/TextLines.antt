-- Lines of text, which an LF ends each (a form of this project's own).
use Rattle.std.specs.Prelude.{◌≡◌, ◌≢◌, ℕ, List, [], ◌∷◌, ◌++◌}
use Rattle.std.specs.List.{flat_map, AllByRecursion}
use Rattle.line_input.specs.declared.limits.TheConstants.{LINE_FEED}

-- no byte is an LF
abbrev pub HasNoLineFeed : List ℕ → Type 0
HasNoLineFeed bytes = AllByRecursion (λ byte. byte ≢ LINE_FEED) bytes

-- a line, and the LF that ends it
abbrev pub ended_line : List ℕ → List ℕ
ended_line line = line ++ LINE_FEED ∷ []

-- the bytes are these lines, each with its LF, and then a remainder in which no line ends
pub record SplitsInto (bytes : List ℕ) (lines : List (List ℕ)) (remainder : List ℕ) : Type 0 where
  pub ended : bytes ≡ flat_map ended_line lines ++ remainder
  pub lines_whole : AllByRecursion HasNoLineFeed lines
  pub unfinished : HasNoLineFeed remainder

-- two splits of the same bytes have the same lines and the same remainder
abbrev pub SplitsInOneWay : Type 0
SplitsInOneWay = (bytes : List ℕ) (ones others : List (List ℕ)) (remainder left : List ℕ)
    → SplitsInto bytes ones remainder → SplitsInto bytes others left → (ones ≡ others) × (remainder ≡ left)
