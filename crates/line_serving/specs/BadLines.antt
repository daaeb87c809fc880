-- The line that tells of a bad line (a form of this project's own).
use Rattle.std.specs.Prelude.{◌++◌, ℕ, List, [], ◌∷◌, codes}
use Rattle.std.specs.Fmt.{decimal}
use Rattle.line_input.specs.declared.limits.TheConstants.{LINE_FEED}

-- the words and the line's number in decimal digits, and an LF
abbrev pub bad_line_text : ℕ → List ℕ
bad_line_text number = codes "bad line " ++ (decimal number ++ LINE_FEED ∷ [])
