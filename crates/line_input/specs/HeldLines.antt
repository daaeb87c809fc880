-- What a reader of lines holds, and what it answers to a piece.
use Rattle.std.specs.Prelude.{◌≡◌, ◌≤◌, ◌<◌, ℕ, List, [], ◌++◌, length, take, Bool, true, false}
use Rattle.line_input.specs.declared.limits.TheConstants.{LARGEST_LINE}
use Rattle.line_input.specs.declared.lines.LineFed.{LineFed}
use Rattle.line_input.specs.declared.lines.LineFed.TheVariants as fed
use Rattle.line_input.specs.TextLines.{HasNoLineFeed, ended_line}

-- the bytes held of a line, without its LF; whether the line is whole; and whether a line was too long, of which no byte is held
pub record HeldLine : Type 0 where
  pub text : List ℕ
  pub whole : Bool
  pub too_long : Bool

abbrev pub no_line : HeldLine
no_line = record { text = []; whole = false; too_long = false }

abbrev pub refused_line : HeldLine
refused_line = record { text = []; whole = false; too_long = true }

-- no byte is held; that a line was too long stays
abbrev pub cleared_line : HeldLine → HeldLine
cleared_line old = record { text = []; whole = false; too_long = old.too_long }

-- a line may be this, or begin so
pub record IsLineText (text : List ℕ) : Type 0 where
  pub no_feed : HasNoLineFeed text
  pub within : length text ≤ LARGEST_LINE

-- more bytes than a line has stand in front of any LF
pub record BeginsTooLong (bytes : List ℕ) : Type 0 where
  pub front : List ℕ
  pub more : List ℕ
  pub parts : bytes ≡ front ++ more
  pub no_feed : HasNoLineFeed front
  pub many : LARGEST_LINE < length front

-- what is answered to a piece before any line was too long, and what is held then
abbrev pub FeedsPiece : HeldLine → List ℕ → LineFed → HeldLine → Type 0
-- all was taken, and the line may go on
FeedsPiece old piece fed.More new = (new ≡ record old { text = old.text ++ piece }) × IsLineText new.text
-- so many bytes were taken, and with them the line is whole
FeedsPiece old piece (fed.Whole count) new =
    (count ≤ length piece) × (old.text ++ take count piece ≡ ended_line new.text) × IsLineText new.text
    × (new ≡ record old { text = new.text; whole = true })
-- the line is too long, and none of it is held
FeedsPiece old piece fed.TooLong new = BeginsTooLong (old.text ++ piece) × (new ≡ refused_line)

-- what is answered to a piece, and what is held then: once a line was too long, that is answered for good
pub record Feeds (old : HeldLine) (piece : List ℕ) (answer : LineFed) (new : HeldLine) : Type 0 where
  pub before : old.too_long ≡ false → FeedsPiece old piece answer new
  pub after : old.too_long ≡ true → (answer ≡ fed.TooLong) × (new ≡ old)

-- a whole line stands after this answer, and no more was taken than there is; or none stands
abbrev pub StandsAfter : List ℕ → LineFed → Bool → Type 0
StandsAfter piece fed.More stands = stands ≡ false
StandsAfter piece (fed.Whole count) stands = (stands ≡ true) × (count ≤ length piece)
StandsAfter piece fed.TooLong stands = stands ≡ false
