-- Bytes split into lines and a remainder, and how they do in two parts.
use Rattle.std.proofs.Common.{◌≡◌, ◌≢◌, ◌<◌, ◌≤◌, ◌+◌, ◌⊎◌, inl, inr, ℕ, Bool, true, false, List, [], ◌∷◌, ◌++◌, append_assoc, append-nil, refl, sym, ◌∙◌, ap, subst, length, length-append, arith, rules}
use Rattle.std.proofs.lemmas.Bool.{cases_eq}
use Rattle.std.proofs.lemmas.Grind.{flat_map-append}
use Rattle.std.specs.List.{flat_map, AllByRecursion}
use Rattle.line_input.specs.declared.limits.TheConstants.{LARGEST_LINE, LINE_FEED}
use Rattle.line_input.specs.TextLines.{HasNoLineFeed, ended_line, SplitsInto}
use Rattle.line_input.specs.HeldLines.{BeginsTooLong, IsLineText}
use Rattle.line_input.proofs.LineFeeds.{no_feed_both}
use Rattle.vector_reports.specs.Findings.{is_too_long}
use Rattle.vector_reports.specs.VectorReports.{remainder_lines}

lines_both : (a b : List (List ℕ)) → AllByRecursion HasNoLineFeed a → AllByRecursion HasNoLineFeed b → AllByRecursion HasNoLineFeed (a ++ b)
lines_both [] b h k = k
lines_both (line ∷ a) b h k = (h.0, lines_both a b h.1 k)

-- bytes that were held and a chunk, and then another chunk
pub split_both : (held a mid b remainder : List ℕ) (lines more : List (List ℕ)) → SplitsInto (held ++ a) lines mid → SplitsInto (mid ++ b) more remainder
    → SplitsInto (held ++ (a ++ b)) (lines ++ more) remainder
split_both held a mid b remainder lines more first second = record {
  ended = sym (append_assoc held a b) ∙ ap (λ xs. xs ++ b) first.ended ∙ append_assoc (flat_map ended_line lines) mid b ∙ ap (λ xs. flat_map ended_line lines ++ xs) second.ended
      ∙ sym (append_assoc (flat_map ended_line lines) (flat_map ended_line more) remainder) ∙ ap (λ xs. xs ++ remainder) (sym (flat_map-append ended_line lines more));
  lines_whole = lines_both lines more first.lines_whole second.lines_whole;
  unfinished = second.unfinished;
}

-- a line, and what is behind its LF
pub split_line : (line more remainder : List ℕ) (lines : List (List ℕ)) → HasNoLineFeed line → SplitsInto more lines remainder → SplitsInto (ended_line line ++ more) (line ∷ lines) remainder
split_line line more remainder lines no_feed behind = record {
  ended = ap (λ xs. ended_line line ++ xs) behind.ended ∙ sym (append_assoc (ended_line line) (flat_map ended_line lines) remainder);
  lines_whole = (no_feed, behind.lines_whole);
  unfinished = behind.unfinished;
}

-- bytes without an LF
pub split_none : (bytes : List ℕ) → HasNoLineFeed bytes → SplitsInto bytes [] bytes
split_none bytes no_feed = record { ended = refl; lines_whole = tt; unfinished = no_feed }

-- bytes without an LF in front of others make their first line longer
pub split_front : (front line more remainder : List ℕ) (lines : List (List ℕ)) → HasNoLineFeed front → SplitsInto more (line ∷ lines) remainder → SplitsInto (front ++ more) ((front ++ line) ∷ lines) remainder
split_front front line more remainder lines no_feed behind = record {
  ended = ap (λ xs. front ++ xs) behind.ended
      ∙ sym (append_assoc front (ended_line line ++ flat_map ended_line lines) remainder)
      ∙ ap (λ xs. xs ++ remainder) (sym (append_assoc front (ended_line line) (flat_map ended_line lines)))
      ∙ ap (λ xs. (xs ++ flat_map ended_line lines) ++ remainder) (sym (append_assoc front line (LINE_FEED ∷ [])));
  lines_whole = (no_feed_both front line no_feed behind.lines_whole.0, behind.lines_whole.1);
  unfinished = behind.unfinished;
}

-- bytes without an LF in front of others of which no line ends
pub split_begun : (front more remainder : List ℕ) → HasNoLineFeed front → SplitsInto more [] remainder → SplitsInto (front ++ more) [] (front ++ remainder)
split_begun front more remainder no_feed behind = record {
  ended = ap (λ xs. front ++ xs) behind.ended;
  lines_whole = tt;
  unfinished = no_feed_both front remainder no_feed behind.unfinished;
}

-- lines and a remainder
pub record Split (bytes : List ℕ) : Type 0 where
  pub lines : List (List ℕ)
  pub remainder : List ℕ
  pub splits : SplitsInto bytes lines remainder

one_byte : (byte : ℕ) (bytes : List ℕ) → byte ≢ LINE_FEED → (lines : List (List ℕ)) (remainder : List ℕ) → SplitsInto bytes lines remainder → Split (byte ∷ bytes)
one_byte byte bytes no_feed [] remainder behind =
    record { lines = []; remainder = byte ∷ remainder; splits = split_begun (byte ∷ []) bytes remainder (no_feed, tt) behind }
one_byte byte bytes no_feed (line ∷ lines) remainder behind =
    record { lines = (byte ∷ line) ∷ lines; remainder = remainder; splits = split_front (byte ∷ []) line bytes remainder lines (no_feed, tt) behind }

-- all bytes split
pub split_of : (bytes : List ℕ) → Split bytes
split_of [] = record { lines = []; remainder = []; splits = split_none [] tt }
split_of (byte ∷ bytes) =
    let behind = split_of bytes in
    elim (cases_eq byte LINE_FEED) [
      | inl feed ↦ record { lines = [] ∷ behind.lines; remainder = behind.remainder; splits = rw feed (split_line [] bytes behind.remainder behind.lines tt behind.splits) }
      | inr other ↦ one_byte byte bytes other behind.lines behind.remainder behind.splits
    ]

-- the first line of bytes is too long
pub record FirstTooLong (ended : Bool) (bytes : List ℕ) : Type 0 where
  pub whole_lines : List (List ℕ)
  pub remainder : List ℕ
  pub split : SplitsInto bytes whole_lines remainder
  pub line : List ℕ
  pub more : List (List ℕ)
  pub parts : whole_lines ++ remainder_lines ended remainder ≡ line ∷ more
  pub too_long : is_too_long line ≡ true

long_one : (line : List ℕ) → LARGEST_LINE < length line → is_too_long line ≡ true
long_one line many = search rules

long_remainder : (ended : Bool) (line : List ℕ) → is_too_long line ≡ true → remainder_lines ended line ≡ line ∷ []
long_remainder true [] long = cc
long_remainder true (byte ∷ line) long = refl
long_remainder false line long = rw long refl

too_long_by : (ended : Bool) (front more remainder : List ℕ) (lines : List (List ℕ)) → HasNoLineFeed front → LARGEST_LINE < length front → SplitsInto more lines remainder → FirstTooLong ended (front ++ more)
too_long_by ended front more remainder [] no_feed many behind =
    let long = long_one (front ++ remainder) (omega (arith, many, length-append front remainder)) in
    record {
      whole_lines = [];
      remainder = front ++ remainder;
      split = split_begun front more remainder no_feed behind;
      line = front ++ remainder;
      more = [];
      parts = long_remainder ended (front ++ remainder) long;
      too_long = long;
    }
too_long_by ended front more remainder (line ∷ lines) no_feed many behind = record {
  whole_lines = (front ++ line) ∷ lines;
  remainder = remainder;
  split = split_front front line more remainder lines no_feed behind;
  line = front ++ line;
  more = lines ++ remainder_lines ended remainder;
  parts = refl;
  too_long = long_one (front ++ line) (omega (arith, many, length-append front line));
}

-- bytes that begin with too many before any LF
pub too_long_first : (ended : Bool) (bytes : List ℕ) → BeginsTooLong bytes → FirstTooLong ended bytes
too_long_first ended bytes begins =
    let behind = split_of begins.more in
    subst (λ xs. FirstTooLong ended xs) (sym begins.parts) (too_long_by ended begins.front begins.more behind.remainder behind.lines begins.no_feed begins.many behind.splits)

-- the beginning of a line is no line yet
pub no_remainder_line : (held : List ℕ) → IsLineText held → remainder_lines false held ≡ []
no_remainder_line held text =
    let short : is_too_long held ≡ false = (let within = text.within in search rules) in
    rw short refl

-- an LF stands in an ended line
feed_in_line : (line : List ℕ) → HasNoLineFeed (ended_line line) → ⊥
feed_in_line [] h = h.0 refl
feed_in_line (byte ∷ line) h = feed_in_line line h.1

-- a piece that ends a line isn't empty
pub some_taken : (held line piece : List ℕ) → HasNoLineFeed held → held ++ piece ≡ ended_line line → 0 < length piece
some_taken held line [] no_feed whole =
    absurd (feed_in_line line (let P : List ℕ → Type 0 = λ xs. HasNoLineFeed xs in subst P (sym (append-nil held) ∙ whole) no_feed))
some_taken held line (byte ∷ piece) no_feed whole = omega arith
