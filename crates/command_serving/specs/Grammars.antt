-- The grammar of a stream: which commands its bytes make, which faults they show, and how replies are encoded.
use Rattle.std.specs.Prelude.{◌≡◌, ◌≤◌, ◌+◌, ◌++◌, ℕ, List, [], length, Option, Some, None}
use Rattle.std.specs.Option.{option_map}
use Rattle.module_frames.specs.CommandFrames.{CommandFrame}
use Rattle.module_frames.specs.ReplyFrames.{ReplyFrame}

pub record Grammar : Type 1 where
  -- the bytes are whole units, and these are their commands: a unit makes one command or none
  pub Encodes : List ℕ → List CommandFrame → Type 0
  -- the bytes begin with no whole unit
  pub BeginsNoUnit : List ℕ → Type 0
  -- the number of the first fault that the bytes show, counted from their beginning
  pub first_fault : List ℕ → Option ℕ
  -- by how much these bytes move the start from which the faults behind them are counted
  pub advance : List ℕ → ℕ
  -- what the bytes of a source are read as once it has ended, since its end may complete a unit
  pub at_end : List ℕ → List ℕ
  -- the bytes that are written for a reply
  pub reply_encoding : ReplyFrame → List ℕ

-- the bytes are whole units with these commands, and then a remainder with which no whole unit begins
pub record IsParse (grammar : Grammar) (bytes : List ℕ) (commands : List CommandFrame) (remainder : List ℕ) : Type 0 where
  pub front : List ℕ
  pub whole : bytes ≡ front ++ remainder
  pub encoded : grammar.Encodes front commands
  pub unfinished : grammar.BeginsNoUnit remainder

-- the number in the stream of the first fault that a remainder shows, whose faults are counted on from this start
abbrev pub fault_number : Grammar → ℕ → List ℕ → Option ℕ
fault_number grammar start remainder = option_map (λ number. start + number) (grammar.first_fault remainder)

-- the end of the source is read as these bytes
abbrev pub IsEndMark : Grammar → List ℕ → Type 0
IsEndMark grammar mark = (bytes : List ℕ) → grammar.at_end bytes ≡ bytes ++ mark

-- what a grammar keeps to
pub record IsLawful (grammar : Grammar) : Type 0 where
  -- no byte is no unit, begins none and shows no fault
  pub nothing : grammar.Encodes [] []
  pub nothing_begun : grammar.BeginsNoUnit []
  pub nothing_wrong : grammar.first_fault [] ≡ None
  -- units behind units are units
  pub both : (a b : List ℕ) (first more : List CommandFrame) → grammar.Encodes a first → grammar.Encodes b more → grammar.Encodes (a ++ b) (first ++ more)
  -- a fault stays the first one, however the bytes go on, and they begin with no whole unit
  pub fault_stays : (bytes more : List ℕ) (number : ℕ) → grammar.first_fault bytes ≡ Some number → grammar.first_fault (bytes ++ more) ≡ Some number
  pub fault_begins_no_unit : (bytes : List ℕ) (number : ℕ) → grammar.first_fault bytes ≡ Some number → grammar.BeginsNoUnit bytes
  -- bytes move the start by the sum of what their parts do, and by at most one each
  pub advance_both : (a b : List ℕ) → grammar.advance (a ++ b) ≡ grammar.advance a + grammar.advance b
  pub advance_within : (a : List ℕ) → grammar.advance a ≤ length a
  -- the end of the source is read as some bytes
  pub mark : List ℕ
  pub is_mark : IsEndMark grammar mark
  -- bytes parse in one way
  pub one_way : (bytes : List ℕ) (ones others : List CommandFrame) (remainder left : List ℕ) → IsParse grammar bytes ones remainder → IsParse grammar bytes others left
      → (ones ≡ others) × (remainder ≡ left)
