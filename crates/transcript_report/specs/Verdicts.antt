-- The verdict on the bytes of a transcript, and its text (a form of this project's own).
use Rattle.std.specs.Prelude.{◌≡◌, ◌≢◌, ◌≤◌, ◌<◌, ◌+◌, ◌++◌, ℕ, Bool, true, false, List, [], length, take, codes, decimal}
use Rattle.module_frames.specs.PublicState.{unpowered}
use Rattle.stream_calls.specs.declared.limits.TheConstants.{STREAM_MAX}
use Rattle.transcript_check.specs.Transcripts.{IsLawful, IsFirstUnlawful}
use Rattle.transcript_pairs.specs.PairStreams.{Recorded, ParsesIntoPairs, ShowsFault, ShowsNoFault, pairs_of}
use Rattle.transcript_report.specs.declared.checking.Checked.{Checked}
use Rattle.transcript_report.specs.declared.checking.Checked.TheVariants as checked

-- what is written of a lawful transcript with so many pairs
abbrev pub lawful_text : ℕ → List ℕ
lawful_text count = codes "lawful " ++ (decimal count ++ codes "\n")

-- what is written where the pair of this number is the first that isn't lawful
abbrev pub pair_text : ℕ → List ℕ
pair_text number = codes "pair " ++ (decimal number ++ codes "\n")

-- the bytes parse into these pairs, which are lawful, and this remainder, which shows no fault
pub record IsLawfulSoFar (bytes : List ℕ) (recorded : List Recorded) (remainder : List ℕ) : Type 0 where
  pub parses : ParsesIntoPairs bytes recorded remainder
  pub lawful : IsLawful (pairs_of recorded)
  pub no_fault : ShowsNoFault remainder

-- The bytes begin with whole pairs, of which that of this number is the first that isn't lawful. What stands behind them doesn't count.
pub record ShowsUnlawful (bytes : List ℕ) (number : ℕ) : Type 0 where
  pub front : List ℕ
  pub more : List ℕ
  pub whole : bytes ≡ front ++ more
  pub recorded : List Recorded
  pub parses : ParsesIntoPairs front recorded []
  pub unlawful : IsFirstUnlawful unpowered number (pairs_of recorded)

-- The bytes parse into lawful pairs and a remainder, and that shows its first fault, which is at this place in the bytes.
pub record ShowsBadFrame (bytes : List ℕ) (place : ℕ) : Type 0 where
  pub recorded : List Recorded
  pub remainder : List ℕ
  pub parses : ParsesIntoPairs bytes recorded remainder
  pub lawful : IsLawful (pairs_of recorded)
  pub within : ℕ
  pub fault : ShowsFault remainder within
  pub placed : place + length remainder ≡ length bytes + within

-- what bytes come to, behind which the source has ended or not, and the text of that
abbrev pub ComesTo : (bytes : List ℕ) → (ended : Bool) → Checked → (text : List ℕ) → Type 0
ComesTo bytes ended checked.Lawful text = (recorded : List Recorded) × IsLawfulSoFar bytes recorded [] × (ended ≡ true) × (text ≡ lawful_text (length recorded))
ComesTo bytes ended (checked.Unlawful number) text = ShowsUnlawful bytes number × (text ≡ pair_text number)
ComesTo bytes ended (checked.BadFrame place) text = ShowsBadFrame bytes place × (text ≡ [])
ComesTo bytes ended checked.Truncated text = (recorded : List Recorded) × (remainder : List ℕ) × IsLawfulSoFar bytes recorded remainder × (remainder ≢ []) × (ended ≡ true) × (text ≡ [])
-- no bytes by themselves are a fault of the source or the sink
ComesTo bytes ended checked.ReadFault text = ⊥
ComesTo bytes ended checked.WriteFault text = ⊥
ComesTo bytes ended checked.Limit text = (recorded : List Recorded) × (remainder : List ℕ) × IsLawfulSoFar bytes recorded remainder × (ended ≡ false) × (text ≡ [])

-- The verdict on the bytes of a transcript and its text: on fewer than 2^40 bytes as they are once the source has ended, on more that on the
-- first 2^40.
pub record IsVerdict (bytes : List ℕ) (answer : Checked) (text : List ℕ) : Type 0 where
  pub short : length bytes < STREAM_MAX → ComesTo bytes true answer text
  pub too_long : STREAM_MAX ≤ length bytes → ComesTo (take STREAM_MAX bytes) false answer text
