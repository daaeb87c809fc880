-- How far the check of a transcript has come, and what was found.
use Rattle.std.specs.Prelude.{◌≡◌, ◌<◌, ◌+◌, ℕ, List, [], length, Bool, Option, None, Some}
use Rattle.outside.specs.Contents.{Consumes}
use Rattle.module_frames.specs.PublicState.{unpowered}
use Rattle.module_frames.specs.declared.public_state.PublicState.{PublicState}
use Rattle.stream_calls.specs.declared.limits.TheConstants.{STREAM_MAX}
use Rattle.transcript_check.specs.Transcripts.{Pair, IsWalk}
use Rattle.transcript_check.specs.Checking.{Answers}
use Rattle.transcript_pairs.specs.PairStreams.{HasCome, HeldPair, IsWholePair, ParsesIntoPairs, Recorded, ShowsNoFault, pairs_of}
use Rattle.transcript_report.specs.Verdicts.{IsLawfulSoFar, lawful_text, pair_text}
use Rattle.transcript_report.specs.declared.checking.Checked.{Checked}
use Rattle.transcript_report.specs.declared.checking.Checked.TheVariants as checked

-- With these bytes taken: where the walk through their pairs is, how many pairs they are, and what is held of the next one.
pub record CheckedSoFar (taken : List ℕ) (walk : Option PublicState) (count : ℕ) (held : HeldPair) : Type 0 where
  pub recorded : List Recorded
  pub remainder : List ℕ
  pub parses : ParsesIntoPairs taken recorded remainder
  pub sound : ShowsNoFault remainder
  pub public : PublicState
  pub goes_on : walk ≡ Some public
  pub walked : IsWalk unpowered (pairs_of recorded) public
  pub counted : count ≡ length recorded
  pub came : HasCome held remainder
  pub no_fault : held.fault ≡ None
  pub begins : held.start + length remainder ≡ length taken

-- the checker was asked of the pair that stood
abbrev pub AnswersPair : Option PublicState → HeldPair → (answer : Bool) → Option PublicState → Type 0
AnswersPair walk held answer after = (pair : Pair) × IsWholePair pair held × Answers walk pair answer after

-- the text of a verdict, by how many pairs were checked
abbrev pub text_of : Checked → ℕ → List ℕ
text_of checked.Lawful count = lawful_text count
text_of (checked.Unlawful number) count = pair_text number
text_of (checked.BadFrame place) count = []
text_of checked.Truncated count = []
text_of checked.ReadFault count = []
text_of checked.WriteFault count = []
text_of checked.Limit count = []

-- a read failed, and the bytes taken show neither an unlawful pair nor a fault
pub record ReadCutOff (before after : Option (List ℕ)) : Type 0 where
  pub taken : List ℕ
  pub recorded : List Recorded
  pub remainder : List ℕ
  pub consumes : Consumes before taken after
  pub so_far : IsLawfulSoFar taken recorded remainder
  pub below_limit : length taken < STREAM_MAX
