-- What checking a transcript leaves, by its answer.
use Rattle.std.specs.Prelude.{◌≡◌, ◌≤◌, ◌<◌, ◌++◌, ℕ, Bool, true, List, [], length, Option}
use Rattle.outside.specs.Contents.{Consumes, Appends}
use Rattle.outside.specs.Faults.{FaultCounted}
use Rattle.stream_calls.specs.PartialWrites.{AppendsPart}
use Rattle.stream_calls.specs.Streams.{Streams, IsAllOf}
use Rattle.stream_calls.specs.declared.limits.TheConstants.{STREAM_MAX}
use Rattle.transcript_pairs.specs.PairStreams.{Recorded}
use Rattle.transcript_report.specs.Verdicts.{IsLawfulSoFar, ComesTo}
use Rattle.transcript_report.specs.declared.checking.Checked.{Checked}
use Rattle.transcript_report.specs.declared.checking.Checked.TheVariants as checked

-- the source was read to its end
abbrev pub IsReadToEnd : List ℕ → Option (List ℕ) → Type 0
IsReadToEnd taken content = (length taken < STREAM_MAX) × IsAllOf taken content

-- No more than 2^40 bytes were taken, and none was asked for once an unlawful pair or a fault showed: before the last read, of no more bytes
-- than a chunk has, none did.
pub record AskedNoFurther (chunk : ℕ) (taken : List ℕ) : Type 0 where
  pub earlier : List ℕ
  pub last : List ℕ
  pub whole : taken ≡ earlier ++ last
  pub chunk_length : length last ≤ chunk
  pub recorded : List Recorded
  pub remainder : List ℕ
  pub so_far : IsLawfulSoFar earlier recorded remainder
  pub within : length taken ≤ STREAM_MAX

-- these bytes were taken, which come to this answer and text; the source has ended behind them only where it was read to its end
pub record VerdictReached (answer : Checked) (chunk : ℕ) (text : List ℕ) (before after : Option (List ℕ)) : Type 0 where
  pub taken : List ℕ
  pub ended : Bool
  pub consumes : Consumes before taken after
  pub asked : AskedNoFurther chunk taken
  pub at_end : ended ≡ true → IsReadToEnd taken before
  pub at_limit : answer ≡ checked.Limit → length taken ≡ STREAM_MAX
  pub comes_to : ComesTo taken ended answer text

-- the verdict was written
abbrev pub VerdictWritten : Checked → ℕ → Streams → Streams → Type 0
VerdictWritten answer chunk before after = (text : List ℕ) × VerdictReached answer chunk text before.left after.left × Appends before.gained text after.gained

-- a part of its text was written
abbrev pub VerdictCutOff : ℕ → Streams → Streams → Type 0
VerdictCutOff chunk before after = (answer : Checked) × (text : List ℕ) × VerdictReached answer chunk text before.left after.left × AppendsPart before.gained text after.gained

-- a read failed, the bytes taken show neither an unlawful pair nor a fault, and nothing was written
pub record ReadFailed (before after : Streams) : Type 0 where
  pub taken : List ℕ
  pub recorded : List Recorded
  pub remainder : List ℕ
  pub consumes : Consumes before.left taken after.left
  pub so_far : IsLawfulSoFar taken recorded remainder
  pub below_limit : length taken < STREAM_MAX
  pub written : Appends before.gained [] after.gained

-- what checking a transcript with a chunk of this length leaves, by its answer
abbrev pub Checks : Checked → ℕ → Streams → Streams → Type 0
Checks checked.Lawful chunk before after = VerdictWritten checked.Lawful chunk before after
Checks (checked.Unlawful number) chunk before after = VerdictWritten (checked.Unlawful number) chunk before after
Checks (checked.BadFrame place) chunk before after = VerdictWritten (checked.BadFrame place) chunk before after
Checks checked.Truncated chunk before after = VerdictWritten checked.Truncated chunk before after
Checks checked.ReadFault chunk before after = ReadFailed before after
Checks checked.WriteFault chunk before after = VerdictCutOff chunk before after
Checks checked.Limit chunk before after = VerdictWritten checked.Limit chunk before after

-- what an answer tells of a source's count of faults
abbrev pub ReadsLeft : Checked → ℕ → ℕ → Type 0
ReadsLeft checked.Lawful before now = now ≡ before
ReadsLeft (checked.Unlawful number) before now = now ≡ before
ReadsLeft (checked.BadFrame place) before now = now ≡ before
ReadsLeft checked.Truncated before now = now ≡ before
ReadsLeft checked.ReadFault before now = FaultCounted before now
ReadsLeft checked.WriteFault before now = now ≡ before
ReadsLeft checked.Limit before now = now ≡ before

-- and of a sink's
abbrev pub WritesLeft : Checked → ℕ → ℕ → Type 0
WritesLeft checked.Lawful before now = now ≡ before
WritesLeft (checked.Unlawful number) before now = now ≡ before
WritesLeft (checked.BadFrame place) before now = now ≡ before
WritesLeft checked.Truncated before now = now ≡ before
WritesLeft checked.ReadFault before now = now ≡ before
WritesLeft checked.WriteFault before now = FaultCounted before now
WritesLeft checked.Limit before now = now ≡ before
