-- What reporting leaves, by its answer.
use Rattle.std.specs.Prelude.{◌≡◌, ◌≤◌, ◌<◌, ◌++◌, ◌⊎◌, ℕ, Bool, true, false, List, [], length, take, Option}
use Rattle.engine_core.specs.Calls.{Calls}
use Rattle.outside.specs.Contents.{Consumes, Appends}
use Rattle.outside.specs.Faults.{FaultCounted}
use Rattle.stream_calls.specs.PartialWrites.{AppendsPart}
use Rattle.stream_calls.specs.Streams.{Streams, IsAllOf}
use Rattle.stream_calls.specs.declared.limits.TheConstants.{STREAM_MAX}
use Rattle.vector_suite.specs.declared.lines.VectorRead.{VectorRead}
use Rattle.vector_reports.specs.Findings.{lines_found}
use Rattle.vector_reports.specs.ReportText.{has_bad, report_of}
use Rattle.vector_reports.specs.VectorReports.{IsVectorReport, remainder_lines, verdict_of}
use Rattle.vector_reports.specs.declared.reporting.Reported.{Reported}
use Rattle.vector_reports.specs.declared.reporting.Reported.TheVariants as reported

-- the source was read to its end
abbrev pub IsReadToEnd : List ℕ → Option (List ℕ) → Type 0
IsReadToEnd taken content = (length taken < STREAM_MAX) × IsAllOf taken content

-- No more than 2^40 bytes were taken, and none was asked for once a bad line showed: before the last read, of no more bytes than a chunk has, none did.
pub record AskedNoFurther {V : Type 0} (calls : Calls V) (v : V) (chunk : ℕ) (taken : List ℕ) : Type 0 where
  pub earlier : List ℕ
  pub last : List ℕ
  pub whole : taken ≡ earlier ++ last
  pub chunk_length : length last ≤ chunk
  pub reads : List VectorRead
  pub engine : V
  pub report : IsVectorReport calls v false earlier reads engine
  pub none_bad : has_bad reads ≡ false
  pub within : length taken ≤ STREAM_MAX

-- why it ended so, with these bytes taken, which were read so
abbrev pub EndsBy : Reported → (taken : List ℕ) → List VectorRead → (ended : Bool) → Type 0
-- the source was read to its end, and all of its vectors passed
EndsBy reported.AllPassed taken reads ended = (verdict_of reads ≡ reported.AllPassed) × (ended ≡ true)
-- the source was read to its end, and a vector failed
EndsBy reported.SomeFailed taken reads ended = (verdict_of reads ≡ reported.SomeFailed) × (ended ≡ true)
-- the line of this number is bad
EndsBy (reported.BadLine number) taken reads ended = verdict_of reads ≡ reported.BadLine number
-- a read failed, and the bytes taken show no bad line
EndsBy reported.ReadFault taken reads ended = (has_bad reads ≡ false) × (ended ≡ false) × (length taken < STREAM_MAX)
EndsBy reported.WriteFault taken reads ended = Unit {0}
-- as many bytes were taken as may be, and they show no bad line
EndsBy reported.Limit taken reads ended = (has_bad reads ≡ false) × (ended ≡ false) × (length taken ≡ STREAM_MAX)

-- the bytes taken have this report, and the source has ended behind them only where it was read to its end
pub record ReportOfTaken {V : Type 0} (calls : Calls V) (v : V) (taken : List ℕ) (ended : Bool) (reads : List VectorRead) (w : V) (content : Option (List ℕ)) : Type 0 where
  pub report : IsVectorReport calls v ended taken reads w
  pub at_end : ended ≡ true → IsReadToEnd taken content

-- A part of the report of the bytes taken was written, and the engine is the one that some of their lines left.
pub record ReportCutOff {V : Type 0} (calls : Calls V) (chunk : ℕ) (v w : V) (before after : Streams) : Type 0 where
  pub taken : List ℕ
  pub ended : Bool
  pub reads : List VectorRead
  pub last : V
  pub consumes : Consumes before.left taken after.left
  pub asked : AskedNoFurther calls v chunk taken
  pub of_taken : ReportOfTaken calls v taken ended reads last before.left
  pub part : AppendsPart before.gained (report_of reads) after.gained
  pub count : ℕ
  pub engine : w ≡ (lines_found calls v (take count (of_taken.report.lines ++ remainder_lines ended of_taken.report.remainder))).engine

-- Reporting from the engine v leaves w: bytes were taken, their report was written, and their lines leave the engine.
pub record ReportWritten {V : Type 0} (calls : Calls V) (answer : Reported) (chunk : ℕ) (v w : V) (before after : Streams) : Type 0 where
  pub taken : List ℕ
  pub ended : Bool
  pub reads : List VectorRead
  pub consumes : Consumes before.left taken after.left
  pub asked : AskedNoFurther calls v chunk taken
  pub of_taken : ReportOfTaken calls v taken ended reads w before.left
  pub written : Appends before.gained (report_of reads) after.gained
  pub why : EndsBy answer taken reads ended

-- what reporting leaves, by its answer
abbrev pub Reports : {V : Type 0} → Calls V → Reported → ℕ → V → V → Streams → Streams → Type 0
Reports calls reported.AllPassed chunk v w before after = ReportWritten calls reported.AllPassed chunk v w before after
Reports calls reported.SomeFailed chunk v w before after = ReportWritten calls reported.SomeFailed chunk v w before after
Reports calls (reported.BadLine number) chunk v w before after = ReportWritten calls (reported.BadLine number) chunk v w before after
Reports calls reported.ReadFault chunk v w before after = ReportWritten calls reported.ReadFault chunk v w before after
Reports calls reported.WriteFault chunk v w before after = ReportCutOff calls chunk v w before after
Reports calls reported.Limit chunk v w before after = ReportWritten calls reported.Limit chunk v w before after

-- How the count of a source's faults may stand, by the answer: a failed read is followed by the write of the last line, which may fail too.
abbrev pub ReadsLeft : Reported → ℕ → ℕ → Type 0
ReadsLeft reported.AllPassed before now = now ≡ before
ReadsLeft reported.SomeFailed before now = now ≡ before
ReadsLeft (reported.BadLine number) before now = now ≡ before
ReadsLeft reported.ReadFault before now = FaultCounted before now
ReadsLeft reported.WriteFault before now = (now ≡ before) ⊎ FaultCounted before now
ReadsLeft reported.Limit before now = now ≡ before

-- and of a sink's
abbrev pub WritesLeft : Reported → ℕ → ℕ → Type 0
WritesLeft reported.AllPassed before now = now ≡ before
WritesLeft reported.SomeFailed before now = now ≡ before
WritesLeft (reported.BadLine number) before now = now ≡ before
WritesLeft reported.ReadFault before now = now ≡ before
WritesLeft reported.WriteFault before now = FaultCounted before now
WritesLeft reported.Limit before now = now ≡ before
