use Rattle.std.specs.Prelude.{◌+◌, ◌-◌, ◌^◌, ◌==◌, min, ℕ, Bool, List, String, Vec, string_bytes, length}
use Rattle.std.specs.List.{list_any}
use Rattle.outside.specs.declared.traits.Sample.{Sample}
use Rattle.outside.specs.declared.traits.Sample.TheVariants as sample
use Rattle.outside.specs.Faults.{one_more}
use Rattle.outside.specs.FilesContent.{FilesContent}

-- the number of a call is in this list
abbrev pub is_listed : List ℕ → ℕ → Bool
is_listed fail number = list_any (λ listed. listed == number) fail

-- the calls after one more: their count stands still at 2 ^ 64, which no list of 64-bit numbers reaches
abbrev pub calls_after : ℕ → ℕ
calls_after calls = min (calls + 1) (2 ^ 64)

-- which calls of an object fail, how many were made, and how many failed
pub record FailurePlan : Type 0 where
  pub fail : List ℕ
  pub calls : ℕ
  pub faults : ℕ

-- a source in memory: the bytes left, how many a call takes at most, and its calls
pub record SourceState : Type 0 where
  pub left : List ℕ
  pub step : ℕ
  pub plan : FailurePlan

-- how many bytes a read into a buffer of this length takes
abbrev pub read_count : SourceState → ℕ → ℕ
read_count source size = min source.step (min size (length source.left))

-- a sink in memory: the bytes gained, how many it can hold, how many a call takes at most, and its calls
pub record SinkState : Type 0 where
  pub gained : List ℕ
  pub room : ℕ
  pub step : ℕ
  pub plan : FailurePlan

-- how many bytes of a piece of this length a write takes
abbrev pub write_count : SinkState → ℕ → ℕ
write_count sink size = min sink.step (min size (sink.room - length sink.gained))

-- noise in memory: the events left, and how many of those taken were Failed
pub record NoiseState : Type 0 where
  pub left : List Sample
  pub faults : ℕ

-- the count of faults after an answer
abbrev pub faults_after : Sample → ℕ → ℕ
faults_after (sample.Byte byte) faults = faults
faults_after sample.Ended faults = faults
faults_after sample.Failed faults = one_more faults

-- what contracts see of an entry: its name and its content
abbrev pub entry_of : {Y Z A : Type 0} → String Y × Vec A Z → List ℕ × List A
entry_of entry = (string_bytes entry.0, entry.1.items)

-- files in memory: their content and their calls
pub record FilesState : Type 0 where
  pub content : FilesContent
  pub plan : FailurePlan
