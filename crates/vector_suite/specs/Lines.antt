-- What a line finds.
use Rattle.std.specs.Prelude.{ℕ, ◌==◌, Bool, true, if◌then◌else◌, List, [], ◌∷◌, Option, Some, None}
use Rattle.engine_core.specs.Calls.{Calls}
use Rattle.vector_suite.specs.Outcomes.{Outcome, outcome}
use Rattle.vector_suite.specs.Vectors.{vector_of}
use Rattle.vector_suite.specs.declared.lines.VectorRead.{VectorRead}
use Rattle.vector_suite.specs.declared.lines.VectorRead.TheVariants.{Pass, Fail, Comment, Bad}
use Rattle.vector_suite.specs.declared.vector.Vector.{Vector}

-- an empty line, and one that begins with `#`
abbrev pub is_comment : List ℕ → Bool
is_comment [] = true
is_comment (byte ∷ line) = byte == 0x23

-- what is found, and the engine after it
pub record Found (V : Type 0) : Type 0 where
  pub read : VectorRead
  pub engine : V

abbrev pub read_of : Bool → VectorRead
read_of passed = if passed then Pass else Fail

abbrev pub found_by : {V : Type 0} → Outcome V → Found V
found_by outcome = record { read = read_of outcome.passed; engine = outcome.engine }

-- a line that is no vector's is bad, and leaves the engine
abbrev pub found_in : {V : Type 0} → Calls V → V → Option Vector → Found V
found_in calls v (Some vector) = found_by (outcome calls v vector)
found_in calls v None = record { read = Bad; engine = v }

-- what a line finds: a comment leaves the engine too
abbrev pub line_found : {V : Type 0} → Calls V → V → List ℕ → Found V
line_found calls v line = if is_comment line then record { read = Comment; engine = v } else found_in calls v (vector_of line)
