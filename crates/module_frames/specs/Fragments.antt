-- What a reader of frames holds, and what it answers to a piece.
use Rattle.std.specs.Prelude.{◌≡◌, ◌≤◌, ◌+◌, ℕ, List, [], ◌++◌, length, take, Option, None, Some}
use Rattle.module_frames.specs.declared.frames.Fed.{Fed}
use Rattle.module_frames.specs.declared.frames.Fed.TheVariants as fed
use Rattle.module_frames.specs.CommandFrames.{CommandFrame, IsCommandFrame}
use Rattle.module_frames.specs.Streams.{BeginsNoCommand, first_fault, fault_from}

-- The bytes held, and where in the stream they begin: the frame of a command that stands, or the fragment of one.
-- Once a fault has come, its offset in the stream is kept, and no byte is held.
pub record Fragment : Type 0 where
  pub start : ℕ
  pub bytes : List ℕ
  pub fault : Option ℕ

abbrev pub new_fragment : Fragment
new_fragment = record { start = 0; bytes = []; fault = None }

-- a whole command stands
abbrev pub IsComplete : Fragment → Type 0
IsComplete held = (command : CommandFrame) × IsCommandFrame command held.bytes

-- a frame may begin so: no fault shows, and no command is whole
pub record IsIncomplete (bytes : List ℕ) : Type 0 where
  pub no_fault : first_fault bytes ≡ None
  pub unfinished : BeginsNoCommand bytes

-- the bytes, which begin at this offset in the stream, show their first fault at that one, and no command is whole
pub record IsBrokenAt (start : ℕ) (bytes : List ℕ) (offset : ℕ) : Type 0 where
  pub fault : fault_from start bytes ≡ Some offset
  pub unfinished : BeginsNoCommand bytes

-- what is answered to a piece before any fault, and what is held then
abbrev pub FeedsPiece : Fragment → List ℕ → Fed → Fragment → Type 0
-- all was taken, and a command may go on so
FeedsPiece old piece fed.More new = (new ≡ record old { bytes = old.bytes ++ piece }) × IsIncomplete new.bytes
-- so many were taken, and a command is whole
FeedsPiece old piece (fed.Whole count) new =
    (count ≤ length piece) × (new ≡ record old { bytes = old.bytes ++ take count piece }) × IsComplete new
-- a fault shows at this offset in the stream, and none is held
FeedsPiece old piece (fed.BadFrame offset) new =
    (new ≡ record old { bytes = []; fault = Some offset }) × IsBrokenAt old.start (old.bytes ++ piece) offset

-- what is answered to a piece, and what is held then: after a fault its offset is answered for good
pub record Feeds (old : Fragment) (piece : List ℕ) (answer : Fed) (new : Fragment) : Type 0 where
  pub before_fault : old.fault ≡ None → FeedsPiece old piece answer new
  pub after_fault : (offset : ℕ) → old.fault ≡ Some offset → (answer ≡ fed.BadFrame offset) × (new ≡ old)

-- nothing is held, and the next frame begins behind what was; a fault that came stays
abbrev pub cleared_fragment : Fragment → Fragment
cleared_fragment old = record { start = old.start + length old.bytes; bytes = []; fault = old.fault }
