-- How a reader of transcripts holds a pair, and takes it in steps: the command's frame, the reply's head, its payload.
use Rattle.std.specs.Prelude.{◌≡◌, ◌≤◌, ◌<◌, ◌+◌, ◌-◌, ◌^◌, min, ℕ, List, [], ◌++◌, length, take, None, Some, Result, MatchResult}
use Rattle.module_frames.specs.CommandFrames.{CommandFrame, IsCommandFrame}
use Rattle.module_frames.specs.Fragments.{IsBrokenAt, IsComplete, IsIncomplete}
use Rattle.module_frames.specs.declared.frames.Fed.{Fed}
use Rattle.module_frames.specs.declared.frames.Fed.TheVariants as fed
use Rattle.transcript_pairs.specs.PairStreams.{HeldPair, new_pair}
use Rattle.transcript_pairs.specs.ReplyStreams.{head_size, payload_length, reply_fault}
use Rattle.transcript_pairs.specs.declared.pairs.Pairs.TheInside.{Inside}

abbrev pub pair_of : Inside → HeldPair
pair_of r = record { start = r.start; command = r.frames.bytes; head = r.head; skipped = r.skipped; fault = r.fault }

pub record IsPairReader (r : Inside) : Type 0 where
  pub commands : r.commands ≡ r.frames.start
  pub least : r.fault ≡ None → r.commands ≤ r.start
  pub taken : r.taken ≡ length r.frames.bytes
  pub short : r.start + (length r.frames.bytes + length r.head + r.skipped) ≤ 2 ^ 63
  pub sound : reply_fault r.head ≡ None
  pub most : length r.head ≤ head_size r.head
  pub behind : 1 ≤ length r.head → IsComplete r.frames
  pub unskipped : length r.head < head_size r.head → r.skipped ≡ 0
  pub skipped : head_size r.head ≤ length r.head → r.skipped ≤ payload_length r.head
  pub faultless : r.fault ≡ None → r.frames.fault ≡ None
  pub empty : (offset : ℕ) → r.fault ≡ Some offset → (r.frames.bytes ≡ []) × (r.head ≡ [])

-- the frame of a command stands
abbrev pub HoldsCommand : HeldPair → Type 0
HoldsCommand held = (command : CommandFrame) × IsCommandFrame command held.command

-- no byte of the reply came
abbrev pub HoldsNoReply : HeldPair → Type 0
HoldsNoReply held = (held.head ≡ []) × (held.skipped ≡ 0)

-- bytes of the piece were taken for the command
abbrev pub TakesCommand : HeldPair → List ℕ → Fed → HeldPair → Type 0
TakesCommand old piece fed.More new = HoldsNoReply old × (new ≡ record old { command = old.command ++ piece }) × IsIncomplete new.command
TakesCommand old piece (fed.Whole count) new =
    (count ≤ length piece) × (new ≡ record old { command = old.command ++ take count piece }) × (1 ≤ count → HoldsNoReply old) × HoldsCommand new
TakesCommand old piece (fed.BadFrame offset) new = HoldsNoReply old × (new ≡ new_pair old.start (Some offset)) × IsBrokenAt old.start (old.command ++ piece) offset

-- the reply shows a fault at this offset in the transcript
pub record BreaksReply (old : HeldPair) (piece : List ℕ) (offset : ℕ) (new : HeldPair) : Type 0 where
  pub after : new ≡ new_pair old.start (Some offset)
  pub unskipped : old.skipped ≡ 0
  pub within : ℕ
  pub fault : reply_fault (old.head ++ piece) ≡ Some within
  pub place : offset ≡ old.start + length old.command + within

-- bytes of the piece were taken for the head, up to the size that those held tell
abbrev pub Gathers : HeldPair → List ℕ → Result ℕ ℕ → HeldPair → Type 0
Gathers old piece answer new = MatchResult answer
    (λ count. (count ≡ min (head_size old.head - length old.head) (length piece)) × (new ≡ record old { head = old.head ++ take count piece }) × (reply_fault new.head ≡ None)
    × (1 ≤ count → old.skipped ≡ 0))
    (λ offset. BreaksReply old piece offset new)

-- bytes of the piece were taken for the head, all where it isn't whole then
pub record TakesHead (old : HeldPair) (piece : List ℕ) (count : ℕ) (new : HeldPair) : Type 0 where
  pub within : count ≤ length piece
  pub after : new ≡ record old { head = old.head ++ take count piece }
  pub sound : reply_fault new.head ≡ None
  pub part : length new.head < head_size new.head → count ≡ length piece
  pub unskipped : 1 ≤ count → old.skipped ≡ 0
