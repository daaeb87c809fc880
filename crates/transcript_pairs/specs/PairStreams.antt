-- The bytes of a transcript: each command's frame followed by its reply's. What a reader of them holds, and what it answers to a piece.
use Rattle.std.specs.Prelude.{◌≡◌, ◌≤◌, ◌+◌, ◌⊎◌, ℕ, List, [], ◌++◌, length, take, map, Option, None, Some}
use Rattle.module_frames.specs.CommandFrames.{CommandFrame, IsCommandFrame, IsSendable, command_encoding}
use Rattle.std.specs.List.{AllByRecursion, flat_map}
use Rattle.bits_core.specs.declared.limits.TheConstants.{LARGEST_PAYLOAD}
use Rattle.module_frames.specs.ReplyHeads.{HasWidths, head_encoding}
use Rattle.module_frames.specs.declared.head.ReplyHead.{ReplyHead}
use Rattle.module_frames.specs.Streams.{first_fault}
use Rattle.transcript_check.specs.Transcripts.{Pair}
use Rattle.transcript_pairs.specs.ReplyStreams.{IsReply, reply_encoding, reply_fault}
use Rattle.transcript_pairs.specs.declared.pairs.PairFed.{PairFed}
use Rattle.transcript_pairs.specs.declared.pairs.PairFed.TheVariants as fed

-- a transcript may have this pair, with this payload of the reply
pub record IsRecorded (pair : Pair) (payload : List ℕ) : Type 0 where
  pub command : IsSendable pair.command
  pub reply : IsReply pair.reply payload

abbrev pub pair_encoding : Pair → List ℕ → List ℕ
pair_encoding pair payload = command_encoding pair.command ++ reply_encoding pair.reply payload

-- no whole pair stands at the front
abbrev pub BeginsNoPair : List ℕ → Type 0
BeginsNoPair bytes = (pair : Pair) (payload more : List ℕ) → IsRecorded pair payload → bytes ≡ pair_encoding pair payload ++ more → ⊥

-- the bytes of a pair show their first fault at this offset: in the command, or in the reply behind a whole command
abbrev pub ShowsFault : List ℕ → ℕ → Type 0
ShowsFault bytes offset =
    (first_fault bytes ≡ Some offset)
    ⊎ ((command : CommandFrame) × (reply : List ℕ) × (within : ℕ) × IsSendable command × (bytes ≡ command_encoding command ++ reply) × (reply_fault reply ≡ Some within)
    × (offset ≡ length (command_encoding command) + within))

-- the bytes of a pair show no fault, neither in the command nor behind it
pub record ShowsNoFault (bytes : List ℕ) : Type 0 where
  pub command : first_fault bytes ≡ None
  pub reply : (command : CommandFrame) (reply : List ℕ) → IsSendable command → bytes ≡ command_encoding command ++ reply → reply_fault reply ≡ None

-- What a reader holds of a pair, and where in the transcript that begins: bytes of the command's frame, bytes of the reply's head, and how
-- many of its payload came. Once a fault has come, its offset in the transcript is kept, and no byte is held.
pub record HeldPair : Type 0 where
  pub start : ℕ
  pub command : List ℕ
  pub head : List ℕ
  pub skipped : ℕ
  pub fault : Option ℕ

abbrev pub new_pair : ℕ → Option ℕ → HeldPair
new_pair start fault = record { start = start; command = []; head = []; skipped = 0; fault = fault }

-- how many bytes of the pair came
abbrev pub held_length : HeldPair → ℕ
held_length held = length held.command + length held.head + held.skipped

-- these bytes of a pair came, of which the payload's aren't kept
pub record HasCome (held : HeldPair) (bytes : List ℕ) : Type 0 where
  pub payload : List ℕ
  pub came : bytes ≡ held.command ++ (held.head ++ payload)
  pub skipped : length payload ≡ held.skipped

-- a whole reply stands: its head, and as many bytes behind it as that tells
pub record IsWholeReply (reply : ReplyHead) (held : HeldPair) : Type 0 where
  pub widths : HasWidths reply
  pub room : reply.length ≤ LARGEST_PAYLOAD
  pub head : held.head ≡ head_encoding reply
  pub payload : held.skipped ≡ reply.length

-- a whole pair stands: the frame of a command, and behind it a whole reply
pub record IsWholePair (pair : Pair) (held : HeldPair) : Type 0 where
  pub command : IsCommandFrame pair.command held.command
  pub reply : IsWholeReply pair.reply held

abbrev pub HoldsPair : HeldPair → Type 0
HoldsPair held = (pair : Pair) × IsWholePair pair held

-- a pair may begin so: no fault shows, and none is whole
pub record IsPartialPair (bytes : List ℕ) : Type 0 where
  pub no_fault : ShowsNoFault bytes
  pub unfinished : BeginsNoPair bytes

-- the bytes, which begin at this offset in the transcript, show their first fault at that one, and no pair is whole
pub record IsBrokenPairAt (start : ℕ) (bytes : List ℕ) (offset : ℕ) : Type 0 where
  pub within : ℕ
  pub fault : ShowsFault bytes within
  pub place : offset ≡ start + within
  pub unfinished : BeginsNoPair bytes

-- what is answered to a piece before any fault, and what is held then, where these bytes came before
abbrev pub FeedsPiece : HeldPair → List ℕ → List ℕ → PairFed → HeldPair → Type 0
-- all was taken, and a pair may go on so
FeedsPiece old bytes piece fed.More new = HasCome new (bytes ++ piece) × IsPartialPair (bytes ++ piece)
-- so many were taken, and a pair is whole
FeedsPiece old bytes piece (fed.Whole count) new = (count ≤ length piece) × HasCome new (bytes ++ take count piece) × HoldsPair new
-- a fault shows at this offset in the transcript, and none is held
FeedsPiece old bytes piece (fed.BadFrame offset) new = (new ≡ new_pair old.start (Some offset)) × IsBrokenPairAt old.start (bytes ++ piece) offset

-- the offset of the fault that an answer tells
abbrev pub told_fault : PairFed → Option ℕ
told_fault fed.More = None
told_fault (fed.Whole count) = None
told_fault (fed.BadFrame offset) = Some offset

-- What is answered to a piece, and what is held then: no more than what was and the piece. After a fault its offset is answered for good.
pub record FeedsPair (old : HeldPair) (piece : List ℕ) (answer : PairFed) (new : HeldPair) : Type 0 where
  pub start : new.start ≡ old.start
  pub told : new.fault ≡ told_fault answer
  pub place : new.start + held_length new ≤ old.start + held_length old + length piece
  pub stands : (count : ℕ) → answer ≡ fed.Whole count → HoldsPair new
  pub before_fault : old.fault ≡ None → (bytes : List ℕ) → HasCome old bytes → FeedsPiece old bytes piece answer new
  pub after_fault : (offset : ℕ) → old.fault ≡ Some offset → (answer ≡ fed.BadFrame offset) × (new ≡ old)

-- nothing is held, and the next pair begins behind what was; a fault that came stays
abbrev pub cleared_pair : HeldPair → HeldPair
cleared_pair old = new_pair (old.start + held_length old) old.fault

-- a pair as it stands in a transcript, with the payload of its reply
pub record Recorded : Type 0 where
  pub pair : Pair
  pub payload : List ℕ

-- the commands and the heads of the replies, without the payloads
abbrev pub pairs_of : List Recorded → List Pair
pairs_of recorded = map (λ (r : Recorded). r.pair) recorded

-- the bytes are the frames of these pairs, and then a remainder with which no whole pair begins
pub record ParsesIntoPairs (bytes : List ℕ) (pairs : List Recorded) (remainder : List ℕ) : Type 0 where
  pub encoded : bytes ≡ flat_map (λ (r : Recorded). pair_encoding r.pair r.payload) pairs ++ remainder
  pub recorded : AllByRecursion (λ (r : Recorded). IsRecorded r.pair r.payload) pairs
  pub unfinished : BeginsNoPair remainder
