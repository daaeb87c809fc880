-- What follows from the grammar of frames.
use Rattle.std.specs.Prelude.{◌≡◌, ◌≤◌, ℕ, List, ◌++◌, length, Option, Some}
use Rattle.bits_core.specs.declared.limits.TheConstants.{LARGEST_PAYLOAD}
use Rattle.module_frames.specs.CommandFrames.{CommandFrame, command_encoding, IsSendable}
use Rattle.module_frames.specs.Streams.{ParsesInto}
use Rattle.module_frames.specs.declared.head.ReplyHead.{ReplyHead}
use Rattle.module_frames.specs.ReplyHeads.{head_encoding, HasWidths, IsReplyHead, ReadsHead}
use Rattle.module_frames.specs.ReplyFrames.{ReplyFrame, head_of, reply_header}

-- where two frames begin the same bytes, they are the frame of one command
abbrev pub EncodingsAreNoPrefixes : Type 0
EncodingsAreNoPrefixes = (a b : CommandFrame) (x y : List ℕ) → IsSendable a → IsSendable b
    → command_encoding a ++ x ≡ command_encoding b ++ y → (a ≡ b) × (x ≡ y)

-- two parses of the same bytes have the same commands and the same remainder
abbrev pub ParsesInOneWay : Type 0
ParsesInOneWay = (bytes : List ℕ) (ones others : List CommandFrame) (remainder left : List ℕ)
    → ParsesInto bytes ones remainder → ParsesInto bytes others left → (ones ≡ others) × (remainder ≡ left)

-- where two heads begin the same bytes, they are one: no two heads are encoded alike, and none is the beginning of another
abbrev pub HeadsReadInOneWay : Type 0
HeadsReadInOneWay = (a b : ReplyHead) (x y : List ℕ) → HasWidths a → HasWidths b → head_encoding a ++ x ≡ head_encoding b ++ y → (a ≡ b) × (x ≡ y)

-- what is read from bytes that begin with a head is the head
abbrev pub HeadsReadBack : Type 0
HeadsReadBack = (head : ReplyHead) (bytes : List ℕ) (answer : Option ReplyHead) → IsReplyHead head bytes → ReadsHead bytes answer → answer ≡ Some head

-- what is read from the header of a reply's frame, whatever follows, is the reply's head
abbrev pub HeadersReadBack : Type 0
HeadersReadBack = (reply : ReplyFrame) (more : List ℕ) (answer : Option ReplyHead) → HasWidths (head_of reply) → length reply.payload ≤ LARGEST_PAYLOAD
    → ReadsHead (reply_header reply ++ more) answer → answer ≡ Some (head_of reply)
