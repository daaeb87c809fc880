-- The frames of replies in a transcript: what a head tells before it is whole, and the first fault that it shows.
use Rattle.std.specs.Prelude.{◌≡◌, ◌≤◌, ◌==◌, ◌&&◌, nat_lt, ℕ, Bool, false, List, ◌++◌, length, take, drop, slice_get, Option, Some, None, if◌then◌else◌}
use Rattle.std.specs.Option.{is_none, option_map_or}
use Rattle.std.specs.Int.{from_be_bytes, w32}
use Rattle.bits_core.specs.declared.limits.TheConstants.{LARGEST_PAYLOAD}
use Rattle.service_table.specs.Numbers.{state_numbered, status_numbered}
use Rattle.module_frames.specs.ReplyHeads.{HasWidths, head_encoding, indicated}
use Rattle.module_frames.specs.Streams.{has_no_version, is_numbered, is_wrong_at}
use Rattle.module_frames.specs.declared.head.ReplyHead.{ReplyHead}

-- a reply may have this head and this payload
pub record IsReply (reply : ReplyHead) (payload : List ℕ) : Type 0 where
  pub widths : HasWidths reply
  pub room : reply.length ≤ LARGEST_PAYLOAD
  pub told : length payload ≡ reply.length

-- the frame of a reply: its head, and then the payload
abbrev pub reply_encoding : ReplyHead → List ℕ → List ℕ
reply_encoding reply payload = head_encoding reply ++ payload

-- no whole frame of a reply stands at the front
abbrev pub BeginsNoReply : List ℕ → Type 0
BeginsNoReply bytes = (reply : ReplyHead) (payload more : List ℕ) → IsReply reply payload → bytes ≡ reply_encoding reply payload ++ more → ⊥

-- the byte at the offset is there, and no status has it for its number; no state has; it is no indicator
abbrev pub is_no_status : List ℕ → Bool
is_no_status bytes = option_map_or (λ byte. is_none (status_numbered byte)) (slice_get bytes 3) false

abbrev pub is_no_state : List ℕ → Bool
is_no_state bytes = option_map_or (λ byte. is_none (state_numbered byte)) (slice_get bytes 4) false

abbrev pub is_no_indicator : List ℕ → Bool
is_no_indicator bytes = option_map_or (λ byte. is_none (indicated byte)) (slice_get bytes 5) false

-- how many bytes the head has that begins so: without its version it has 24 at least
unfoldable pub head_size : List ℕ → ℕ
head_size bytes = if is_numbered bytes then 28 else 24

-- the four bytes of the payload's length, or those of them that are there
abbrev pub payload_bytes : List ℕ → List ℕ
payload_bytes bytes = take 4 (drop 20 bytes)

unfoldable pub payload_length : List ℕ → ℕ
payload_length bytes = from_be_bytes w32 (payload_bytes bytes)

-- the length is there, and is above what a payload may have
abbrev pub has_long_payload : List ℕ → Bool
has_long_payload bytes = length (payload_bytes bytes) == 4 && nat_lt LARGEST_PAYLOAD (payload_length bytes)

-- the offset of the first fault that the bytes of a reply show: a wrong byte, or the first byte of a length that is too large
unfoldable pub reply_fault : List ℕ → Option ℕ
reply_fault bytes =
    if is_wrong_at bytes 0 0x5c then Some 0
    else if has_no_version bytes then Some 1
    else if is_no_status bytes then Some 3
    else if is_no_state bytes then Some 4
    else if is_no_indicator bytes then Some 5
    else if has_long_payload bytes then Some 20
    else None
