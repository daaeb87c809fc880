-- A stream of command frames: how bytes split into commands and a remainder, and the first fault that a remainder shows.
use Rattle.std.specs.Prelude.{◌≡◌, ℕ, ◌+◌, ◌==◌, ◌&&◌, nat_lt, not, Bool, false, List, ◌++◌, length, take, drop, slice_get, Option, Some, None, if◌then◌else◌}
use Rattle.std.specs.Option.{option_map, option_map_or}
use Rattle.std.specs.List.{flat_map, AllByRecursion}
use Rattle.std.specs.Int.{from_be_bytes, w32}
use Rattle.bits_core.specs.declared.limits.TheConstants.{LARGEST_BODY}
use Rattle.module_frames.specs.CommandFrames.{CommandFrame, command_encoding, IsSendable}

-- no whole command frame stands at the front
abbrev pub BeginsNoCommand : List ℕ → Type 0
BeginsNoCommand bytes = (command : CommandFrame) (more : List ℕ) → IsSendable command → bytes ≡ command_encoding command ++ more → ⊥

-- the bytes are the frames of these commands, and then a remainder with which no whole frame begins
pub record ParsesInto (bytes : List ℕ) (commands : List CommandFrame) (remainder : List ℕ) : Type 0 where
  pub encoded : bytes ≡ flat_map command_encoding commands ++ remainder
  pub sendable : AllByRecursion IsSendable commands
  pub unfinished : BeginsNoCommand remainder

-- the byte at the offset is there, and isn't the one that each frame has there
abbrev pub is_wrong_at : List ℕ → ℕ → ℕ → Bool
is_wrong_at remainder offset wanted = option_map_or (λ byte. not (byte == wanted)) (slice_get remainder offset) false

-- the byte at the offset is there, and is this one
abbrev pub is_at : List ℕ → ℕ → ℕ → Bool
is_at remainder offset wanted = option_map_or (λ byte. byte == wanted) (slice_get remainder offset) false

-- the version is there, and is neither 1 nor 2
abbrev pub has_no_version : List ℕ → Bool
has_no_version remainder = is_wrong_at remainder 1 0x01 && is_wrong_at remainder 1 0x02

-- the version is there and is 2, with which a sequence number follows the length
abbrev pub is_numbered : List ℕ → Bool
is_numbered remainder = is_at remainder 1 0x02

-- how many bytes the header has that begins so: without its version it has eight at least
unfoldable pub header_length : List ℕ → ℕ
header_length remainder = if is_numbered remainder then 12 else 8

-- the four bytes of the body's length, or those of them that are there
abbrev pub length_bytes : List ℕ → List ℕ
length_bytes remainder = take 4 (drop 4 remainder)

unfoldable pub body_length : List ℕ → ℕ
body_length remainder = from_be_bytes w32 (length_bytes remainder)

-- the length is there, and is above what a body may have
abbrev pub is_too_long : List ℕ → Bool
is_too_long remainder = length (length_bytes remainder) == 4 && nat_lt LARGEST_BODY (body_length remainder)

-- the offset of the first fault that a remainder shows: a wrong byte, or the first byte of a length that is too large
unfoldable pub first_fault : List ℕ → Option ℕ
first_fault remainder =
    if is_wrong_at remainder 0 0xc5 then Some 0
    else if has_no_version remainder then Some 1
    else if is_wrong_at remainder 3 0x00 then Some 3
    else if is_too_long remainder then Some 4
    else None

-- the offset in the stream of the first fault that a remainder shows, where the remainder begins at this offset
abbrev pub fault_from : ℕ → List ℕ → Option ℕ
fault_from start remainder = option_map (λ offset. start + offset) (first_fault remainder)
