-- The grammar of a reply's head: the first bytes of its frame, 24 in version 1 and 28 in version 2. Numbers are big-endian.
use Rattle.std.specs.Prelude.{◌≡◌, ◌==◌, ◌≤◌, ◌<◌, ◌^◌, ℕ, Bool, true, false, List, [], ◌∷◌, ◌++◌, length, find, Option, if◌then◌else◌}
use Rattle.std.specs.Option.{MatchOption}
use Rattle.std.specs.Int.{to_be_bytes, w16, w32}
use Rattle.service_table.specs.Numbers.{state_number, status_number}
use Rattle.bits_core.specs.declared.limits.TheConstants.{LARGEST_PAYLOAD}
use Rattle.module_frames.specs.declared.head.ReplyHead.{ReplyHead}
use Rattle.module_frames.specs.CommandFrames.{version_of, sequence_bytes, IsSequence}

-- The indicator of approved services, which ISO/IEC 19790:2012, 7.2.4.2, asks for. That it is one byte of the head is this project's own
-- form of it.
abbrev pub indicator : Bool → ℕ
indicator approved = if approved then 1 else 0

-- byte 5C, the version, service, status, state, indicator, error code in two bytes, block, the payload's length in four bytes, and the
-- sequence number
abbrev pub head_encoding : ReplyHead → List ℕ
head_encoding head =
    0x5c ∷ version_of head.sequence ∷ head.service ∷ status_number head.status ∷ state_number head.state ∷ indicator head.approved
    ∷ (to_be_bytes w16 head.code ++ (head.block ++ (to_be_bytes w32 head.length ++ sequence_bytes head.sequence)))

-- each field has the width that the grammar gives it
pub record HasWidths (head : ReplyHead) : Type 0 where
  pub service : head.service < 256
  pub sequence : IsSequence head.sequence
  pub code : head.code < 2 ^ 16
  pub block : length head.block ≡ 12
  pub payload : head.length < 2 ^ 32

-- the bytes begin with the head, and its payload is of a length that a reply may have
pub record IsReplyHead (head : ReplyHead) (bytes : List ℕ) : Type 0 where
  pub widths : HasWidths head
  pub payload : head.length ≤ LARGEST_PAYLOAD
  pub more : List ℕ
  pub encoded : bytes ≡ head_encoding head ++ more

-- the bytes begin with no head whose payload is of a length that a reply may have, not even one with numbers that are too wide
abbrev pub BeginsNoHead : List ℕ → Type 0
BeginsNoHead bytes = (head : ReplyHead) (more : List ℕ) → length head.block ≡ 12 → head.length ≤ LARGEST_PAYLOAD → bytes ≡ head_encoding head ++ more → ⊥

-- the answer is the head that the bytes begin with, or None where they begin with none
abbrev pub ReadsHead : List ℕ → Option ReplyHead → Type 0
ReadsHead bytes answer = MatchOption answer (BeginsNoHead bytes) (λ head. IsReplyHead head bytes)

-- whether the service was an approved one, by the indicator, where it is one
abbrev pub indicated : ℕ → Option Bool
indicated number = find (λ approved. indicator approved == number) (false ∷ true ∷ [])
