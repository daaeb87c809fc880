-- The grammar of command frames, of version 1 or, with a sequence number, of version 2. Numbers are big-endian.
use Rattle.std.specs.Prelude.{◌≡◌, ◌≤◌, ◌<◌, ◌^◌, ℕ, List, [], ◌∷◌, ◌++◌, length, Option, None, Some, IfSome}
use Rattle.std.specs.Int.{to_be_bytes, w32}
use Rattle.bits_core.specs.declared.limits.TheConstants.{LARGEST_BODY}

-- a command: the number of a service, the sequence number where the command has one, and a body
pub record CommandFrame : Type 0 where
  pub service : ℕ
  pub sequence : Option ℕ
  pub body : List ℕ

-- the version of a frame: 2 with a sequence number, 1 without one
abbrev pub version_of : Option ℕ → ℕ
version_of None = 0x01
version_of (Some number) = 0x02

-- the sequence number, in four bytes, where there is one
abbrev pub sequence_bytes : Option ℕ → List ℕ
sequence_bytes None = []
sequence_bytes (Some number) = to_be_bytes w32 number

-- the number fits its four bytes
abbrev pub IsSequence : Option ℕ → Type 0
IsSequence sequence = IfSome sequence (λ number. number < 2 ^ 32)

-- the header: byte C5, the version, the service, 00, the body's length in four bytes, and the sequence number
abbrev pub command_header : CommandFrame → List ℕ
command_header command =
    0xc5 ∷ version_of command.sequence ∷ command.service ∷ 0x00 ∷ (to_be_bytes w32 (length command.body) ++ sequence_bytes command.sequence)

-- the frame: the header, and then the body
abbrev pub command_encoding : CommandFrame → List ℕ
command_encoding command = command_header command ++ command.body

-- a frame may have this body and this sequence number
pub record IsSendable (command : CommandFrame) : Type 0 where
  pub body : length command.body ≤ LARGEST_BODY
  pub sequence : IsSequence command.sequence

-- the bytes are the frame of the command, and nothing more
pub record IsCommandFrame (command : CommandFrame) (bytes : List ℕ) : Type 0 where
  pub sendable : IsSendable command
  pub encoded : bytes ≡ command_encoding command
