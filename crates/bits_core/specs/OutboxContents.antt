-- What contracts see of an outbox.
use Rattle.std.specs.Prelude.{ℕ, ◌-◌, List, length}
use Rattle.bits_core.specs.ByteList.{zeros}

-- the bytes that were put, how many there is room for, and the part of the buffer after the bytes
pub record OutboxContents : Type 0 where
  pub bytes : List ℕ
  pub room : ℕ
  pub unused : List ℕ

-- an outbox with these bytes and this room, whose unused part is zero
abbrev pub holding : List ℕ → ℕ → OutboxContents
holding bytes room = record { bytes = bytes; room = room; unused = zeros (room - length bytes) }
