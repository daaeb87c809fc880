use Rattle.std.proofs.Common.{◌≡◌, ◌++◌, take}
use Rattle.hex.specs.Hex.{encode_lower}
use Rattle.reply_lines.proofs.writing.put_digits.Given as goal

abbrev pub invariant-loop-byte : goal.invariant-loop-byte
invariant-loop-byte l =
    (l.port.outbox.ghost_name ≡ l.initial.port.outbox.ghost_name) × (l.port.outbox.now.room ≡ l.initial.port.outbox.now.room)
    × (l.port.outbox.now.bytes ≡ l.initial.port.outbox.now.bytes ++ encode_lower (take l.byte-index l.bytes))
