use Rattle.std.proofs.Common.{ℕ, length, ap, arith, length-append}
use Rattle.hex.specs.Hex.{encode_lower}
use Rattle.reply_lines.proofs.Digits.{digits_long}
use Rattle.reply_lines.proofs.writing.put_hex.Goals as goal

pub put-requires : goal.put-requires
put-requires c =
    omega (
      arith,
      ap (length {A = ℕ}) c.put_digits.ensures.put,
      length-append c.args.port.now.outbox.now.bytes (encode_lower c.args.bytes.now),
      digits_long c.args.bytes.now,
      c.put_digits.ensures.room,
      c.requires,
    )
