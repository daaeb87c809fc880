use Rattle.std.proofs.Common.{◌≡◌, ◌<◌, ◌∙◌, ap, refl, sym, append-nil, arith}
use Rattle.bits_core.specs.OutboxContents.{OutboxContents}
use Rattle.hex.specs.Hex.{encode_with}
use Rattle.reply_lines.proofs.Digits.{digits_more, front_long, pair_long}
use Rattle.reply_lines.proofs.writing.put_digits.Goals as goal

pub loop-byte-init : goal.loop-byte-init
unfolding encode_with
loop-byte-init c = (refl, refl, sym (append-nil c.args.port.now.outbox.now.bytes))

pub put-requires : goal.put-requires
put-requires c =
    omega (
      arith,
      front_long c.args.port.now.outbox.now.bytes c.loop-byte.port.outbox.now.bytes c.args.bytes.now c.loop-byte.byte-index (omega arith) c.loop-byte.invariant.2,
      pair_long c.digits_of.result _ c.digits_of.ensures,
      c.loop-byte.invariant.1,
      c.requires,
    )

pub loop-byte-preserved : goal.loop-byte-preserved
loop-byte-preserved c = (
  c.put.ensures.same ∙ c.loop-byte.invariant.0,
  ap (λ (o : OutboxContents). o.room) c.put.ensures.put ∙ c.loop-byte.invariant.1,
  ap (λ (o : OutboxContents). o.bytes) c.put.ensures.put
      ∙ digits_more c.args.port.now.outbox.now.bytes c.loop-byte.port.outbox.now.bytes c.args.bytes.now c.loop-byte.byte-index c.digits_of.result (omega arith) c.loop-byte.invariant.2 c.digits_of.ensures,
)
