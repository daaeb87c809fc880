use Rattle.std.proofs.Common.{ℕ, ◌≤◌, ◌++◌, [], ◌∷◌, length, ap, arith, length-append}
use Rattle.hex.specs.Hex.{encode_lower}
use Rattle.module_frames.specs.Replies.{frame_of}
use Rattle.reply_lines.proofs.Parts.{outcome_long, code_long, grown, whole_line}
use Rattle.reply_lines.proofs.writing.put_line.Goals as goal

pub put_block-requires : goal.put_block-requires
put_block-requires c =
    let reply = c.args.reply.now in
    let a = grown c.args.port.now.outbox.now c.put_outcome.new.port.outbox.now _ 26 c.put_outcome.ensures.put (outcome_long reply.status reply.state reply.approved) in
    let b = grown c.put_outcome.new.port.outbox.now c.put_hex.new.port.outbox.now _ 5 c.put_hex.ensures.put (code_long reply.code _ c.to_be_bytes.ensures) in
    omega (arith, a.bytes, a.room, b.bytes, b.room, c.requires.room, ap (length {A = ℕ}) c.requires.empty)

pub put_payload-requires : goal.put_payload-requires
put_payload-requires c =
    let reply = c.args.reply.now in
    let a = grown c.args.port.now.outbox.now c.put_outcome.new.port.outbox.now _ 26 c.put_outcome.ensures.put (outcome_long reply.status reply.state reply.approved) in
    let b = grown c.put_outcome.new.port.outbox.now c.put_hex.new.port.outbox.now _ 5 c.put_hex.ensures.put (code_long reply.code _ c.to_be_bytes.ensures) in
    let block : length (encode_lower reply.block ++ 0x20 ∷ []) ≤ 25 = omega (arith, length-append (encode_lower reply.block) (0x20 ∷ []), c.put_block.ensures.long) in
    let d = grown c.put_hex.new.port.outbox.now c.put_block.new.port.outbox.now _ 25 c.put_block.ensures.put block in
    omega (arith, a.bytes, a.room, b.bytes, b.room, d.bytes, d.room, c.requires.room, ap (length {A = ℕ}) c.requires.empty, ap (length {A = ℕ}) c.bytes.ensures.bytes, c.bytes.ensures.within, reply.room)

pub returns-clause-put : goal.returns-clause-put
returns-clause-put c =
    whole_line (frame_of c.args.reply.now) c.args.port.now.outbox.now c.put_outcome.new.port.outbox.now c.put_hex.new.port.outbox.now c.put_block.new.port.outbox.now
    c.put_payload.new.port.outbox.now _ _ c.requires.empty c.to_be_bytes.ensures c.bytes.ensures.bytes c.put_outcome.ensures.put c.put_hex.ensures.put c.put_block.ensures.put c.put_payload.ensures.put
