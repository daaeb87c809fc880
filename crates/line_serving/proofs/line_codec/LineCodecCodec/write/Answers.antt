use Rattle.std.proofs.Common.{◌∙◌, [], ap}
use Rattle.bits_core.specs.OutboxContents.{OutboxContents, holding}
use Rattle.line_serving.proofs.LineDecoding.{kept_reply}
use Rattle.line_serving.proofs.line_codec.LineCodecCodec.write.Goals as goal

pub invariant_of-self : goal.invariant_of-self
invariant_of-self g c = kept_reply c.self.inside c.send_held.new.outbox c.self.invariant (c.send_held.ensures.gone ∙ ap (λ (held : OutboxContents). holding [] held.room) c.write_line.ensures)
