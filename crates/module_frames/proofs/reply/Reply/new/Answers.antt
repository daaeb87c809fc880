use Rattle.std.proofs.Common.{refl, ap}
use Rattle.bits_core.specs.OutboxContents.{OutboxContents}
use Rattle.module_frames.proofs.reply.Reply.new.Goals as goal

pub returns : goal.returns
returns c = record { frame = rw (ap (λ (contents : OutboxContents). contents.bytes) c.in_ok-payload.ensures) refl; payload = c.in_ok-payload.ensures }
