use Rattle.std.proofs.Common.{◌≡◌, [], refl, ◌∙◌, ap}
use Rattle.bits_core.specs.declared.limits.TheConstants.{LARGEST_PAYLOAD}
use Rattle.bits_core.specs.OutboxContents.{OutboxContents, holding}
use Rattle.module_frames.proofs.reply.Reply.clear.Goals as goal

pub returns : goal.returns
returns c =
    let empty : c.clear.new.self ≡ holding [] LARGEST_PAYLOAD = c.clear.ensures ∙ ap (holding []) c.args.self.now.room in
    record { frame = rw (ap (λ (contents : OutboxContents). contents.bytes) empty) refl; payload = empty }
