use Rattle.std.proofs.Common.{◌≤◌, ◌≡◌, ◌+◌, length, take, ◌∙◌, ap, arith}
use Rattle.std.proofs.lemmas.List.{length-take-le}
use Rattle.module_frames.proofs.Zeros.{rest_zero, put_keeps_length}
use Rattle.module_frames.proofs.command.Command.push.Goals as goal

pub invariant_of-self : goal.invariant_of-self
invariant_of-self c =
    let used = c.self.inside.used in
    let bytes = c.self.inside.buffer.items in
    let piece = c.args.piece.now in
    let have : length (take used bytes) ≡ used = length-take-le used bytes (omega arith) in
    let body : length (take used bytes) + length piece ≤ 65600 = rw (← c.self.view_is) at c.requires in
    record {
      room = ap length c.put.ensures ∙ put_keeps_length bytes piece used (omega (arith, have, body)) ∙ c.self.invariant.room;
      within = omega (arith, have, body);
      spare = rw c.put.ensures (rest_zero bytes piece used 65600 (omega arith) c.self.invariant.spare);
    }
