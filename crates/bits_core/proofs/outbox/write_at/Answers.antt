use Rattle.std.proofs.Common.{◌≡◌, ◌+◌, ◌-◌, ◌≤◌, length, arith}
use Rattle.std.proofs.lemmas.Slice.{drop-put_mid}
use Rattle.bits_core.proofs.outbox.write_at.Goals as goal

pub returns-clause-rest : goal.returns-clause-rest
returns-clause-rest c =
    let at = c.args.at in
    let end = c.args.at + length c.args.piece.now in
    let within : at + (end - at) ≤ end = omega arith in
    let inside : at ≤ length c.args.buffer.now = omega (arith, c.requires) in
    let long : length c.copy_from_slice.new.self ≡ end - at = omega (arith, c.copy_from_slice.ensures.len) in
    drop-put_mid at (end - at) c.args.buffer.now c.copy_from_slice.new.self end within inside long
