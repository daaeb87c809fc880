use Rattle.std.proofs.Common.{◌+◌, ◌-◌, refl}
use Rattle.key_wrap.proofs.Buffers.{headed}
use Rattle.key_wrap.proofs.buffer.put_header.Goals as goal

pub returns : goal.returns
returns c =
    headed c.args.header.now c.copy_from_slice.new.self c.rotate_right.new.self c.wipe.new.bytes c.args.buf.now c.args.count (80 - (c.args.count + 8))
    c.told-buf c.told-header c.requires refl c.copy_from_slice.ensures.after c.rotate_right.ensures.after c.wipe.ensures
