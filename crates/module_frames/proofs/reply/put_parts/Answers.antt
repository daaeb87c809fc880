use Rattle.std.proofs.Common.{rules}
use Rattle.module_frames.proofs.Joined.{five_parts}
use Rattle.module_frames.proofs.reply.put_parts.Goals as goal

pub returns : goal.returns
returns c =
    rw (c.copy_from_slice.ensures.after, c.copy_from_slice-2.ensures.after, c.copy_from_slice-3.ensures.after, c.copy_from_slice-4.ensures.after, c.copy_from_slice-5.ensures.after)
    (five_parts c.args.into.now c.args.front.now c.args.code.now c.args.block.now c.args.payload.now c.args.number.now (search rules) (search rules) (search rules) (search rules) (search rules))
