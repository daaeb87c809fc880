use Rattle.std.proofs.Common.{rules}
use Rattle.module_frames.specs.Replies.{frame_of}
use Rattle.module_frames.proofs.Heads.{header_in_front, zeros_behind}
use Rattle.module_frames.proofs.reply.Reply.header.Goals as goal

pub returns-clause-header : goal.returns-clause-header
returns-clause-header c =
    rw (c.put_parts.ensures, c.header_length.ensures, c.number_bytes-number.ensures, c.version.ensures, c.to_be_bytes-code.ensures, c.to_be_bytes-length.ensures, c.payload_length.ensures, c.number.ensures, c.number-2.ensures, c.indicator.ensures)
    (header_in_front (frame_of c.args.self.now) (search rules))

pub returns-clause-spare : goal.returns-clause-spare
returns-clause-spare c =
    rw (c.put_parts.ensures, c.header_length.ensures, c.number_bytes-number.ensures, c.version.ensures, c.to_be_bytes-code.ensures, c.to_be_bytes-length.ensures, c.payload_length.ensures, c.number.ensures, c.number-2.ensures, c.indicator.ensures)
    (zeros_behind (frame_of c.args.self.now) (search rules))
