use Rattle.std.proofs.Common.{arith}
use Rattle.transcript_pairs.proofs.ReplyFaults.{begins_a_head}
use Rattle.transcript_pairs.proofs.reply_faults.read_whole.Goals as goal

pub unreachable-requires : goal.unreachable-requires
unreachable-requires c = begins_a_head c.args.bytes.now (λ n. omega (arith, c.type_inv.bytes n)) c.requires.no_fault c.requires.whole c.in-None.ensures
