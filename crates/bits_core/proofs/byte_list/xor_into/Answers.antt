use Rattle.std.proofs.Common.{arith}
use Rattle.bits_core.proofs.XorBytes.{is_xor_bytes}
use Rattle.bits_core.proofs.byte_list.xor_into.Goals as goal

pub returns : goal.returns
returns c =
    is_xor_bytes c.loop-i.a c.args.a.now c.args.b.now (omega arith) (omega arith) (λ k h. c.loop-i.invariant.sums k (omega arith))
