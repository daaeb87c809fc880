use Rattle.std.proofs.Common.{arith}
use Rattle.cmac_core.proofs.Shifts.{is_doubled}
use Rattle.cmac_core.proofs.doubling.double.Goals as goal

pub returns : goal.returns
returns c =
    is_doubled c.loop-i.block c.args.block.now (omega arith) (omega arith) (λ k h. c.loop-i.invariant.so_far k (omega arith)) (c.loop-i.invariant.rest 15 (omega arith))
