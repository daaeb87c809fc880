use Rattle.std.proofs.Common.{◌≡◌, ◌++◌, drop, replicate}
use Rattle.module_frames.proofs.command.zero_used.Given as goal

abbrev pub invariant-loop-offset : goal.invariant-loop-offset
invariant-loop-offset l = l.buffer.items ≡ replicate l.offset 0 ++ drop l.offset l.initial.buffer.items
