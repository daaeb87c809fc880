use Rattle.std.proofs.Common.{◌≡◌, ◌++◌, drop}
use Rattle.bits_core.specs.ByteList.{zeros}
use Rattle.line_input.proofs.lines.zero_used.Given as goal

abbrev pub invariant-loop-offset : goal.invariant-loop-offset
invariant-loop-offset l = l.buffer.items ≡ zeros l.offset ++ drop l.offset l.initial.buffer.items
