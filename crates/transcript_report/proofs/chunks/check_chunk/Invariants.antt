use Rattle.std.proofs.Common.{◌-◌, ◌+◌, ◌++◌, ◌≤◌, ℕ, List, take, length}
use Rattle.transcript_report.specs.Progress.{CheckedSoFar}
use Rattle.transcript_report.proofs.chunks.check_chunk.Given as goal

abbrev pub invariant-loop-done : goal.invariant-loop-done
invariant-loop-done l = record {
  within : l.done ≤ length l.chunk;
  so_far : (taken : List ℕ) → CheckedSoFar taken l.fn.checker l.fn.count l.fn.pairs → CheckedSoFar (taken ++ take l.done l.chunk) l.checker l.count l.pairs;
  counted : l.count ≤ l.fn.count + l.done;
}

abbrev pub decreases-loop-done : goal.decreases-loop-done
decreases-loop-done l = length l.chunk - l.done
