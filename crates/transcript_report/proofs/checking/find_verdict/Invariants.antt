use Rattle.std.proofs.Common.{◌≡◌, ◌-◌, ◌≤◌, List, ℕ, length}
use Rattle.outside.specs.Contents.{Consumes}
use Rattle.stream_calls.specs.declared.limits.TheConstants.{STREAM_MAX}
use Rattle.transcript_report.specs.Progress.{CheckedSoFar}
use Rattle.transcript_report.proofs.checking.find_verdict.Given as goal

abbrev pub invariant-loop-taken : goal.invariant-loop-taken
invariant-loop-taken g l = record {
  so_far : (took : List ℕ) × Consumes (g.S.Source.left l.fn.transcript) took (g.S.Source.left l.transcript) × (length took ≡ l.taken) × CheckedSoFar took l.checker l.count l.pairs;
  within : l.taken ≤ STREAM_MAX;
  counted : l.count ≤ l.taken;
  chunk : length l.chunk ≡ length l.fn.chunk;
  reads : g.S.Source.faults l.transcript ≡ g.S.Source.faults l.fn.transcript;
}

abbrev pub decreases-loop-taken : goal.decreases-loop-taken
decreases-loop-taken g l = STREAM_MAX - l.taken
