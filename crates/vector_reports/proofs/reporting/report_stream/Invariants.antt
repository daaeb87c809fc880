use Rattle.std.proofs.Common.{◌≡◌, ◌-◌, ◌≤◌, List, ℕ, [], length}
use Rattle.outside.specs.Contents.{Consumes}
use Rattle.stream_calls.specs.declared.limits.TheConstants.{STREAM_MAX}
use Rattle.vector_reports.specs.Progress.{IsTally, IsLineBegun, ChunkReported}
use Rattle.vector_reports.proofs.reporting.report_stream.Given as goal

abbrev pub invariant-loop-taken : goal.invariant-loop-taken
invariant-loop-taken g l = record {
  reported : (took : List ℕ) × Consumes (g.S.Source.left l.fn.vectors) took (g.S.Source.left l.vectors) × (length took ≡ l.taken)
      × ChunkReported g.E.Engine.calls (record { engine = l.fn.engine; tally = record { lines = 0; checked = 0; passed = 0 }; gained = g.K.Sink.gained l.fn.report }) [] took
      (record { engine = l.engine; tally = l.tally; gained = g.K.Sink.gained l.report }) l.lines.text;
  begun : IsLineBegun l.lines;
  tally : IsTally l.tally l.taken;
  within : l.taken ≤ STREAM_MAX;
  chunk : length l.chunk ≡ length l.fn.chunk;
  work : length l.work ≡ length l.fn.work;
  reads : g.S.Source.faults l.vectors ≡ g.S.Source.faults l.fn.vectors;
  writes : g.K.Sink.faults l.report ≡ g.K.Sink.faults l.fn.report;
}

abbrev pub decreases-loop-taken : goal.decreases-loop-taken
decreases-loop-taken g l = STREAM_MAX - l.taken
