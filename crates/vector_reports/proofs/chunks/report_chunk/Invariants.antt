use Rattle.std.proofs.Common.{◌≡◌, ◌-◌, ◌+◌, ◌≤◌, take, length}
use Rattle.vector_reports.specs.Progress.{IsTally, IsLineBegun, ChunkReported}
use Rattle.vector_reports.proofs.chunks.report_chunk.Given as goal

abbrev pub invariant-loop-done : goal.invariant-loop-done
invariant-loop-done g l = record {
  within : l.done ≤ length l.chunk;
  begun : IsLineBegun l.lines;
  tally : IsTally l.tally (l.fn.tally.lines + l.done);
  reported : ChunkReported g.E.Engine.calls (record { engine = l.fn.engine; tally = l.fn.tally; gained = g.K.Sink.gained l.fn.report }) l.fn.lines.text (take l.done l.chunk)
      (record { engine = l.engine; tally = l.tally; gained = g.K.Sink.gained l.report }) l.lines.text;
  faults_unchanged : g.K.Sink.faults l.report ≡ g.K.Sink.faults l.fn.report;
  work : length l.work ≡ length l.fn.work;
}

abbrev pub decreases-loop-done : goal.decreases-loop-done
decreases-loop-done g l = length l.chunk - l.done
