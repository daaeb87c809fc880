use Rattle.std.proofs.Common.{◌≡◌, ◌+◌, ◌-◌, ◌≤◌, ℕ, List, [], length}
use Rattle.outside.specs.Contents.{Consumes}
use Rattle.outside.specs.Explained.{Explained}
use Rattle.stream_calls.specs.declared.limits.TheConstants.{STREAM_MAX}
use Rattle.command_serving.specs.Decoding.{IsReady}
use Rattle.command_serving.specs.Chunks.{ChunkServed}
use Rattle.command_serving.proofs.serving.serve_stream.Given as goal

abbrev pub invariant-loop-taken : goal.invariant-loop-taken
invariant-loop-taken g l = record {
  served : (took : List ℕ) × Consumes (g.S.Source.left l.fn.commands) took (g.S.Source.left l.commands) × (length took ≡ l.taken)
      × ((g.C.Codec.holds l.codec).start + g.C.Codec.grammar.advance (g.C.Codec.holds l.codec).bytes ≡ g.C.Codec.grammar.advance took)
      × Explained (g.N.Noise.left l.fn.noise) (g.N.Noise.left l.noise) (ChunkServed g.C.Codec.grammar g.E.Engine.calls (record { view = l.fn.module; gained = g.K.Sink.gained l.fn.replies }) [] took
      (g.C.Codec.holds l.codec).bytes (record { view = l.module; gained = g.K.Sink.gained l.replies }));
  ready : IsReady g.C.Codec.grammar (g.C.Codec.holds l.codec);
  short : (g.C.Codec.holds l.codec).start + length (g.C.Codec.holds l.codec).bytes ≤ l.taken;
  within : l.taken ≤ STREAM_MAX;
  reads : g.S.Source.faults l.commands ≡ g.S.Source.faults l.fn.commands;
  writes : g.K.Sink.faults l.replies ≡ g.K.Sink.faults l.fn.replies;
}

abbrev pub decreases-loop-taken : goal.decreases-loop-taken
decreases-loop-taken g l = STREAM_MAX - l.taken
