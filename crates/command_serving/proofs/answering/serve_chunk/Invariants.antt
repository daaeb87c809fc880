use Rattle.std.proofs.Common.{◌≡◌, ◌-◌, ◌+◌, ◌≤◌, take, length}
use Rattle.outside.specs.Explained.{Explained}
use Rattle.command_serving.specs.Decoding.{IsReady}
use Rattle.command_serving.specs.Chunks.{ChunkServed}
use Rattle.command_serving.proofs.answering.serve_chunk.Given as goal

abbrev pub invariant-loop-done : goal.invariant-loop-done
invariant-loop-done g l = record {
  within : l.done ≤ length l.chunk;
  served : Explained (g.N.Noise.left l.fn.noise) (g.N.Noise.left l.noise) (ChunkServed g.C.Codec.grammar g.E.Engine.calls
      (record { view = l.fn.module; gained = g.K.Sink.gained l.fn.replies }) (g.C.Codec.holds l.fn.codec).bytes (take l.done l.chunk) (g.C.Codec.holds l.codec).bytes
      (record { view = l.module; gained = g.K.Sink.gained l.replies }));
  ready : IsReady g.C.Codec.grammar (g.C.Codec.holds l.codec);
  place : (g.C.Codec.holds l.codec).start + g.C.Codec.grammar.advance (g.C.Codec.holds l.codec).bytes
      ≡ (g.C.Codec.holds l.fn.codec).start + g.C.Codec.grammar.advance (g.C.Codec.holds l.fn.codec).bytes + g.C.Codec.grammar.advance (take l.done l.chunk);
  short : (g.C.Codec.holds l.codec).start + length (g.C.Codec.holds l.codec).bytes ≤ (g.C.Codec.holds l.fn.codec).start + length (g.C.Codec.holds l.fn.codec).bytes + l.done;
  faults_unchanged : g.K.Sink.faults l.replies ≡ g.K.Sink.faults l.fn.replies;
}

abbrev pub decreases-loop-done : goal.decreases-loop-done
decreases-loop-done g l = length l.chunk - l.done
