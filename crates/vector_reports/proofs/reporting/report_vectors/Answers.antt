use Rattle.std.proofs.Common.{subst, List, ℕ, Option, Some, length}
use Rattle.stream_calls.specs.Streams.{Streams}
use Rattle.vector_reports.specs.Reporting.{Reports}
use Rattle.vector_reports.proofs.VectorRuns.{vectors_of}
use Rattle.vector_reports.proofs.reporting.report_vectors.Goals as goal

pub returns-clause-run : goal.returns-clause-run
returns-clause-run g c bytes before told gained no_read no_write =
    let calls = g.E.Engine.calls in
    let chunk = length c.args.chunk.now in
    let v = c.args.engine.now in
    let w = c.report_stream-reported.new.engine in
    let after : Streams = record { left = g.S.Source.left c.report_stream-reported.new.vectors; gained = g.K.Sink.gained c.report_stream-reported.new.report } in
    let Left : Option (List ℕ) → Type 0 = λ xs. Reports calls c.report_stream-reported.result chunk v w (record { left = xs; gained = g.K.Sink.gained c.args.report.now }) after in
    let Gained : Option (List ℕ) → Type 0 = λ xs. Reports calls c.report_stream-reported.result chunk v w (record { left = Some bytes; gained = xs }) after in
    vectors_of calls c.report_stream-reported.result chunk v w bytes before after (subst Gained gained (subst Left told c.report_stream-reported.ensures.reported)) no_read no_write
