use Rattle.std.proofs.Common.{◌++◌}
use Rattle.std.specs.Fmt.{decimal}
use Rattle.stream_calls.specs.PartialWrites.{AppendsPart}
use Rattle.stream_calls.proofs.PartialWrites.{part_behind}
use Rattle.stream_calls.proofs.ResultCases.{on_err_then}
use Rattle.vector_reports.proofs.text.write_words.Goals as goal

-- the first word was written, and a part of what is behind it
pub returns-clause-part : goal.returns-clause-part
returns-clause-part g c =
    on_err_then c.write_number.result c.write_number.ensures.part (λ second.
    let part : AppendsPart (g.K.Sink.gained c.args.report.now) (c.args.first.now ++ (decimal c.args.number ++ c.args.word.now)) (g.K.Sink.gained c.write_number.new.report) =
    part_behind _ _ _ c.args.first.now (decimal c.args.number ++ c.args.word.now) c.in_ok-write_all.ensures.whole second in
    part)
