use Rattle.std.proofs.Common.{◌++◌, codes, decimal}
use Rattle.stream_calls.specs.PartialWrites.{AppendsPart}
use Rattle.stream_calls.proofs.PartialWrites.{part_behind}
use Rattle.stream_calls.proofs.ResultCases.{on_err_then}
use Rattle.transcript_report.proofs.text.write_line.Goals as goal

-- the word was written, and a part of what is behind it
pub returns-clause-part : goal.returns-clause-part
returns-clause-part g c =
    on_err_then c.write_number.result c.write_number.ensures.part (λ second.
    let part : AppendsPart (g.K.Sink.gained c.args.verdict.now) (c.args.word.now ++ (decimal c.args.number ++ codes "\n")) (g.K.Sink.gained c.write_number.new.verdict) =
    part_behind _ _ _ c.args.word.now (decimal c.args.number ++ codes "\n") c.in_ok-write_all.ensures.whole second in
    part)
