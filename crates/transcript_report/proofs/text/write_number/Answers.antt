use Rattle.std.proofs.Common.{subst, ◌∙◌, ◌++◌, codes, decimal}
use Rattle.outside.specs.Contents.{Appends}
use Rattle.stream_calls.specs.PartialWrites.{AppendsPart}
use Rattle.stream_calls.proofs.PartialWrites.{part_behind}
use Rattle.stream_calls.proofs.ResultCases.{on_err_then}
use Rattle.transcript_report.proofs.text.write_number.Goals as goal

-- the number was written, and no LF
pub returns-clause-part : goal.returns-clause-part
returns-clause-part g c =
    let first : Appends (g.K.Sink.gained c.args.verdict.now) (decimal c.args.number) (g.K.Sink.gained c.write_all.new.sink) =
    subst (λ xs. Appends (g.K.Sink.gained c.args.verdict.now) xs (g.K.Sink.gained c.write_all.new.sink)) (c.as_bytes.ensures.value ∙ c.format.ensures.text) c.in_ok-write_all.ensures.whole in
    on_err_then c.write_all-2.result c.write_all-2.ensures.part (λ second.
    let part : AppendsPart (g.K.Sink.gained c.args.verdict.now) (decimal c.args.number ++ codes "\n") (g.K.Sink.gained c.write_all-2.new.sink) =
    part_behind _ _ _ (decimal c.args.number) (codes "\n") first second in
    part)
