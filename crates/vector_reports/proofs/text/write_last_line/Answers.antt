use Rattle.std.proofs.Common.{subst, ◌++◌, ◌∙◌}
use Rattle.std.specs.Prelude.{codes}
use Rattle.std.specs.Fmt.{decimal}
use Rattle.outside.specs.Contents.{Appends}
use Rattle.stream_calls.specs.PartialWrites.{AppendsPart}
use Rattle.stream_calls.proofs.PartialWrites.{part_behind}
use Rattle.stream_calls.proofs.ResultCases.{on_err_then}
use Rattle.vector_reports.specs.ReportText.{last_line}
use Rattle.vector_reports.proofs.text.write_last_line.Goals as goal

-- the first number was written, and a part of what is behind it
pub returns-clause-part : goal.returns-clause-part
returns-clause-part g c =
    let passed = decimal c.args.tally.now.passed in
    let more = codes " of " ++ (decimal c.args.tally.now.checked ++ codes "\n") in
    let first : Appends (g.K.Sink.gained c.args.report.now) passed (g.K.Sink.gained c.write_all.new.sink) =
    subst (λ xs. Appends (g.K.Sink.gained c.args.report.now) xs (g.K.Sink.gained c.write_all.new.sink)) (c.as_bytes.ensures.value ∙ c.format.ensures.text) c.in_ok-write_all.ensures.whole in
    on_err_then c.write_words.result c.write_words.ensures.part (λ second.
    let part : AppendsPart (g.K.Sink.gained c.args.report.now) (last_line c.args.tally.now.passed c.args.tally.now.checked) (g.K.Sink.gained c.write_words.new.report) =
    part_behind _ _ _ passed more first second in
    part)
