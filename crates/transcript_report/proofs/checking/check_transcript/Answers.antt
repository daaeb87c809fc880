use Rattle.std.proofs.Common.{subst, List, ℕ, Option, Some, length}
use Rattle.stream_calls.specs.Streams.{Streams}
use Rattle.transcript_report.specs.Checks.{Checks}
use Rattle.transcript_report.proofs.VerdictEnds.{text_written}
use Rattle.transcript_report.proofs.VerdictRuns.{verdict_of}
use Rattle.transcript_report.proofs.checking.check_transcript.Goals as goal

pub returns-in-Ok-clause-run : goal.returns-in-Ok-clause-run
returns-in-Ok-clause-run g c bytes before told gained no_read no_write =
    let found = c.find_verdict-found.result in
    let chunk = length c.args.chunk.now in
    let left = g.S.Source.left c.args.transcript.now in
    let left' = g.S.Source.left c.find_verdict-found.new.transcript in
    let gained' = g.K.Sink.gained c.write_text.new.verdict in
    let after : Streams = record { left = left'; gained = gained' } in
    let checks : Checks found chunk (record { left = left; gained = g.K.Sink.gained c.args.verdict.now }) after =
    text_written found c.find_verdict-found.new.count chunk left left' (g.K.Sink.gained c.args.verdict.now) gained' c.find_verdict-found.ensures.found c.find_verdict-found.ensures.read_fault c.in-Ok.ensures.whole in
    let Left : Option (List ℕ) → Type 0 = λ xs. Checks found chunk (record { left = xs; gained = g.K.Sink.gained c.args.verdict.now }) after in
    let Gained : Option (List ℕ) → Type 0 = λ xs. Checks found chunk (record { left = Some bytes; gained = xs }) after in
    verdict_of found chunk bytes before after (subst Gained gained (subst Left told checks)) no_read no_write
