use Rattle.std.proofs.Common.{◌++◌, ◌∙◌, ℕ, ap, get_or, arith}
use Rattle.session_runs.specs.Summaries.{status_words, word_line}
use Rattle.session_runs.proofs.Rows.{lines_more}
use Rattle.session_runs.proofs.summaries.put_status_lines.Goals as goal

pub loop-number-preserved : goal.loop-number-preserved
loop-number-preserved c =
    let i = c.loop-number.invariant in
    record {
      same = c.put_status_line.ensures.same ∙ i.same;
      room = c.put_status_line.ensures.room ∙ i.room;
      put = lines_more c.args.port.now.outbox.now.bytes c.loop-number.port.outbox.now.bytes c.put_status_line.new.port.outbox.now.bytes
          (λ number. status_words number (get_or c.args.counts.now number 0)) c.loop-number.number i.put
          (c.put_status_line.ensures.put ∙ ap (λ (k : ℕ). c.loop-number.port.outbox.now.bytes ++ word_line (status_words c.loop-number.number (get_or c.args.counts.now k 0))) c.from.ensures);
      long = omega (arith, c.put_status_line.ensures.long, i.long);
    }
