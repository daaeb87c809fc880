use Rattle.std.proofs.Common.{get_or}
use Rattle.session_runs.proofs.Rows.{whole_summary}
use Rattle.session_runs.specs.Summaries.{reply_bytes}
use Rattle.session_runs.proofs.summaries.put_lines.Goals as goal

pub returns-clause-put : goal.returns-clause-put
returns-clause-put c replies is =
    whole_summary replies c.args.last (λ number. get_or c.args.tally.statuses number 0) c.args.tally.commands c.args.tally.payload c.state_name.result.now
    c.put_number_line.new.port.outbox.now.bytes c.put_status_lines.new.port.outbox.now.bytes c.put_number_line-2.new.port.outbox.now.bytes
    c.put_word_line.new.port.outbox.now.bytes c.put_digest_line.new.port.outbox.now.bytes
    (record {
      first_put = rw c.requires.empty at c.put_number_line.ensures.put;
      second_put = c.put_status_lines.ensures.put;
      third_put = c.put_number_line-2.ensures.put;
      fourth_put = c.put_word_line.ensures.put;
      fifth_put = c.put_digest_line.ensures.put (reply_bytes replies) is.hashed;
    })
    is.commands is.statuses is.payload c.state_name.ensures.name
