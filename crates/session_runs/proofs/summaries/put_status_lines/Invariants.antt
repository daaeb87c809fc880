use Rattle.std.proofs.Common.{◌≡◌, ◌≤◌, ◌+◌, ◌*◌, ◌++◌, length, map, get_or}
use Rattle.std.specs.List.{flat_map, range_with_len}
use Rattle.session_runs.specs.Summaries.{word_line, status_words}
use Rattle.session_runs.proofs.summaries.put_status_lines.Given as goal

abbrev pub invariant-loop-number : goal.invariant-loop-number
invariant-loop-number l = record {
  same : l.port.outbox.ghost_name ≡ l.fn.port.outbox.ghost_name;
  room : l.port.outbox.now.room ≡ l.fn.port.outbox.now.room;
  put : l.port.outbox.now.bytes ≡ l.fn.port.outbox.now.bytes ++ flat_map word_line (map (λ number. status_words number (get_or l.counts number 0)) (range_with_len 0 l.number));
  long : length l.port.outbox.now.bytes ≤ length l.fn.port.outbox.now.bytes + 80 * l.number;
}
