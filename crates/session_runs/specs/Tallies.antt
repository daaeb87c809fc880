-- What a tally counts.
use Rattle.std.specs.Prelude.{◌≡◌, ◌<◌, ◌≤◌, ◌*◌, ℕ, List, length, get_or}
use Rattle.sha2.specs.Hashers.{Holds256}
use Rattle.bits_core.specs.declared.limits.TheConstants.{LARGEST_PAYLOAD}
use Rattle.module_frames.specs.ReplyFrames.{ReplyFrame}
use Rattle.session_runs.specs.declared.tally.Tally.{Tally}
use Rattle.session_runs.specs.declared.limits.TheConstants.{STATUSES}
use Rattle.session_runs.specs.Summaries.{status_count, payload_length, reply_bytes}

-- the counts are those of these replies, whose bytes the hasher has taken; and no payload was larger than a reply's may be
pub record IsTallyOf (tally : Tally) (replies : List ReplyFrame) : Type 0 where
  pub commands : tally.commands ≡ length replies
  pub statuses : (n : ℕ) → n < STATUSES → get_or tally.statuses n 0 ≡ status_count replies n
  pub payload : tally.payload ≡ payload_length replies
  pub hashed : Holds256 tally.hasher (reply_bytes replies)
  pub within : payload_length replies ≤ length replies * LARGEST_PAYLOAD
