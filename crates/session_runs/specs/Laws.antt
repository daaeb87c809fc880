-- What the lines of the statuses add up to.
use Rattle.std.specs.Prelude.{◌≡◌, ◌+◌, ℕ, List, length, map}
use Rattle.std.specs.List.{sum, range_with_len}
use Rattle.outside.specs.declared.traits.Sample.{Sample}
use Rattle.engine_core.specs.Calls.{Calls}
use Rattle.service_table.specs.Numbers.{status_number}
use Rattle.service_table.specs.declared.status.Status.TheVariants as status
use Rattle.module_frames.specs.ReplyFrames.{ReplyFrame}
use Rattle.session_commands.specs.SessionCommands.{session_commands}
use Rattle.state_model.specs.MachineState.{MachineState}
use Rattle.state_model.specs.Runs.{run_commands}
use Rattle.session_runs.specs.Summaries.{status_count}

-- the sum of the counts in a summary
abbrev pub counted : List ReplyFrame → ℕ
counted replies = sum (map (status_count replies) (range_with_len 0 16))

-- Each reply is counted in one line, unless it tells that its command was out of order.
abbrev pub EachIsCountedOnce : Type 0
EachIsCountedOnce = (replies : List ReplyFrame) → counted replies + status_count replies (status_number status.OutOfOrder) ≡ length replies

-- No command of a session is out of order, so that the lines add up to the number of its commands.
abbrev pub SessionsAreCounted : {V : Type 0} → Calls V → Type 0
SessionsAreCounted {V} calls = (s : MachineState V) (events : List Sample) (seed count : ℕ)
    → counted (run_commands calls s events (session_commands seed count)).replies ≡ 11 + count
