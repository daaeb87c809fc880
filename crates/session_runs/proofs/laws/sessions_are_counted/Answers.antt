use Rattle.std.proofs.Common.{arith}
use Rattle.session_commands.specs.SessionCommands.{session_commands}
use Rattle.state_model.specs.Runs.{run_commands}
use Rattle.session_runs.proofs.Counting.{counted_once}
use Rattle.session_runs.proofs.InOrder.{none_out_of_order, replies_long, session_is_unnumbered}
use Rattle.session_runs.proofs.SessionLengths.{session_long}
use Rattle.session_runs.proofs.laws.sessions_are_counted.Goals as goal

pub returns-clause-once : goal.returns-clause-once
returns-clause-once g c replies = counted_once replies

pub returns-clause-session : goal.returns-clause-session
returns-clause-session g c s events seed count =
    let commands = session_commands seed count in
    let replies = (run_commands g.E.Engine.calls s events commands).replies in
    omega (
      arith,
      counted_once replies,
      none_out_of_order g.E.Engine.calls c.numbers_are_in_order.ensures.late s events commands (session_is_unnumbered seed count),
      replies_long g.E.Engine.calls s events commands,
      session_long seed count,
    )
