use Rattle.std.proofs.Common.{ap, length, arith}
use Rattle.session_runs.proofs.SessionLengths.{session_long}
use Rattle.state_model.specs.MachineState.{initial_state}
use Rattle.module_works.proofs.WorkOutcomes.{run_from}
use Rattle.module_works.proofs.session_work.open_and_run.Goals as goal

pub returns-clause-run : goal.returns-clause-run
returns-clause-run g c =
    let s = initial_state c.args.engine c.args.image.items c.args.digest in (
      c.run_session-written.new.module,
      run_from g.E.Engine.calls c.args.seed c.args.count _ s _ _ _ _ _ _ _ c.in_ok-module.ensures.represents c.new-session.ensures c.run_session-written.ensures.whole c.run_session-written.ensures.part,
    )

pub run_session-written-requires : goal.run_session-written-requires
run_session-written-requires g c = omega (arith, ap length c.new-session.ensures, session_long c.args.seed c.args.count)
