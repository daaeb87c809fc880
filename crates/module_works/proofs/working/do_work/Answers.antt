use Rattle.module_works.proofs.WorkOutcomes.{beside_no_source}
use Rattle.module_works.proofs.working.do_work.Goals as goal

pub returns-in-Serve : goal.returns-in-Serve
returns-in-Serve g c = record { outcome = rw c.in-Serve.is (c.serve_frames.ensures.outcome c.args.keys.now c.args.backup.now) }

pub returns-in-Operate : goal.returns-in-Operate
returns-in-Operate g c = record { outcome = rw c.in-Operate.is (c.operate_lines.ensures.outcome c.args.keys.now c.args.backup.now) }

pub returns-in-Session : goal.returns-in-Session
returns-in-Session g c = record {
  outcome = rw c.in-Session.is (beside_no_source c.in-Session.seed c.in-Session.count c.args.keys.now c.args.backup.now c.args.keys.now c.args.backup.now g.E.Engine.calls _ _ _ _ _ _ _ _ _ _ _ _ _
      (c.summarise.ensures.outcome c.args.keys.now c.args.backup.now));
}

pub returns-in-Backup : goal.returns-in-Backup
returns-in-Backup g c = record { outcome = rw c.in-Backup.is (c.back_up_lines.ensures.outcome c.args.backup.now) }
