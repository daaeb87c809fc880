use Rattle.std.proofs.Common.{refl, sym, ap}
use Rattle.module_works.specs.Works.{written_status}
use Rattle.module_works.proofs.WorkOutcomes.{session_run}
use Rattle.module_works.proofs.session_work.summarise.Goals as goal

pub returns-in-Ok-Ok : goal.returns-in-Ok-Ok
returns-in-Ok-Ok g c =
    let e = c.in-Ok-Ok.ensures in record {
      outcome = λ keys backup. session_run keys backup g.E.Engine.calls _ c.args.seed c.args.count c.in-Ok-Ok.field-0 _ _ _ e.run.0 _ _ (sym (ap (λ w. written_status w) c.in-Ok-Ok.field-0-is)) e.run.1 e.fault_counted e.faults_unchanged refl refl;
    }

pub returns-in-Ok-Err : goal.returns-in-Ok-Err
returns-in-Ok-Err g c =
    let e = c.in-Ok-Err.ensures in record {
      outcome = λ keys backup. session_run keys backup g.E.Engine.calls _ c.args.seed c.args.count c.in-Ok-Err.field-0 _ _ _ e.run.0 _ _ (sym (ap (λ w. written_status w) c.in-Ok-Err.field-0-is)) e.run.1 e.fault_counted e.faults_unchanged refl refl;
    }
