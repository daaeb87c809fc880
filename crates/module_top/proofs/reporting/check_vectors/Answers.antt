use Rattle.std.proofs.Common.{refl}
use Rattle.program_words.specs.Forms.{Vectors}
use Rattle.module_top.proofs.RunOutcomes.{no_memory}
use Rattle.module_top.proofs.ReportOutcomes.{vectors_reported}
use Rattle.module_top.proofs.reporting.check_vectors.Goals as goal

pub returns-in-Ok : goal.returns-in-Ok
returns-in-Ok g c = record {
  outcome = λ files file_faults.
      rw c.result_of.ensures (vectors_reported g.E.Engine.calls c.args.engine c.in-Ok.ensures.reported.0 files c.in-Ok.answer _ _ refl c.in-Ok.ensures.reported.1 c.in-Ok.ensures.reads c.in-Ok.ensures.writes);
}

pub returns-in-Err : goal.returns-in-Err
returns-in-Err g c = record {
  outcome = λ files file_faults. rw (c.in-Err.ensures.untouched.0, c.in-Err.ensures.untouched.1) (no_memory g.E.Engine.calls c.args.engine files Vectors _ file_faults refl);
}
