use Rattle.state_model.specs.MachineState.{initial_state}
use Rattle.program_words.specs.declared.words.Work.TheVariants as work
use Rattle.module_works.proofs.WorkOutcomes.{no_work, lines_operated}
use Rattle.module_works.proofs.lines_work.operate_lines.Goals as goal

pub returns-in-Ok : goal.returns-in-Ok
returns-in-Ok g c =
    let served = c.in-Ok.ensures.served in record {
      outcome = λ keys backup. lines_operated keys backup g.E.Engine.calls _ c.in-Ok.answer _ _ _ served.0 _ _ c.result_of.ensures served.1
          c.in-Ok.ensures.read_fault c.in-Ok.ensures.reads_unchanged c.in-Ok.ensures.write_fault c.in-Ok.ensures.writes_unchanged;
    }

pub returns-in-Err : goal.returns-in-Err
returns-in-Err g c = record {
  outcome = λ keys backup. rw (c.in-Err.ensures.untouched.0, c.in-Err.ensures.untouched.1) (no_work work.Operate keys backup g.E.Engine.calls (initial_state c.args.engine c.args.image.items c.args.digest) _ _ _);
}
