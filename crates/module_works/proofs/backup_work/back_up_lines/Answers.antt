use Rattle.state_model.specs.MachineState.{initial_state}
use Rattle.program_words.specs.declared.words.Work.TheVariants as work
use Rattle.module_works.proofs.WorkOutcomes.{no_work, lines_backed_up}
use Rattle.module_works.proofs.backup_work.back_up_lines.Goals as goal

pub returns-in-Ok : goal.returns-in-Ok
returns-in-Ok g c =
    let backed = c.in-Ok.ensures.backed_up in record {
      outcome = λ unused. lines_backed_up c.args.keys.now unused g.E.Engine.calls _ c.in-Ok.answer _ _ _ backed.0 _ _ c.result_of.ensures backed.1
          c.in-Ok.ensures.read_fault c.in-Ok.ensures.reads_unchanged c.in-Ok.ensures.write_fault c.in-Ok.ensures.writes_unchanged;
    }

pub returns-in-Err : goal.returns-in-Err
returns-in-Err g c = record {
  outcome = λ unused. rw (c.in-Err.ensures.untouched.0, c.in-Err.ensures.untouched.1) (no_work work.Backup c.args.keys.now unused g.E.Engine.calls (initial_state c.args.engine c.args.image.items c.args.digest) _ _ _);
}
