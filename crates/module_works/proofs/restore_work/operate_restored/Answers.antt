use Rattle.state_model.specs.MachineState.{initial_state}
use Rattle.program_words.specs.declared.words.Work.TheVariants as work
use Rattle.module_works.proofs.WorkOutcomes.{no_work, lines_restored}
use Rattle.module_works.proofs.restore_work.operate_restored.Goals as goal

pub returns-in-Ok : goal.returns-in-Ok
returns-in-Ok g c =
    let restored = c.in-Ok.ensures.restored in record {
      outcome = lines_restored c.args.keys.now c.args.backup.now g.E.Engine.calls _ c.in-Ok.answer _ _ _ restored.0 _ _ (record { bytes = c.known_bytes.ensures; long = c.requires }) c.fault_of.ensures restored.1 c.in-Ok.ensures.untouched
          c.in-Ok.ensures.read_fault c.in-Ok.ensures.reads_unchanged c.in-Ok.ensures.write_fault c.in-Ok.ensures.writes_unchanged;
    }

pub returns-in-Err : goal.returns-in-Err
returns-in-Err g c = record {
  outcome = rw (c.in-Err.ensures.no_memory.0, c.in-Err.ensures.no_memory.1)
      (no_work work.Restore c.args.keys.now c.args.backup.now g.E.Engine.calls (initial_state c.args.engine c.args.image.items c.args.digest) _ _ _);
}
