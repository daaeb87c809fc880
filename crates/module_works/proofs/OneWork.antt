-- A work has one status and one output.
use Rattle.std.proofs.Common.{◌≡◌, ℕ, List, sym, ◌∙◌, ap}
use Rattle.engine_core.specs.Calls.{Calls}
use Rattle.outside.specs.declared.traits.Sample.{Sample}
use Rattle.state_model.specs.MachineState.{MachineState}
use Rattle.command_serving.specs.FrameGrammar.{frame_grammar, frame_grammar_is_lawful}
use Rattle.command_serving.proofs.OneRun.{one_stream}
use Rattle.line_serving.proofs.LineRuns.{one_lines}
use Rattle.backup_runs.proofs.BackupRuns.{one_backup}
use Rattle.backup_runs.proofs.RestoredRuns.{one_restored_run}
use Rattle.program_words.specs.declared.words.Work.{Work}
use Rattle.program_words.specs.declared.words.Work.TheVariants as work
use Rattle.module_works.specs.Works.{backup_status, exit_status, line_status, restored_status, RunsWork}

pub one_work : {V : Type 0} (w : Work) (keys backup : List ℕ) (calls : Calls V) (s : MachineState V) (events : List Sample) (bytes : List ℕ) (status status' : ℕ) (out out' : List ℕ)
    → RunsWork w keys backup calls s events bytes status out → RunsWork w keys backup calls s events bytes status' out' → (status ≡ status') × (out ≡ out')
one_work work.Serve keys backup calls s events bytes status status' out out' (t, ending, is, runs) (t', ending', is', runs') =
    let same = one_stream frame_grammar calls frame_grammar_is_lawful s events bytes t t' ending ending' out out' runs runs' in
    (is ∙ ap exit_status same.0 ∙ sym is', same.1)
one_work work.Operate keys backup calls s events bytes status status' out out' (answer, is, runs) (answer', is', runs') =
    let same = one_lines calls s events bytes answer answer' out out' runs runs' in
    (is ∙ ap line_status same.0 ∙ sym is', same.1)
one_work (work.Session seed count) keys backup calls s events bytes status status' out out' one other = (one.0 ∙ sym other.0, one.1 ∙ sym other.1)
one_work work.Backup keys backup calls s events bytes status status' out out' (answer, is, runs) (answer', is', runs') =
    let same = one_backup calls keys s events bytes answer answer' out out' runs runs' in
    (is ∙ ap backup_status same.0 ∙ sym is', same.1)
one_work work.Restore keys backup calls s events bytes status status' out out' (are, (answer, is, runs)) (are', (answer', is', runs')) =
    let same = one_restored_run calls keys backup s events bytes answer answer' out out' are.bytes are.long runs runs' in
    (is ∙ ap restored_status same.0 ∙ sym is', same.1)
