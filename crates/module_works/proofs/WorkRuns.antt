-- From what a work leaves to its run.
use Rattle.std.proofs.Common.{◌≡◌, ◌≢◌, ◌++◌, inl, inr, ℕ, List, Some, refl, ap, ◌∙◌}
use Rattle.outside.specs.declared.traits.Sample.{Sample}
use Rattle.engine_core.specs.Calls.{Calls}
use Rattle.state_model.specs.ModuleView.{ModuleView}
use Rattle.state_model.specs.MachineState.{MachineState}
use Rattle.stream_calls.specs.declared.limits.TheConstants.{CHUNK}
use Rattle.command_serving.specs.FrameGrammar.{frame_grammar, frame_grammar_is_lawful}
use Rattle.stream_calls.specs.Streams.{Streams}
use Rattle.command_serving.proofs.StreamRuns.{stream_of}
use Rattle.line_serving.proofs.LineRuns.{lines_of}
use Rattle.backup_runs.proofs.BackupRuns.{backup_run}
use Rattle.backup_runs.proofs.RestoredRuns.{restored_run}
use Rattle.program_words.specs.declared.words.Work.{Work}
use Rattle.program_words.specs.declared.words.Work.TheVariants as work
use Rattle.module_works.specs.Works.{backup_status, exit_status, line_status, restored_status, summary_of, RunsWork, LeavesWork}

-- where no call failed, what a work leaves is its run
pub work_of : {V : Type 0} (w : Work) (keys backup : List ℕ) (calls : Calls V) (s : MachineState V) (events : List Sample) (status : ℕ) (m : ModuleView V) (bytes before : List ℕ) (left : List Sample) (after : Streams)
    → LeavesWork w keys backup calls status s m (record { left = Some bytes; gained = Some before }) after events left → status ≢ 5 → status ≢ 6
    → (out : List ℕ) × RunsWork w keys backup calls s events bytes status out × (after.gained ≡ Some (before ++ out))
work_of work.Serve keys backup calls s events status m bytes before left after (ending, is, serves) no_read no_write =
    let (out, t, runs, represents, gained) =
    stream_of frame_grammar calls frame_grammar_is_lawful s events ending CHUNK m bytes (Some before) left after serves (λ e. no_read (is ∙ ap exit_status e)) (λ e. no_write (is ∙ ap exit_status e)) in
    (out, (t, ending, is, runs), gained)
work_of work.Operate keys backup calls s events status m bytes before left after (answer, is, operates) no_read no_write =
    let made = lines_of calls s events answer CHUNK m bytes before left after operates (λ e. no_read (is ∙ ap line_status e)) (λ e. no_write (is ∙ ap line_status e)) in
    (made.0, (answer, is, made.1), made.2)
work_of (work.Session seed count) keys backup calls s events status m bytes before left after run no_read no_write =
    elim run.written [
      | inl whole ↦ (summary_of calls s events seed count, (whole.0, refl), whole.1)
      | inr part ↦ absurd (no_write part.0)
    ]
work_of work.Backup keys backup calls s events status m bytes before left after (answer, is, backs) no_read no_write =
    let made = backup_run calls keys s events answer CHUNK m bytes before left after backs (λ e. no_read (is ∙ ap backup_status e)) (λ e. no_write (is ∙ ap backup_status e)) in
    (made.0, (answer, is, made.1), made.2)
work_of work.Restore keys backup calls s events status m bytes before left after (are, (answer, is, restores)) no_read no_write =
    let made = restored_run calls keys backup s events answer CHUNK m bytes before left after restores (λ e. no_read (is ∙ ap restored_status e)) (λ e. no_write (is ∙ ap restored_status e)) in
    (made.0, (are, (answer, is, made.1)), made.2)
