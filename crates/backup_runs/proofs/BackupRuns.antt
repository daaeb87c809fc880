-- From what backing up leaves to its run, which is one.
use Rattle.std.proofs.Common.{◌≡◌, ◌≢◌, ◌++◌, inl, inr, ℕ, List, [], Option, Some, None, refl, sym, ◌∙◌, ap, subst}
use Rattle.outside.specs.Contents.{Appends}
use Rattle.outside.specs.declared.traits.Sample.{Sample}
use Rattle.engine_core.specs.Calls.{Calls}
use Rattle.service_table.specs.declared.state.State.{State}
use Rattle.service_table.specs.declared.state.State.TheVariants as state
use Rattle.state_model.specs.ModuleView.{ModuleView}
use Rattle.state_model.specs.MachineState.{MachineState, state_of, vault_of}
use Rattle.stream_calls.specs.Streams.{Streams}
use Rattle.command_serving.specs.declared.serving.Ended.{Ended}
use Rattle.command_serving.specs.declared.serving.Ended.TheVariants as ended
use Rattle.command_serving.proofs.StreamRuns.{stream_of}
use Rattle.command_serving.proofs.OneRun.{one_stream}
use Rattle.line_serving.specs.LineGrammar.{line_grammar, line_grammar_is_lawful}
use Rattle.backup_runs.specs.declared.backing_up.BackedUp.{BackedUp}
use Rattle.backup_runs.specs.declared.backing_up.BackedUp.TheVariants as backed_up
use Rattle.backup_runs.specs.BackingUp.{backup_answer, backup_text, RunsBackup, BacksUp}

-- where no call failed, what backing up leaves is its run
pub backup_run : {V : Type 0} (calls : Calls V) (keys : List ℕ) (s : MachineState V) (events : List Sample) (answer : BackedUp) (chunk : ℕ) (m : ModuleView V) (bytes before : List ℕ) (left : List Sample) (after : Streams)
    → BacksUp calls answer chunk keys s m (record { left = Some bytes; gained = Some before }) after events left → answer ≢ backed_up.ReadFault → answer ≢ backed_up.WriteFault
    → (out : List ℕ) × RunsBackup calls keys s events bytes answer out × (after.gained ≡ Some (before ++ out))
backup_run {V} calls keys s events answer chunk m bytes before left after backs no_read no_write = elim backs.written [
  | inl whole ↦ written whole.0 whole.1
  | inr part ↦ absurd (no_write part.0)
]
  where
    written : answer ≡ backup_answer backs.ending m.public.state → Appends (Some before) (backup_text backs.ending m.public.state m.vault keys) after.gained
        → (out : List ℕ) × RunsBackup calls keys s events bytes answer out × (after.gained ≡ Some (before ++ out))
    written is appends =
        let (replied, t, runs, represents, nothing) = stream_of line_grammar calls line_grammar_is_lawful s events backs.ending chunk m bytes None left (record { left = after.left; gained = None }) backs.stepped
        (λ e. no_read (is ∙ ap (λ x. backup_answer x m.public.state) e)) (λ e. no_write (is ∙ ap (λ x. backup_answer x m.public.state) e)) in
        let same_state : m.public.state ≡ state_of t = ap (λ (x : MachineState V). state_of x) represents.same in
        let same_vault : m.vault ≡ vault_of t = ap (λ (x : MachineState V). vault_of x) represents.same in (
          backup_text backs.ending m.public.state m.vault keys,
          record {
            machine = t;
            ending = backs.ending;
            replied = replied;
            runs = runs;
            answered = is ∙ ap (λ x. backup_answer backs.ending x) same_state;
            written = ap (λ x. backup_text backs.ending x m.vault keys) same_state ∙ ap (λ x. backup_text backs.ending (state_of t) x keys) same_vault;
          },
          appends,
        )

-- the run has one answer and one output
pub one_backup : {V : Type 0} (calls : Calls V) (keys : List ℕ) (s : MachineState V) (events : List Sample) (bytes : List ℕ) (answer answer' : BackedUp) (out out' : List ℕ)
    → RunsBackup calls keys s events bytes answer out → RunsBackup calls keys s events bytes answer' out' → (answer ≡ answer') × (out ≡ out')
one_backup {V} calls keys s events bytes answer answer' out out' one other =
    let same = one_stream line_grammar calls line_grammar_is_lawful s events bytes one.machine other.machine one.ending other.ending one.replied other.replied one.runs other.runs in (
      one.answered ∙ ap (λ x. backup_answer x (state_of one.machine)) same.0 ∙ ap (λ (t : MachineState V). backup_answer other.ending (state_of t)) same.2 ∙ sym other.answered,
      one.written ∙ ap (λ x. backup_text x (state_of one.machine) (vault_of one.machine) keys) same.0 ∙ ap (λ (t : MachineState V). backup_text other.ending (state_of t) (vault_of t) keys) same.2 ∙ sym other.written,
    )
