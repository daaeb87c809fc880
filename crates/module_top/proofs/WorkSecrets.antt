-- Works on inputs that differ in secrets alone run alike.
use Rattle.std.proofs.Common.{◌≡◌, ◌++◌, ℕ, List, [], length, append-nil, refl, sym, ◌∙◌, subst}
use Rattle.outside.specs.declared.traits.Sample.{Sample}
use Rattle.engine_core.specs.Calls.{Calls, IsStandard}
use Rattle.module_frames.specs.ReplyFrames.{ReplyFrame}
use Rattle.state_model.specs.MachineState.{MachineState}
use Rattle.information_flow.specs.Tainted.{untainted}
use Rattle.information_flow.specs.Variants.{CommandPair}
use Rattle.information_flow.specs.Flow.{RunsAgree}
use Rattle.information_flow.specs.OneCommand.{AllCommitInto, TreeHoldsTaint}
use Rattle.command_serving.specs.FrameGrammar.{frame_grammar}
use Rattle.command_serving.specs.Run.{RunsStream, encoded_replies}
use Rattle.command_serving.proofs.SecretStreams.{IsServedBy, OtherServed, stream_alike}
use Rattle.line_serving.specs.LineSecrets.{OtherLinesRun, VariantLinesRunAlike}
use Rattle.line_serving.specs.Operating.{RunsLines, last_text}
use Rattle.line_serving.specs.declared.operating.Operated.{Operated}
use Rattle.line_serving.proofs.LineSecrets.{lines_alike}
use Rattle.backup_runs.specs.declared.restoring.Restored.{Restored}
use Rattle.backup_runs.specs.declared.restoring.Restored.TheVariants as restored
use Rattle.backup_runs.specs.Restoring.{BeginsRestored, RunsRestored, as_officer}
use Rattle.backup_runs.proofs.RestoredRuns.{never_both, one_restored}
use Rattle.program_words.specs.declared.words.Work.{Work}
use Rattle.program_words.specs.declared.words.Work.TheVariants as work
use Rattle.module_top.specs.Secrets.{AreVariants, Begins, written_replies}
use Rattle.module_works.specs.Works.{restored_status, RunsWork}

-- The run over other input from t, to which a work came from s: its replies agree with these, and the same end is written behind them.
pub record OtherWork {V : Type 0} (w : Work) (keys backup : List ℕ) (calls : Calls V) (s t : MachineState V) (events left : List Sample) (other : List ℕ) (pairs : List CommandPair) (status : ℕ) (replies : List ReplyFrame) (end : List ℕ) : Type 0 where
  pub others : List ReplyFrame
  pub runs : RunsWork w keys backup calls s events other status (written_replies w others ++ end)
  pub agree : RunsAgree calls untainted t t left pairs replies others
  pub one_command : (k : ℕ) → AllCommitInto calls k untainted t left pairs → TreeHoldsTaint calls k untainted t t left pairs

-- the replies of a run, and what each other input that differs in secrets alone gives
pub record WorkAlike {V : Type 0} (w : Work) (keys backup : List ℕ) (calls : Calls V) (s t : MachineState V) (events left : List Sample) (bytes : List ℕ) (status : ℕ) (out : List ℕ) : Type 0 where
  pub replies : List ReplyFrame
  pub end : List ℕ
  pub written : out ≡ written_replies w replies ++ end
  pub alike : (other : List ℕ) (pairs : List CommandPair) → AreVariants w calls t left bytes other pairs → OtherWork w keys backup calls s t events left other pairs status replies end

pub work_alike : {V : Type 0} (w : Work) (keys backup : List ℕ) (calls : Calls V) → IsStandard calls → (s t : MachineState V) (events left : List Sample) (bytes : List ℕ) (status : ℕ) (out : List ℕ) → length s.shared.ancestry ≡ 16
    → Begins w keys backup calls s events t left → RunsWork w keys backup calls s events bytes status out → WorkAlike w keys backup calls s t events left bytes status out
work_alike {V} work.Serve keys backup calls plain s t events left bytes status out sixteen (same, same_left) (last, ending, is, runs) =
    let Alike : MachineState V → Type 0 = λ x. WorkAlike work.Serve keys backup calls s x events left bytes status out in
    let With : List Sample → Type 0 = λ e. WorkAlike work.Serve keys backup calls s s events e bytes status out in
    subst Alike (sym same) (subst With (sym same_left) here)
  where
    kept : IsServedBy calls s events bytes ending out
    kept = stream_alike calls plain s events bytes last ending out sixteen runs

    here : WorkAlike work.Serve keys backup calls s s events events bytes status out
    here = record {
      replies = kept.replies;
      end = [];
      written = kept.written ∙ sym (append-nil (encoded_replies frame_grammar kept.replies));
      alike = λ other pairs variant.
          let served : OtherServed calls s events other pairs ending kept.replies = kept.others other pairs variant.0 variant.1 in
          let Out : List ℕ → Type 0 = λ xs. RunsStream frame_grammar calls s events other served.machine ending xs in
          record {
            others = served.others;
            runs = (served.machine, ending, is, subst Out (sym (append-nil (encoded_replies frame_grammar served.others))) served.serves);
            agree = served.agree;
            one_command = served.one_command;
          };
    }
work_alike {V} work.Operate keys backup calls plain s t events left bytes status out sixteen (same, same_left) (answer, is, runs) =
    let Alike : MachineState V → Type 0 = λ x. WorkAlike work.Operate keys backup calls s x events left bytes status out in
    let With : List Sample → Type 0 = λ e. WorkAlike work.Operate keys backup calls s s events e bytes status out in
    subst Alike (sym same) (subst With (sym same_left) here)
  where
    kept : VariantLinesRunAlike calls s events bytes answer out
    kept = lines_alike calls plain s events bytes answer out sixteen runs

    here : WorkAlike work.Operate keys backup calls s s events events bytes status out
    here = record {
      replies = kept.replies;
      end = last_text answer;
      written = kept.written;
      alike = λ other pairs variant.
          let served : OtherLinesRun calls s events other pairs answer kept.replies = kept.alike other pairs variant in
          record { others = served.others; runs = (answer, is, served.runs); agree = served.agree; one_command = served.one_command };
    }
work_alike (work.Session seed count) keys backup calls plain s t events left bytes status out sixteen begins runs =
    record { replies = []; end = out; written = refl; alike = λ other pairs variant. absurd variant }
work_alike work.Backup keys backup calls plain s t events left bytes status out sixteen begins runs =
    record { replies = []; end = out; written = refl; alike = λ other pairs variant. absurd variant }
work_alike {V} work.Restore keys backup calls plain s t events left bytes status out sixteen begins (are, (answer, is, runs)) = by_answer answer is runs
  where
    -- lines were served from t
    from : (last : Operated) (u : MachineState V) (mid : List Sample) → BeginsRestored calls keys backup s events u mid → status ≡ restored_status (restored.Operated last) → RunsLines calls u mid bytes last out
        → u ≡ t → mid ≡ left → WorkAlike work.Restore keys backup calls s t events left bytes status out
    from last u mid others_begin ends ran same same_left =
        let From : MachineState V → Type 0 = λ x. RunsLines calls x mid bytes last out in
        let With : List Sample → Type 0 = λ e. RunsLines calls t e bytes last out in
        let kept : VariantLinesRunAlike calls t left bytes last out = lines_alike calls plain t left bytes last out begins.restored.well_formed.slots.sixteen_rows (subst With same_left (subst From same ran)) in
        record {
          replies = kept.replies;
          end = last_text last;
          written = kept.written;
          alike = λ other pairs variant.
              let served : OtherLinesRun calls t left other pairs last kept.replies = kept.alike other pairs variant in
              record { others = served.others; runs = (are, (restored.Operated last, ends, (t, left, begins, served.runs))); agree = served.agree; one_command = served.one_command };
        }

    by_answer : (a : Restored) → status ≡ restored_status a → RunsRestored calls keys backup s events bytes a out → WorkAlike work.Restore keys backup calls s t events left bytes status out
    by_answer restored.NotOfficer ends h = absurd (h.0 begins.officer)
    by_answer restored.Refused ends h = absurd (never_both keys backup (as_officer calls s events).machine t are.bytes are.long begins.restored h.1)
    by_answer (restored.Operated last) ends (u, mid, others_begin, ran) =
        from last u mid others_begin ends ran (one_restored keys backup (as_officer calls s events).machine u t are.bytes are.long others_begin.restored begins.restored)
        (others_begin.noise_left ∙ sym begins.noise_left)
