-- The run over the lines of a source.
use Rattle.std.proofs.Common.{◌≡◌, ◌≢◌, ◌++◌, ℕ, List, [], Option, Some, refl, sym, ◌∙◌, ap, subst, append-nil, append_assoc}
use Rattle.outside.specs.Contents.{Appends}
use Rattle.outside.specs.declared.traits.Sample.{Sample}
use Rattle.engine_core.specs.Calls.{Calls}
use Rattle.state_model.specs.ModuleView.{ModuleView}
use Rattle.state_model.specs.MachineState.{MachineState}
use Rattle.command_serving.specs.declared.serving.Ended.{Ended}
use Rattle.command_serving.specs.declared.serving.Ended.TheVariants as ended
use Rattle.stream_calls.specs.Streams.{Streams}
use Rattle.command_serving.specs.Serving.{Serves}
use Rattle.command_serving.proofs.StreamRuns.{LeavesRun, stream_of}
use Rattle.command_serving.proofs.OneRun.{one_stream}
use Rattle.line_serving.specs.declared.operating.Operated.{Operated}
use Rattle.line_serving.specs.declared.operating.Operated.TheVariants as operated
use Rattle.line_serving.specs.BadLines.{bad_line_text}
use Rattle.line_serving.specs.LineGrammar.{line_grammar, line_grammar_is_lawful}
use Rattle.line_serving.specs.Operating.{Operates, RunsLines, ending_for, last_text, with_gained}

-- where no call failed, what serving lines leaves is the run over them
pub lines_of : {V : Type 0} (calls : Calls V) (s : MachineState V) (events : List Sample) (answer : Operated) (chunk : ℕ) (m : ModuleView V) (bytes before : List ℕ) (left : List Sample) (after : Streams)
    → Operates calls answer chunk s m (record { left = Some bytes; gained = Some before }) after events left → answer ≢ operated.ReadFault → answer ≢ operated.WriteFault
    → (out : List ℕ) × RunsLines calls s events bytes answer out × (after.gained ≡ Some (before ++ out))
lines_of {V} calls s events answer chunk m bytes before left after operates no_read no_write = by_answer answer operates no_read no_write
  where
    of : (ending : Ended) (now : Streams) → Serves line_grammar calls ending chunk s m (record { left = Some bytes; gained = Some before }) now events left → ending ≢ ended.ReadFault
        → ending ≢ ended.WriteFault → LeavesRun line_grammar calls s events bytes ending m (Some before) now.gained
    of ending now serves = stream_of line_grammar calls line_grammar_is_lawful s events ending chunk m bytes (Some before) left now serves

    -- nothing stands behind the replies
    quiet : (a : Operated) → last_text a ≡ [] → LeavesRun line_grammar calls s events bytes (ending_for a) m (Some before) after.gained
        → (out : List ℕ) × RunsLines calls s events bytes a out × (after.gained ≡ Some (before ++ out))
    quiet a nothing (out, t, runs, is, gained) =
        (out, record { machine = t; replied = out; runs = runs; whole = sym (append-nil out) ∙ ap (λ xs. out ++ xs) (sym nothing) }, gained)

    -- the text stands behind them
    told : (number : ℕ) (replied : Option (List ℕ)) → Appends replied (bad_line_text number) after.gained
        → LeavesRun line_grammar calls s events bytes (ended.BadFrame number) m (Some before) replied
        → (out : List ℕ) × RunsLines calls s events bytes (operated.BadLine number) out × (after.gained ≡ Some (before ++ out))
    told number replied appends (out, t, runs, is, gained) =
        let Behind : Option (List ℕ) → Type 0 = λ known. Appends known (bad_line_text number) after.gained in
        let text : after.gained ≡ Some ((before ++ out) ++ bad_line_text number) = subst Behind gained appends in
        (out ++ bad_line_text number, record { machine = t; replied = out; runs = runs; whole = refl }, text ∙ ap (λ (xs : List ℕ). Some xs) (append_assoc before out (bad_line_text number)))

    by_answer : (a : Operated) → Operates calls a chunk s m (record { left = Some bytes; gained = Some before }) after events left → a ≢ operated.ReadFault → a ≢ operated.WriteFault
        → (out : List ℕ) × RunsLines calls s events bytes a out × (after.gained ≡ Some (before ++ out))
    by_answer operated.End serves r w = quiet operated.End refl (of ended.End after serves (λ e. cc e) (λ e. cc e))
    by_answer (operated.BadLine number) (replied, serves, appends) r w =
        told number replied appends (of (ended.BadFrame number) (with_gained after replied) serves (λ e. cc e) (λ e. cc e))
    by_answer operated.ReadFault serves r w = absurd (r refl)
    by_answer operated.WriteFault serves r w = absurd (w refl)
    by_answer operated.Limit serves r w = quiet operated.Limit refl (of ended.Limit after serves (λ e. cc e) (λ e. cc e))

-- the answer to a stream that ends so
abbrev answer_to : Ended → Operated
answer_to ended.End = operated.End
answer_to (ended.BadFrame number) = operated.BadLine number
answer_to ended.Truncated = operated.End
answer_to ended.ReadFault = operated.ReadFault
answer_to ended.WriteFault = operated.WriteFault
answer_to ended.Limit = operated.Limit

answer_back : (answer : Operated) → answer_to (ending_for answer) ≡ answer
answer_back operated.End = refl
answer_back (operated.BadLine number) = refl
answer_back operated.ReadFault = refl
answer_back operated.WriteFault = refl
answer_back operated.Limit = refl

-- the run over lines has one answer and one output
pub one_lines : {V : Type 0} (calls : Calls V) (s : MachineState V) (events : List Sample) (bytes : List ℕ) (answer answer' : Operated) (out out' : List ℕ) → RunsLines calls s events bytes answer out
    → RunsLines calls s events bytes answer' out' → (answer ≡ answer') × (out ≡ out')
one_lines calls s events bytes answer answer' out out' one other =
    let same = one_stream line_grammar calls line_grammar_is_lawful s events bytes one.machine other.machine (ending_for answer) (ending_for answer') one.replied other.replied one.runs other.runs in
    let answers : answer ≡ answer' = sym (answer_back answer) ∙ ap answer_to same.0 ∙ answer_back answer' in
    (answers, one.whole ∙ ap (λ xs. xs ++ last_text answer) same.1 ∙ ap (λ a. other.replied ++ last_text a) answers ∙ sym other.whole)
