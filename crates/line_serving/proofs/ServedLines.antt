-- From a stream of lines that was served to what is answered.
use Rattle.std.proofs.Common.{◌≡◌, ◌+◌, inl, inr, ℕ, List, Option, sym, ◌∙◌, subst}
use Rattle.outside.specs.declared.traits.Sample.{Sample}
use Rattle.engine_core.specs.Calls.{Calls}
use Rattle.state_model.specs.ModuleView.{ModuleView}
use Rattle.state_model.specs.MachineState.{MachineState}
use Rattle.command_serving.specs.declared.serving.Ended.{Ended}
use Rattle.command_serving.specs.declared.serving.Ended.TheVariants as ended
use Rattle.command_serving.specs.Grammars.{IsParse}
use Rattle.command_serving.specs.Run.{remainder_start, ending_of}
use Rattle.stream_calls.specs.Streams.{Streams}
use Rattle.command_serving.specs.Serving.{Serves}
use Rattle.command_serving.specs.Secrets.{KeepsSecrets}
use Rattle.line_serving.specs.declared.operating.Operated.{Operated}
use Rattle.line_serving.specs.declared.operating.Operated.TheVariants as operated
use Rattle.line_serving.specs.LineGrammar.{line_grammar}
use Rattle.line_serving.specs.LineLaws.{EndsByItsLines}
use Rattle.line_serving.specs.Operating.{Tells, Operates, KeepsLineSecrets}
use Rattle.line_serving.proofs.LineFaults.{lines_end}

-- no stream of lines ends inside a line
never_truncated : {V : Type 0} (calls : Calls V) (chunk : ℕ) (s : MachineState V) (m : ModuleView V) (before after : Streams) (events left : List Sample)
    → Serves line_grammar calls ended.Truncated chunk s m before after events left → ⊥
never_truncated calls chunk s m before after events left (taken, read, remainder, consumes, answered, ends) =
    let start = remainder_start line_grammar read remainder in
    let Parse : List ℕ → Type 0 = λ bytes. IsParse line_grammar bytes answered.runs.commands remainder in
    by_end start (lines_end taken answered.runs.commands remainder start (subst Parse ends.1.read_at_end answered.runs.parses)) ends.0
  where
    by_end : (start : ℕ) → EndsByItsLines start remainder → ending_of line_grammar start remainder ≡ ended.Truncated → ⊥
    by_end start (inl good) e = let wrong : ended.End ≡ ended.Truncated = sym good.1 ∙ e in cc wrong
    by_end start (inr bad) e = let wrong : ended.BadFrame (start + 1) ≡ ended.Truncated = sym bad.1 ∙ e in cc wrong

pub operates_by : {V : Type 0} (calls : Calls V) (ending : Ended) (answer : Operated) (chunk : ℕ) (s : MachineState V) (m : ModuleView V) (before : Streams) (rest replied now : Option (List ℕ)) (events left : List Sample)
    → Serves line_grammar calls ending chunk s m before (record { left = rest; gained = replied }) events left → Tells ending answer replied now
    → Operates calls answer chunk s m before (record { left = rest; gained = now }) events left
operates_by {V} calls ending answer chunk s m before rest replied now events left serves told = by_answer answer told
  where
    By : Ended → Option (List ℕ) → Type 0
    By e gained = Serves line_grammar calls e chunk s m before (record { left = rest; gained = gained }) events left

    moved : (e : Ended) → ending ≡ e → now ≡ replied → By e now
    moved e is same = subst (λ gained. By e gained) (sym same) (subst (λ x. By x replied) is serves)

    by_answer : (a : Operated) → Tells ending a replied now → Operates calls a chunk s m before (record { left = rest; gained = now }) events left
    by_answer operated.End (inl is, same) = moved ended.End is same
    by_answer operated.End (inr is, same) = absurd (never_truncated calls chunk s m before (record { left = rest; gained = now }) events left (moved ended.Truncated is same))
    by_answer (operated.BadLine number) (is, appends) = (replied, subst (λ x. By x replied) is serves, appends)
    by_answer operated.ReadFault (is, same) = moved ended.ReadFault is same
    by_answer operated.WriteFault (inl (is, same)) = inl (moved ended.WriteFault is same)
    by_answer operated.WriteFault (inr (number, is, part)) = inr (number, replied, subst (λ x. By x replied) is serves, part)
    by_answer operated.Limit (is, same) = moved ended.Limit is same

pub keeps_by : {V : Type 0} (calls : Calls V) (ending : Ended) (answer : Operated) (s : MachineState V) (before : Streams) (rest replied now : Option (List ℕ)) (events left : List Sample)
    → KeepsSecrets line_grammar calls ending s before (record { left = rest; gained = replied }) events left → Tells ending answer replied now
    → KeepsLineSecrets calls answer s before (record { left = rest; gained = now }) events left
keeps_by {V} calls ending answer s before rest replied now events left keeps told = by_answer answer told
  where
    By : Ended → Option (List ℕ) → Type 0
    By e gained = KeepsSecrets line_grammar calls e s before (record { left = rest; gained = gained }) events left

    moved : (e : Ended) → ending ≡ e → now ≡ replied → By e now
    moved e is same = subst (λ gained. By e gained) (sym same) (subst (λ x. By x replied) is keeps)

    by_answer : (a : Operated) → Tells ending a replied now → KeepsLineSecrets calls a s before (record { left = rest; gained = now }) events left
    by_answer operated.End (inl is, same) = moved ended.End is same
    by_answer operated.End (inr is, same) = moved ended.Truncated is same
    by_answer (operated.BadLine number) (is, appends) = (replied, subst (λ x. By x replied) is keeps, appends)
    by_answer operated.ReadFault (is, same) = moved ended.ReadFault is same
    by_answer operated.WriteFault told = tt
    by_answer operated.Limit (is, same) = moved ended.Limit is same
