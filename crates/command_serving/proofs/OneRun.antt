-- The run over a stream has one ending, one output and one machine at its end.
use Rattle.std.proofs.Common.{◌≡◌, inl, inr, ℕ, List, length, take, sym, ◌∙◌, ap}
use Rattle.std.proofs.lemmas.Bool.{cases_lt}
use Rattle.engine_core.specs.Calls.{Calls}
use Rattle.outside.specs.declared.traits.Sample.{Sample}
use Rattle.module_frames.specs.ReplyFrames.{ReplyFrame}
use Rattle.state_model.specs.MachineState.{MachineState}
use Rattle.command_serving.specs.declared.serving.Ended.{Ended}
use Rattle.command_serving.specs.declared.serving.Ended.TheVariants as ended
use Rattle.command_serving.specs.Grammars.{Grammar, IsLawful}
use Rattle.state_model.specs.Runs.{Ran, run_commands}
use Rattle.command_serving.specs.Run.{Runs, RunsStream, remainder_start, fault_or, ending_of, encoded_replies}
use Rattle.stream_calls.specs.declared.limits.TheConstants.{STREAM_MAX}

-- a run over bytes has one list of replies, one remainder and one machine at its end
one_run : {V : Type 0} (grammar : Grammar) (calls : Calls V) → IsLawful grammar → (s t u : MachineState V) (events left gone : List Sample) (bytes remainder remainder' : List ℕ) (replies replies' : List ReplyFrame)
    → Runs grammar calls s events bytes t replies left remainder → Runs grammar calls s events bytes u replies' gone remainder' → (replies ≡ replies') × (remainder ≡ remainder') × (t ≡ u)
one_run {V} grammar calls lawful s t u events left gone bytes remainder remainder' replies replies' one other =
    let same = lawful.one_way bytes one.commands other.commands remainder remainder' one.parses other.parses in
    let ran = sym one.ran ∙ ap (λ commands. run_commands calls s events commands) same.0 ∙ other.ran in
    (ap (λ (r : Ran V). r.replies) ran, same.1, ap (λ (r : Ran V). r.machine) ran)

pub one_stream : {V : Type 0} (grammar : Grammar) (calls : Calls V) → IsLawful grammar → (s : MachineState V) (events : List Sample) (bytes : List ℕ) (t t' : MachineState V) (ending ending' : Ended) (out out' : List ℕ)
    → RunsStream grammar calls s events bytes t ending out → RunsStream grammar calls s events bytes t' ending' out' → (ending ≡ ending') × (out ≡ out') × (t ≡ t')
one_stream grammar calls lawful s events bytes t t' ending ending' out out' one other =
    elim (cases_lt (length bytes) STREAM_MAX) [
      | inl short ↦ (let a = one.short short in
          let b = other.short short in
          let same = one_run grammar calls lawful s t t' events a.1 b.1 (grammar.at_end bytes) a.2 b.2 a.0 b.0 a.3 b.3 in (
            a.5 ∙ ap (λ remainder. ending_of grammar (remainder_start grammar (grammar.at_end bytes) remainder) remainder) same.1 ∙ sym b.5,
            a.4 ∙ ap (λ replies. encoded_replies grammar replies) same.0 ∙ sym b.4,
            same.2,
          ))
      | inr long ↦ (let a = one.too_long long in
          let b = other.too_long long in
          let same = one_run grammar calls lawful s t t' events a.1 b.1 (take STREAM_MAX bytes) a.2 b.2 a.0 b.0 a.3 b.3 in (
            a.5 ∙ ap (λ remainder. fault_or grammar (remainder_start grammar (take STREAM_MAX bytes) remainder) remainder ended.Limit) same.1 ∙ sym b.5,
            a.4 ∙ ap (λ replies. encoded_replies grammar replies) same.0 ∙ sym b.4,
            same.2,
          ))
    ]
