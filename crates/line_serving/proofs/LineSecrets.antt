-- Lines that differ in secrets alone run alike.
use Rattle.std.proofs.Common.{◌≡◌, ◌+◌, ◌++◌, ℕ, List, length, Some, None, inl, inr, refl, sym, ◌∙◌, ap, subst, arith}
use Rattle.std.proofs.lemmas.Bool.{cases_lt}
use Rattle.outside.specs.declared.traits.Sample.{Sample}
use Rattle.engine_core.specs.Calls.{Calls, IsStandard}
use Rattle.module_frames.specs.ReplyFrames.{ReplyFrame}
use Rattle.state_model.specs.MachineState.{MachineState}
use Rattle.state_model.specs.Runs.{run_commands}
use Rattle.information_flow.specs.Variants.{CommandPair, sent, sent_instead}
use Rattle.stream_calls.specs.declared.limits.TheConstants.{STREAM_MAX}
use Rattle.command_serving.specs.declared.serving.Ended.TheVariants as ended
use Rattle.command_serving.specs.Grammars.{IsParse}
use Rattle.command_serving.specs.Run.{Runs, remainder_start, ending_of, encoded_replies}
use Rattle.command_serving.specs.Secrets.{AreVariantStreams, RunsAlike}
use Rattle.command_serving.proofs.SecretStreams.{runs_alike}
use Rattle.line_serving.specs.declared.operating.Operated.{Operated}
use Rattle.line_serving.specs.LineGrammar.{line_grammar, line_grammar_is_lawful}
use Rattle.line_serving.specs.LineLaws.{EndsByItsLines}
use Rattle.line_serving.specs.LineSecrets.{AreVariantLines, OtherLinesRun, VariantLinesRunAlike}
use Rattle.line_serving.specs.Operating.{RunsLines, ending_for, last_text}
use Rattle.line_serving.proofs.LineFaults.{bad_shows, lines_end}

-- two streams end alike that have as many lines before their remainders, and a bad line there both or neither
same_end : (start start' : ℕ) (remainder remainder' : List ℕ) → EndsByItsLines start remainder → EndsByItsLines start' remainder' → start ≡ start'
    → line_grammar.first_fault remainder ≡ line_grammar.first_fault remainder' → ending_of line_grammar start remainder ≡ ending_of line_grammar start' remainder'
same_end start start' remainder remainder' (inl one) (inl other) lines fault = one.1 ∙ sym other.1
same_end start start' remainder remainder' (inr one) (inr other) lines fault = one.1 ∙ ap (λ n. ended.BadFrame (n + 1)) lines ∙ sym other.1
same_end start start' remainder remainder' (inl one) (inr other) lines fault =
    let wrong : None ≡ Some 1 = sym line_grammar_is_lawful.nothing_wrong ∙ ap (λ xs. line_grammar.first_fault xs) (sym one.0) ∙ fault ∙ bad_shows remainder' other.0 in
    absurd (cc wrong)
same_end start start' remainder remainder' (inr one) (inl other) lines fault =
    let wrong : None ≡ Some 1 = sym line_grammar_is_lawful.nothing_wrong ∙ ap (λ xs. line_grammar.first_fault xs) (sym other.0) ∙ sym fault ∙ bad_shows remainder one.0 in
    absurd (cc wrong)

-- the run over the other lines, whose remainder may differ
other_runs : {V : Type 0} (calls : Calls V) (s : MachineState V) (events left : List Sample) (bytes other remainder : List ℕ) (pairs : List CommandPair) (replies : List ReplyFrame)
    → (variant : AreVariantLines calls s events bytes other pairs)
    → (alike : RunsAlike line_grammar calls s events (variant.other_parses.front ++ remainder) pairs replies left remainder)
    → IsParse line_grammar (variant.other_parses.front ++ remainder) (sent_instead pairs) remainder
    → Runs line_grammar calls s events (line_grammar.at_end other) alike.machine alike.others left variant.other_remainder
other_runs calls s events left bytes other remainder pairs replies variant alike parse =
    let same = line_grammar_is_lawful.one_way (variant.other_parses.front ++ remainder) alike.runs.commands (sent_instead pairs) remainder remainder alike.runs.parses parse in
    record {
      commands = sent_instead pairs;
      parses = variant.other_parses;
      ran = ap (λ commands. run_commands calls s events commands) (sym same.0) ∙ alike.runs.ran;
    }

other_alike : {V : Type 0} (calls : Calls V) → IsStandard calls → (s t : MachineState V) (events left : List Sample) (bytes remainder : List ℕ) (answer : Operated) (replies : List ReplyFrame)
    → length s.shared.ancestry ≡ 16 → Runs line_grammar calls s events (line_grammar.at_end bytes) t replies left remainder
    → ending_for answer ≡ ending_of line_grammar (remainder_start line_grammar (line_grammar.at_end bytes) remainder) remainder → (other : List ℕ) (pairs : List CommandPair)
    → AreVariantLines calls s events bytes other pairs → OtherLinesRun calls s events other pairs answer replies
other_alike {V} calls plain s t events left bytes remainder answer replies sixteen runs ends other pairs variant =
    let read = line_grammar.at_end bytes in
    let read' = line_grammar.at_end other in
    let remainder' = variant.other_remainder in
    let front = variant.other_parses.front in
    let same : remainder ≡ variant.remainder = (line_grammar_is_lawful.one_way read runs.commands (sent pairs) remainder variant.remainder runs.parses variant.parses).1 in
    let Parse : List ℕ → Type 0 = λ xs. IsParse line_grammar read (sent pairs) xs in
    let parse : IsParse line_grammar read (sent pairs) remainder = subst Parse (sym same) variant.parses in
    let mixed : IsParse line_grammar (front ++ remainder) (sent_instead pairs) remainder =
    record { front = front; whole = refl; encoded = variant.other_parses.encoded; unfinished = parse.unfinished } in
    let between : AreVariantStreams line_grammar calls s events read (front ++ remainder) pairs remainder = record { parses = parse; other_parses = mixed; variants = variant.variants } in
    let alike = runs_alike line_grammar calls line_grammar_is_lawful plain s t events left read remainder replies sixteen runs (front ++ remainder) pairs between in
    let lines : remainder_start line_grammar read remainder ≡ remainder_start line_grammar read' remainder' = ap (λ xs. remainder_start line_grammar read xs) same ∙ variant.same_lines in
    let fault : line_grammar.first_fault remainder ≡ line_grammar.first_fault remainder' = ap (λ xs. line_grammar.first_fault xs) same ∙ variant.same_fault in
    let end : ending_of line_grammar (remainder_start line_grammar read remainder) remainder ≡ ending_of line_grammar (remainder_start line_grammar read' remainder') remainder' =
    same_end (remainder_start line_grammar read remainder) (remainder_start line_grammar read' remainder') remainder remainder'
    (lines_end bytes (sent pairs) remainder (remainder_start line_grammar read remainder) parse)
    (lines_end other (sent_instead pairs) remainder' (remainder_start line_grammar read' remainder') variant.other_parses) lines fault in
    record {
      others = alike.others;
      runs = record {
        machine = alike.machine;
        replied = encoded_replies line_grammar alike.others;
        runs = record {
          short = λ _. (
            alike.others,
            left,
            remainder',
            other_runs calls s events left bytes other remainder pairs replies variant alike mixed,
            refl,
            ends ∙ end,
          );
          too_long = λ long. let short = variant.other_short in absurd (omega (arith, short, long));
        };
        whole = refl;
      };
      agree = alike.agree;
      one_command = alike.one_command;
    }

-- the run over lines from a state with sixteen rows, and the run over each other stream of lines that differs from them in secrets alone
pub lines_alike : {V : Type 0} (calls : Calls V) → IsStandard calls → (s : MachineState V) (events : List Sample) (bytes : List ℕ) (answer : Operated) (out : List ℕ) → length s.shared.ancestry ≡ 16
    → RunsLines calls s events bytes answer out → VariantLinesRunAlike calls s events bytes answer out
lines_alike calls plain s events bytes answer out sixteen runs = elim (cases_lt (length bytes) STREAM_MAX) [
  | inl below ↦
      let (replies, left, remainder, ran, written, ends) = runs.runs.short below in
      record {
        replies = replies;
        written = runs.whole ∙ ap (λ xs. xs ++ last_text answer) written;
        alike = other_alike calls plain s runs.machine events left bytes remainder answer replies sixteen ran ends;
      }
  | inr over ↦
      let (replies, left, remainder, ran, written, ends) = runs.runs.too_long over in
      record {
        replies = replies;
        written = runs.whole ∙ ap (λ xs. xs ++ last_text answer) written;
        alike = λ other pairs variant. let short = variant.short in absurd (omega (arith, short, over));
      }
]
