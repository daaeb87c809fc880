-- Streams that differ in secrets alone run alike.
use Rattle.std.proofs.Common.{◌≡◌, ◌<◌, ◌≤◌, ◌-◌, ◌+◌, ◌++◌, ℕ, List, [], ◌∷◌, Option, length, take, inl, inr, refl, sym, ap, subst, ◌∙◌, arith, length-append}
use Rattle.std.specs.Prelude.{min}
use Rattle.std.specs.List.{flat_map}
use Rattle.std.specs.Int.{to_be_bytes, w32}
use Rattle.std.proofs.lemmas.Bool.{cases_lt}
use Rattle.std.proofs.lemmas.List.{length-take, take_all}
use Rattle.outside.specs.declared.traits.Sample.{Sample}
use Rattle.engine_core.specs.Calls.{Calls, IsStandard}
use Rattle.module_frames.specs.CommandFrames.{CommandFrame, command_header, command_encoding, version_of, sequence_bytes}
use Rattle.module_frames.specs.ReplyFrames.{ReplyFrame}
use Rattle.state_model.specs.MachineState.{MachineState}
use Rattle.state_model.specs.ModuleView.{ModuleView}
use Rattle.state_model.specs.Runs.{Ran, run_commands}
use Rattle.state_model.specs.Step.{step}
use Rattle.information_flow.specs.Tainted.{Tainted, untainted}
use Rattle.information_flow.specs.Taint.{taint_after}
use Rattle.information_flow.specs.Variants.{CommandPair, sent, sent_instead, IsSecretVariant, AreSecretVariants}
use Rattle.information_flow.specs.Flow.{SecretsStayInside, RunsAgree}
use Rattle.information_flow.specs.OneCommand.{AllCommitInto, TreeHoldsTaint}
use Rattle.information_flow.proofs.Running.{variants_run, same_machines}
use Rattle.information_flow.proofs.Stepping.{secrets_stay}
use Rattle.information_flow.proofs.Trees.{one_suffices}
use Rattle.stream_calls.specs.declared.limits.TheConstants.{STREAM_MAX}
use Rattle.command_serving.specs.declared.serving.Ended.{Ended}
use Rattle.command_serving.specs.declared.serving.Ended.TheVariants as ended
use Rattle.command_serving.specs.FrameGrammar.{frame_grammar, frame_grammar_is_lawful}
use Rattle.command_serving.specs.Grammars.{Grammar, IsLawful, IsParse}
use Rattle.command_serving.specs.Run.{Runs, RunsStream, remainder_start, fault_or, ending_of, encoded_replies}
use Rattle.command_serving.specs.Secrets.{AreVariantStreams, VariantsRunAlike, KeepsSecrets}
use Rattle.stream_calls.specs.Streams.{Streams}
use Rattle.command_serving.specs.Serving.{Serves, Answered}

-- a run, by its parts
parts_of : {V : Type 0} (ran : Ran V) (left : List Sample) → left ≡ ran.left → ran ≡ record { machine = ran.machine; replies = ran.replies; left = left }
parts_of ran left is = rw is refl

-- a run over a stream from a state with sixteen rows, and the run over any other that differs from it in secrets alone
pub runs_alike : {V : Type 0} (grammar : Grammar) (calls : Calls V) → IsLawful grammar → IsStandard calls → (s t : MachineState V) (events left : List Sample) (read remainder : List ℕ) (replies : List ReplyFrame)
    → length s.shared.ancestry ≡ 16 → Runs grammar calls s events read t replies left remainder → VariantsRunAlike grammar calls s events read replies left remainder
runs_alike {V} grammar calls lawful plain s t events left read remainder replies sixteen runs other pairs variant =
    let law : SecretsStayInside calls = secrets_stay calls plain in
    let same_commands : runs.commands ≡ sent pairs = (lawful.one_way read runs.commands (sent pairs) remainder remainder runs.parses variant.parses).0 in
    let ran : run_commands calls s events (sent pairs) ≡ record { machine = t; replies = replies; left = left } = ap (λ commands. run_commands calls s events commands) (sym same_commands) ∙ runs.ran in
    let instead : Ran V = run_commands calls s events (sent_instead pairs) in
    let alike = variants_run calls law untainted s s events pairs (same_machines s) variant.variants in
    let Agree : Ran V → Type 0 = λ first. RunsAgree calls untainted s s events pairs first.replies instead.replies × (first.left ≡ instead.left) in
    let here : Agree (record { machine = t; replies = replies; left = left }) = subst Agree ran alike in
    record {
      machine = instead.machine;
      others = instead.replies;
      runs = record { commands = sent_instead pairs; parses = variant.other_parses; ran = parts_of instead left here.1 };
      agree = here.0;
      one_command = λ k into. one_suffices calls law k s events pairs sixteen variant.variants into;
    }

answered_alike : {V : Type 0} (grammar : Grammar) (calls : Calls V) → IsLawful grammar → IsStandard calls → (s : MachineState V) (events left : List Sample) (read remainder : List ℕ) (m : ModuleView V) (before after : Streams)
    → length s.shared.ancestry ≡ 16 → (answered : Answered grammar calls s events read remainder m left before after) → VariantsRunAlike grammar calls s events read answered.replies left remainder
answered_alike grammar calls lawful plain s events left read remainder m before after sixteen answered =
    runs_alike grammar calls lawful plain s answered.machine events left read remainder answered.replies sixteen answered.runs

-- what was served kept its secrets
pub serving_keeps : {V : Type 0} (grammar : Grammar) (calls : Calls V) → IsLawful grammar → IsStandard calls → (ending : Ended) (chunk : ℕ) (s : MachineState V) (m : ModuleView V) (before after : Streams)
    (events left : List Sample) → length s.shared.ancestry ≡ 16 → Serves grammar calls ending chunk s m before after events left → KeepsSecrets grammar calls ending s before after events left
serving_keeps grammar calls lawful plain ended.WriteFault chunk s m before after events left sixteen serves = tt
serving_keeps grammar calls lawful plain ended.End chunk s m before after events left sixteen (taken, read, remainder, consumes, answered, ends) =
    (taken, read, remainder, answered.replies, consumes, inr ends.1, answered.gained, answered_alike grammar calls lawful plain s events left read remainder m before after sixteen answered)
serving_keeps grammar calls lawful plain (ended.BadFrame number) chunk s m before after events left sixteen (taken, read, remainder, consumes, answered, ends) =
    (taken, read, remainder, answered.replies, consumes, ends.2, answered.gained, answered_alike grammar calls lawful plain s events left read remainder m before after sixteen answered)
serving_keeps grammar calls lawful plain ended.Truncated chunk s m before after events left sixteen (taken, read, remainder, consumes, answered, ends) =
    (taken, read, remainder, answered.replies, consumes, inr ends.1, answered.gained, answered_alike grammar calls lawful plain s events left read remainder m before after sixteen answered)
serving_keeps grammar calls lawful plain ended.ReadFault chunk s m before after events left sixteen (taken, read, remainder, consumes, answered, ends) =
    (taken, read, remainder, answered.replies, consumes, inl ends.1, answered.gained, answered_alike grammar calls lawful plain s events left read remainder m before after sixteen answered)
serving_keeps grammar calls lawful plain ended.Limit chunk s m before after events left sixteen (taken, read, remainder, consumes, answered, ends) =
    (taken, read, remainder, answered.replies, consumes, inl ends.1, answered.gained, answered_alike grammar calls lawful plain s events left read remainder m before after sixteen answered)

-- commands that differ in secrets alone have bodies of one length
same_length : (T : Tainted) (one other : CommandFrame) → IsSecretVariant T one other → length one.body ≡ length other.body
same_length T one other variant = elim variant.same_body [
  | inl same ↦ ap (λ body. length body) same
  | inr secret ↦ elim secret [ inl pieces ↦ pieces.same_length | inr checks ↦ checks.eight ∙ sym checks.other_eight ]
]

-- and so their frames have
encoded_length : (T : Tainted) (one other : CommandFrame) → IsSecretVariant T one other → length (command_encoding one) ≡ length (command_encoding other)
encoded_length T one other variant =
    let long : length one.body ≡ length other.body = same_length T one other variant in
    let head : command_header one ≡ command_header other =
    ap (λ service. header service one.sequence (length one.body)) variant.same_service
    ∙ ap (λ sequence. header other.service sequence (length one.body)) variant.same_sequence
    ∙ ap (λ n. header other.service other.sequence n) long in
    length-append (command_header one) one.body ∙ ap (λ front. length front + length one.body) head ∙ ap (λ n. length (command_header other) + n) long
    ∙ sym (length-append (command_header other) other.body)
  where
    header : ℕ → Option ℕ → ℕ → List ℕ
    header service sequence n = 0xc5 ∷ version_of sequence ∷ service ∷ 0x00 ∷ (to_be_bytes w32 n ++ sequence_bytes sequence)

encodings_length : {V : Type 0} (calls : Calls V) (T : Tainted) (s : MachineState V) (events : List Sample) (pairs : List CommandPair) → AreSecretVariants calls T s events pairs
    → length (flat_map command_encoding (sent pairs)) ≡ length (flat_map command_encoding (sent_instead pairs))
encodings_length calls T s events [] variants = refl
encodings_length calls T s events (pair ∷ pairs) variants =
    let after = step calls s events pair.one in
    length-append (command_encoding pair.one) (flat_map command_encoding (sent pairs))
    ∙ ap (λ n. n + length (flat_map command_encoding (sent pairs))) (encoded_length T pair.one pair.other variants.0)
    ∙ ap (λ n. length (command_encoding pair.other) + n) (encodings_length calls (taint_after calls s events T pair.one pair.other) after.machine after.left pairs variants.1)
    ∙ sym (length-append (command_encoding pair.other) (flat_map command_encoding (sent_instead pairs)))

-- so the streams are of one length
pub variant_length : {V : Type 0} (calls : Calls V) (s : MachineState V) (events : List Sample) (bytes other : List ℕ) (pairs : List CommandPair) (remainder : List ℕ)
    → AreVariantStreams frame_grammar calls s events bytes other pairs remainder → length bytes ≡ length other
variant_length calls s events bytes other pairs remainder variant =
    sized bytes (sent pairs) variant.parses ∙ ap (λ n. n + length remainder) (encodings_length calls untainted s events pairs variant.variants) ∙ sym (sized other (sent_instead pairs) variant.other_parses)
  where
    sized : (all : List ℕ) (commands : List CommandFrame) → IsParse frame_grammar all commands remainder → length all ≡ length (flat_map command_encoding commands) + length remainder
    sized all commands parse =
        ap (λ xs. length xs) parse.whole ∙ length-append parse.front remainder ∙ ap (λ xs. length xs + length remainder) parse.encoded.encoded

-- what serving a stream leaves for the other
pub record OtherServed {V : Type 0} (calls : Calls V) (s : MachineState V) (events : List Sample) (other : List ℕ) (pairs : List CommandPair) (ending : Ended) (replies : List ReplyFrame) : Type 0 where
  pub others : List ReplyFrame
  pub machine : MachineState V
  pub serves : RunsStream frame_grammar calls s events other machine ending (encoded_replies frame_grammar others)
  pub agree : RunsAgree calls untainted s s events pairs replies others
  pub one_command : (k : ℕ) → AllCommitInto calls k untainted s events pairs → TreeHoldsTaint calls k untainted s s events pairs

-- a stream that is read to its end
short_alike : {V : Type 0} (calls : Calls V) → IsStandard calls → (s t : MachineState V) (events left : List Sample) (bytes other remainder rest : List ℕ) (pairs : List CommandPair) (replies : List ReplyFrame) (ending : Ended)
    → length s.shared.ancestry ≡ 16 → length bytes < STREAM_MAX → Runs frame_grammar calls s events bytes t replies left remainder
    → ending ≡ ending_of frame_grammar (remainder_start frame_grammar bytes remainder) remainder → length bytes ≡ length other
    → AreVariantStreams frame_grammar calls s events bytes other pairs rest → OtherServed calls s events other pairs ending replies
short_alike {V} calls plain s t events left bytes other remainder rest pairs replies ending sixteen below runs ends long variant =
    let same_rest : remainder ≡ rest = (frame_grammar_is_lawful.one_way bytes runs.commands (sent pairs) remainder rest runs.parses variant.parses).1 in
    let Variant : List ℕ → Type 0 = λ xs. AreVariantStreams frame_grammar calls s events bytes other pairs xs in
    let alike = runs_alike frame_grammar calls frame_grammar_is_lawful plain s t events left bytes remainder replies sixteen runs other pairs (subst Variant (sym same_rest) variant) in
    let start : remainder_start frame_grammar bytes remainder ≡ remainder_start frame_grammar other remainder = ap (λ n. n - length remainder) long in
    record {
      others = alike.others;
      machine = alike.machine;
      serves = record {
        short = λ _. (alike.others, left, remainder, alike.runs, refl, ends ∙ ap (λ n. ending_of frame_grammar n remainder) start);
        too_long = λ over. absurd (omega (arith, below, long, over));
      };
      agree = alike.agree;
      one_command = alike.one_command;
    }

-- a stream of which as much is read as may be
long_alike : {V : Type 0} (calls : Calls V) → IsStandard calls → (s t : MachineState V) (events left : List Sample) (bytes other remainder rest : List ℕ) (pairs : List CommandPair) (replies : List ReplyFrame) (ending : Ended)
    → length s.shared.ancestry ≡ 16 → STREAM_MAX ≤ length other → Runs frame_grammar calls s events (take STREAM_MAX bytes) t replies left remainder
    → ending ≡ fault_or frame_grammar (remainder_start frame_grammar (take STREAM_MAX bytes) remainder) remainder ended.Limit → length (take STREAM_MAX bytes) ≡ length (take STREAM_MAX other)
    → AreVariantStreams frame_grammar calls s events (take STREAM_MAX bytes) (take STREAM_MAX other) pairs rest → OtherServed calls s events other pairs ending replies
long_alike {V} calls plain s t events left bytes other remainder rest pairs replies ending sixteen over runs ends long variant =
    let same_rest : remainder ≡ rest = (frame_grammar_is_lawful.one_way (take STREAM_MAX bytes) runs.commands (sent pairs) remainder rest runs.parses variant.parses).1 in
    let Variant : List ℕ → Type 0 = λ xs. AreVariantStreams frame_grammar calls s events (take STREAM_MAX bytes) (take STREAM_MAX other) pairs xs in
    let alike =
    runs_alike frame_grammar calls frame_grammar_is_lawful plain s t events left (take STREAM_MAX bytes) remainder replies sixteen runs (take STREAM_MAX other) pairs (subst Variant (sym same_rest) variant) in
    let start : remainder_start frame_grammar (take STREAM_MAX bytes) remainder ≡ remainder_start frame_grammar (take STREAM_MAX other) remainder = ap (λ n. n - length remainder) long in
    record {
      others = alike.others;
      machine = alike.machine;
      serves = record {
        short = λ below. absurd (omega (arith, below, over));
        too_long = λ _. (alike.others, left, remainder, alike.runs, refl, ends ∙ ap (λ n. fault_or frame_grammar n remainder ended.Limit) start);
      };
      agree = alike.agree;
      one_command = alike.one_command;
    }

-- the stream was served, and its replies are these
pub record IsServedBy {V : Type 0} (calls : Calls V) (s : MachineState V) (events : List Sample) (bytes : List ℕ) (ending : Ended) (out : List ℕ) : Type 0 where
  pub replies : List ReplyFrame
  pub written : out ≡ encoded_replies frame_grammar replies
  pub others : (other : List ℕ) (pairs : List CommandPair) (rest : List ℕ) → AreVariantStreams frame_grammar calls s events (take STREAM_MAX bytes) (take STREAM_MAX other) pairs rest
      → OtherServed calls s events other pairs ending replies

pub stream_alike : {V : Type 0} (calls : Calls V) → IsStandard calls → (s : MachineState V) (events : List Sample) (bytes : List ℕ) (t : MachineState V) (ending : Ended) (out : List ℕ) → length s.shared.ancestry ≡ 16
    → RunsStream frame_grammar calls s events bytes t ending out → IsServedBy calls s events bytes ending out
stream_alike {V} calls plain s events bytes t ending out sixteen serves = elim (cases_lt (length bytes) STREAM_MAX) [
  | inl below ↦
      let (replies, left, remainder, runs, written, ends) = serves.short below in
      record { replies = replies; written = written; others = λ other pairs rest variant. short_of replies left remainder runs ends below other pairs rest variant }
  | inr over ↦
      let (replies, left, remainder, runs, written, ends) = serves.too_long over in
      record { replies = replies; written = written; others = λ other pairs rest variant. long_of replies left remainder runs ends over other pairs rest variant }
]
  where
    -- the parts that are read are of one length
    parts : (other : List ℕ) (pairs : List CommandPair) (rest : List ℕ) → AreVariantStreams frame_grammar calls s events (take STREAM_MAX bytes) (take STREAM_MAX other) pairs rest
        → min STREAM_MAX (length bytes) ≡ min STREAM_MAX (length other)
    parts other pairs rest variant =
        sym (length-take STREAM_MAX bytes) ∙ variant_length calls s events (take STREAM_MAX bytes) (take STREAM_MAX other) pairs rest variant ∙ length-take STREAM_MAX other

    short_of : (replies : List ReplyFrame) (left : List Sample) (remainder : List ℕ) → Runs frame_grammar calls s events bytes t replies left remainder
        → ending ≡ ending_of frame_grammar (remainder_start frame_grammar bytes remainder) remainder → length bytes < STREAM_MAX → (other : List ℕ) (pairs : List CommandPair) (rest : List ℕ)
        → AreVariantStreams frame_grammar calls s events (take STREAM_MAX bytes) (take STREAM_MAX other) pairs rest → OtherServed calls s events other pairs ending replies
    short_of replies left remainder runs ends below other pairs rest variant =
        let same = parts other pairs rest variant in
        let long : length bytes ≡ length other = omega (arith, same, below) in
        let whole : take STREAM_MAX bytes ≡ bytes = take_all STREAM_MAX bytes (omega (arith, below)) in
        let other_whole : take STREAM_MAX other ≡ other = take_all STREAM_MAX other (omega (arith, below, long)) in
        let One : List ℕ → Type 0 = λ xs. AreVariantStreams frame_grammar calls s events xs (take STREAM_MAX other) pairs rest in
        let Both : List ℕ → Type 0 = λ xs. AreVariantStreams frame_grammar calls s events bytes xs pairs rest in
        short_alike calls plain s t events left bytes other remainder rest pairs replies ending sixteen below runs ends long (subst Both other_whole (subst One whole variant))

    long_of : (replies : List ReplyFrame) (left : List Sample) (remainder : List ℕ) → Runs frame_grammar calls s events (take STREAM_MAX bytes) t replies left remainder
        → ending ≡ fault_or frame_grammar (remainder_start frame_grammar (take STREAM_MAX bytes) remainder) remainder ended.Limit → STREAM_MAX ≤ length bytes → (other : List ℕ) (pairs : List CommandPair)
        (rest : List ℕ) → AreVariantStreams frame_grammar calls s events (take STREAM_MAX bytes) (take STREAM_MAX other) pairs rest → OtherServed calls s events other pairs ending replies
    long_of replies left remainder runs ends over other pairs rest variant =
        let same = parts other pairs rest variant in
        long_alike calls plain s t events left bytes other remainder rest pairs replies ending sixteen (omega (arith, same, over)) runs ends
        (variant_length calls s events (take STREAM_MAX bytes) (take STREAM_MAX other) pairs rest variant) variant
