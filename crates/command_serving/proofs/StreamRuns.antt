-- From what serving leaves to the run over the stream.
use Rattle.std.proofs.Common.{◌≡◌, ◌≢◌, ◌++◌, ◌≤◌, ◌+◌, ◌-◌, inl, inr, ℕ, List, [], ◌∷◌, Option, None, Some, sym, refl, ◌∙◌, ap, subst, length, length-append, arith, take, drop}
use Rattle.std.specs.Option.{option_map, option_map_or}
use Rattle.std.proofs.lemmas.List.{append_assoc, take_at, drop_at}
use Rattle.std.proofs.Math.Seq.{take-add}
use Rattle.engine_core.specs.Calls.{Calls}
use Rattle.outside.specs.Contents.{Appends}
use Rattle.outside.specs.declared.traits.Sample.{Sample}
use Rattle.module_frames.specs.ReplyFrames.{ReplyFrame}
use Rattle.state_model.specs.ModuleView.{ModuleView}
use Rattle.state_model.specs.MachineState.{MachineState}
use Rattle.state_model.specs.Represents.{Represents}
use Rattle.command_serving.specs.declared.serving.Ended.{Ended}
use Rattle.command_serving.specs.declared.serving.Ended.TheVariants as ended
use Rattle.command_serving.specs.Grammars.{Grammar, fault_number, IsLawful}
use Rattle.command_serving.specs.Run.{Runs, RunsStream, remainder_start, fault_or, ending_of, encoded_replies}
use Rattle.stream_calls.specs.Streams.{Streams}
use Rattle.command_serving.specs.Serving.{Answered, Serves, IsReadToEnd}
use Rattle.stream_calls.specs.declared.limits.TheConstants.{STREAM_MAX}
use Rattle.command_serving.proofs.StreamEnds.{shown_fault, broken_other, broken_ending}

chosen_fault : (found : Option ℕ) (number : ℕ) → option_map_or (λ n. ended.BadFrame n) found ended.Truncated ≡ ended.BadFrame number → found ≡ Some number
chosen_fault None number h = cc
chosen_fault (Some n) number h = cc

-- a stream that ends as a bad frame shows a fault with that number
ending_fault : (grammar : Grammar) (start : ℕ) (remainder : List ℕ) (number : ℕ) → ending_of grammar start remainder ≡ ended.BadFrame number → fault_number grammar start remainder ≡ Some number
ending_fault grammar start [] number h = cc
ending_fault grammar start (byte ∷ remainder) number h = chosen_fault (fault_number grammar start (byte ∷ remainder)) number h

-- and it stays there in the stream
fault_number_stays : (grammar : Grammar) → IsLawful grammar → (start : ℕ) (remainder more : List ℕ) (number : ℕ) → fault_number grammar start remainder ≡ Some number
    → fault_number grammar start (remainder ++ more) ≡ Some number
fault_number_stays grammar lawful start remainder more number h =
    let shown = shown_fault grammar start remainder number h in
    ap (λ fault. option_map (λ within. start + within) fault) (lawful.fault_stays remainder more shown.0 shown.1 ∙ sym shown.1) ∙ h

-- once a remainder shows a fault the run is over, whatever follows
run_stays : {V : Type 0} (grammar : Grammar) (calls : Calls V) → IsLawful grammar → {s t : MachineState V} {events left : List Sample} {bytes remainder : List ℕ} {replies : List ReplyFrame} (more : List ℕ)
    (start number : ℕ) → fault_number grammar start remainder ≡ Some number → Runs grammar calls s events bytes t replies left remainder
    → Runs grammar calls s events (bytes ++ more) t replies left (remainder ++ more)
run_stays grammar calls lawful {s} {t} {events} {left} {bytes} {remainder} more start number fault runs =
    let shown = shown_fault grammar start remainder number fault in
    record {
      commands = runs.commands;
      parses = record {
        front = runs.parses.front;
        whole = ap (λ xs. xs ++ more) runs.parses.whole ∙ append_assoc runs.parses.front remainder more;
        encoded = runs.parses.encoded;
        unfinished = lawful.fault_begins_no_unit (remainder ++ more) shown.0 (lawful.fault_stays remainder more shown.0 shown.1);
      };
      ran = runs.ran;
    }

-- the first bytes of two parts, past the first part
take_past : (n : ℕ) (first more : List ℕ) → length first ≤ n → take n (first ++ more) ≡ first ++ take (n - length first) more
take_past n first more h =
    let sum : length first + (n - length first) ≡ n = omega arith in
    ap (λ k. take k (first ++ more)) (sym sum)
    ∙ take-add (length first) (n - length first) (first ++ more)
    ∙ ap (λ xs. xs ++ take (n - length first) (drop (length first) (first ++ more))) (take_at first more (length first) refl)
    ∙ ap (λ xs. first ++ take (n - length first) xs) (drop_at first more (length first) refl)

-- a remainder begins where it did, however bytes and remainder go on
start_stays : (grammar : Grammar) → IsLawful grammar → (bytes remainder more : List ℕ) → remainder_start grammar (bytes ++ more) (remainder ++ more) ≡ remainder_start grammar bytes remainder
start_stays grammar lawful bytes remainder more = omega (arith, lawful.advance_both bytes more, lawful.advance_both remainder more)

-- where a stream was served, the run over it, which ends in the machine that the module is then, and what is written; where what was gained is told,
-- it is written behind that
abbrev pub LeavesRun : {V : Type 0} → Grammar → Calls V → MachineState V → List Sample → (bytes : List ℕ) → Ended → ModuleView V → (before after : Option (List ℕ)) → Type 0
LeavesRun {V} grammar calls s events bytes ending m before after =
    (out : List ℕ) × (t : MachineState V) × RunsStream grammar calls s events bytes t ending out × Represents m t × Appends before out after

-- a stream that was read to its end
output_at_end : {V : Type 0} (grammar : Grammar) (calls : Calls V) (s : MachineState V) (events : List Sample) (ending : Ended) (m : ModuleView V) (bytes : List ℕ) (gained : Option (List ℕ)) (taken read remainder : List ℕ) (left : List Sample) (after : Streams)
    → Answered grammar calls s events read remainder m left (record { left = Some bytes; gained = gained }) after
    → ending_of grammar (remainder_start grammar read remainder) remainder ≡ ending → IsReadToEnd grammar taken read (Some bytes)
    → LeavesRun grammar calls s events bytes ending m gained after.gained
output_at_end {V} grammar calls s events ending m bytes gained taken read remainder left after answered e to_end =
    let Over : List ℕ → Type 0 = λ xs. Runs grammar calls s events xs answered.machine answered.replies left remainder in
    let whole : read ≡ grammar.at_end bytes = to_end.read_at_end ∙ ap grammar.at_end (sym to_end.all) in (
      encoded_replies grammar answered.replies,
      answered.machine,
      record {
        short = λ _. (
          answered.replies,
          left,
          remainder,
          subst Over whole answered.runs,
          refl,
          sym e ∙ ap (λ xs. ending_of grammar (remainder_start grammar xs remainder) remainder) whole,
        );
        too_long = λ long. absurd (omega (arith, ap length to_end.all, to_end.below_limit, long));
      },
      answered.represents,
      answered.gained,
    )

-- a stream that shows a fault in the bytes taken
output_at_fault : {V : Type 0} (grammar : Grammar) (calls : Calls V) → IsLawful grammar → (s : MachineState V) (events : List Sample) (number : ℕ) (m : ModuleView V) (bytes : List ℕ) (gained : Option (List ℕ)) (taken remainder more : List ℕ) (left : List Sample) (after : Streams)
    → Answered grammar calls s events taken remainder m left (record { left = Some bytes; gained = gained }) after
    → ending_of grammar (remainder_start grammar taken remainder) remainder ≡ ended.BadFrame number → length taken ≤ STREAM_MAX → bytes ≡ taken ++ more
    → LeavesRun grammar calls s events bytes (ended.BadFrame number) m gained after.gained
output_at_fault {V} grammar calls lawful s events number m bytes gained taken remainder more left after answered ends within all =
    let start = remainder_start grammar taken remainder in
    let fault : fault_number grammar start remainder ≡ Some number = ending_fault grammar start remainder number ends in
    let rest = more ++ lawful.mark in
    let cut = take (STREAM_MAX - length taken) more in
    let whole : grammar.at_end bytes ≡ taken ++ rest = lawful.is_mark bytes ∙ ap (λ xs. xs ++ lawful.mark) all ∙ append_assoc taken more lawful.mark in
    let first : take STREAM_MAX bytes ≡ taken ++ cut = ap (λ xs. take STREAM_MAX xs) all ∙ take_past STREAM_MAX taken more within in
    let Whole : List ℕ → Type 0 = λ xs. Runs grammar calls s events xs answered.machine answered.replies left (remainder ++ rest) in
    let Cut : List ℕ → Type 0 = λ xs. Runs grammar calls s events xs answered.machine answered.replies left (remainder ++ cut) in
    let whole_ends : ending_of grammar (remainder_start grammar (grammar.at_end bytes) (remainder ++ rest)) (remainder ++ rest) ≡ ended.BadFrame number =
    ap (λ xs. ending_of grammar (remainder_start grammar xs (remainder ++ rest)) (remainder ++ rest)) whole
    ∙ ap (λ n. ending_of grammar n (remainder ++ rest)) (start_stays grammar lawful taken remainder rest)
    ∙ broken_ending grammar lawful start (remainder ++ rest) number (fault_number_stays grammar lawful start remainder rest number fault) in
    let cut_ends : fault_or grammar (remainder_start grammar (take STREAM_MAX bytes) (remainder ++ cut)) (remainder ++ cut) ended.Limit ≡ ended.BadFrame number =
    ap (λ xs. fault_or grammar (remainder_start grammar xs (remainder ++ cut)) (remainder ++ cut) ended.Limit) first
    ∙ ap (λ n. fault_or grammar n (remainder ++ cut) ended.Limit) (start_stays grammar lawful taken remainder cut)
    ∙ broken_other grammar start (remainder ++ cut) number ended.Limit (fault_number_stays grammar lawful start remainder cut number fault) in (
      encoded_replies grammar answered.replies,
      answered.machine,
      record {
        short = λ _. (
          answered.replies,
          left,
          remainder ++ rest,
          subst Whole (sym whole) (run_stays grammar calls lawful rest start number fault answered.runs),
          refl,
          sym whole_ends,
        );
        too_long = λ _. (
          answered.replies,
          left,
          remainder ++ cut,
          subst Cut (sym first) (run_stays grammar calls lawful cut start number fault answered.runs),
          refl,
          sym cut_ends,
        );
      },
      answered.represents,
      answered.gained,
    )

-- a stream of which as many bytes were taken as may be
output_at_limit : {V : Type 0} (grammar : Grammar) (calls : Calls V) (s : MachineState V) (events : List Sample) (m : ModuleView V) (bytes : List ℕ) (gained : Option (List ℕ)) (taken remainder more : List ℕ) (left : List Sample) (after : Streams)
    → Answered grammar calls s events taken remainder m left (record { left = Some bytes; gained = gained }) after
    → length taken ≡ STREAM_MAX → grammar.first_fault remainder ≡ None → bytes ≡ taken ++ more
    → LeavesRun grammar calls s events bytes ended.Limit m gained after.gained
output_at_limit {V} grammar calls s events m bytes gained taken remainder more left after answered long no_fault all =
    let Over : List ℕ → Type 0 = λ xs. Runs grammar calls s events xs answered.machine answered.replies left remainder in (
      encoded_replies grammar answered.replies,
      answered.machine,
      record {
        short = λ less. absurd (omega (arith, ap length all, length-append taken more, long, less));
        too_long = λ _. (
          answered.replies,
          left,
          remainder,
          subst Over (sym (ap (λ xs. take STREAM_MAX xs) all ∙ take_at taken more STREAM_MAX long)) answered.runs,
          refl,
          rw no_fault refl,
        );
      },
      answered.represents,
      answered.gained,
    )

-- where no call failed, what serving leaves is the run over the stream
pub stream_of : {V : Type 0} (grammar : Grammar) (calls : Calls V) → IsLawful grammar → (s : MachineState V) (events : List Sample) (ending : Ended) (chunk : ℕ) (m : ModuleView V) (bytes : List ℕ) (gained : Option (List ℕ)) (left : List Sample) (after : Streams)
    → Serves grammar calls ending chunk s m (record { left = Some bytes; gained = gained }) after events left → ending ≢ ended.ReadFault → ending ≢ ended.WriteFault
    → LeavesRun grammar calls s events bytes ending m gained after.gained
stream_of grammar calls lawful s events ended.End chunk m bytes gained left after (taken, read, remainder, consumes, answered, ends) no_read no_write =
    output_at_end grammar calls s events ended.End m bytes gained taken read remainder left after answered ends.0 ends.1
stream_of grammar calls lawful s events ended.Truncated chunk m bytes gained left after (taken, read, remainder, consumes, answered, ends) no_read no_write =
    output_at_end grammar calls s events ended.Truncated m bytes gained taken read remainder left after answered ends.0 ends.1
stream_of {V} grammar calls lawful s events (ended.BadFrame number) chunk m bytes gained left after (taken, read, remainder, consumes, answered, ends) no_read no_write =
    let AtFault : List ℕ → Type 0 = λ xs. Answered grammar calls s events xs remainder m left (record { left = Some bytes; gained = gained }) after in
    elim ends.2 [
      | inl same ↦ output_at_fault grammar calls lawful s events number m bytes gained taken remainder consumes.0 left after (subst AtFault same answered)
          (ap (λ xs. ending_of grammar (remainder_start grammar xs remainder) remainder) (sym same) ∙ ends.0) ends.1 consumes.1
      | inr to_end ↦ output_at_end grammar calls s events (ended.BadFrame number) m bytes gained taken read remainder left after answered ends.0 to_end
    ]
stream_of {V} grammar calls lawful s events ended.Limit chunk m bytes gained left after (taken, read, remainder, consumes, answered, ends) no_read no_write =
    let AtLimit : List ℕ → Type 0 = λ xs. Answered grammar calls s events xs remainder m left (record { left = Some bytes; gained = gained }) after in
    output_at_limit grammar calls s events m bytes gained taken remainder consumes.0 left after (subst AtLimit ends.1 answered) ends.0 ends.2 consumes.1
stream_of grammar calls lawful s events ended.ReadFault chunk m bytes gained left after served no_read no_write = absurd (no_read refl)
stream_of grammar calls lawful s events ended.WriteFault chunk m bytes gained left after served no_read no_write = absurd (no_write refl)
