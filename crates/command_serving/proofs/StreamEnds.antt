-- How serving a stream ends.
use Rattle.std.proofs.Common.{◌≡◌, ◌≢◌, ◌++◌, ◌≤◌, ◌+◌, ◌⊎◌, inl, inr, ℕ, List, [], ◌∷◌, append-nil, sym, refl, ◌∙◌, ap, subst, length, arith, Option, Some, None}
use Rattle.std.specs.Option.{option_map, option_map_or}
use Rattle.engine_core.specs.Calls.{Calls}
use Rattle.outside.specs.Contents.{Consumes, IsAtEnd}
use Rattle.outside.specs.declared.traits.Sample.{Sample}
use Rattle.module_frames.specs.Fragments.{Fragment}
use Rattle.state_model.specs.ModuleView.{ModuleView}
use Rattle.state_model.specs.MachineState.{MachineState}
use Rattle.state_model.specs.Represents.{Represents}
use Rattle.command_serving.specs.declared.serving.Ended.{Ended}
use Rattle.command_serving.specs.declared.serving.Ended.TheVariants as ended
use Rattle.command_serving.specs.Grammars.{Grammar, fault_number, IsLawful}
use Rattle.command_serving.specs.Decoding.{IsReady}
use Rattle.command_serving.specs.Run.{remainder_start, fault_or, ending_of}
use Rattle.command_serving.specs.Chunks.{ServerState, ChunkServed, WriteFailed}
use Rattle.stream_calls.specs.Streams.{Streams, IsAllOf}
use Rattle.command_serving.specs.Serving.{Answered, Serves, IsReadToEnd, AskedNoFurther}
use Rattle.command_serving.proofs.CommandRuns.{cut_both}

-- what was served from the stream's beginning is the run over it
pub answered_of : {V : Type 0} (grammar : Grammar) (calls : Calls V) {a b : ServerState V} {read remainder : List ℕ} {events gone : List Sample} (left now : Option (List ℕ)) (s : MachineState V) → Represents a.view s
    → ChunkServed grammar calls a [] read remainder b events gone → grammar.BeginsNoUnit remainder
    → Answered grammar calls s events read remainder b.view gone (record { left = left; gained = a.gained }) (record { left = now; gained = b.gained })
answered_of grammar calls {a} {b} {read} {remainder} left now s represents served unfinished =
    let result = served.each s represents in
    record {
      machine = result.0;
      replies = result.1;
      runs = record {
        commands = result.4.commands;
        parses = record { front = result.4.front; whole = result.4.whole; encoded = result.4.encoded; unfinished = unfinished };
        ran = result.4.ran;
      };
      represents = result.2;
      gained = result.3;
    }

-- nothing was asked for after a fault showed, since before this chunk none did
pub asked_no_further : {V : Type 0} (grammar : Grammar) (calls : Calls V) {a b : ServerState V} {earlier : List ℕ} {events gone : List Sample} (held : Fragment) (most : ℕ) (last : List ℕ) (s : MachineState V)
    → Represents a.view s → ChunkServed grammar calls a [] earlier held.bytes b events gone → IsReady grammar held → length last ≤ most → AskedNoFurther grammar most (earlier ++ last)
asked_no_further grammar calls {a} {b} {earlier} held most last s represents served ready within =
    let result = served.each s represents in
    record {
      earlier = earlier;
      last = last;
      whole = refl;
      chunk_length = within;
      no_fault = record {
        commands = result.4.commands;
        remainder = held.bytes;
        parses = record { front = result.4.front; whole = result.4.whole; encoded = result.4.encoded; unfinished = ready.unfinished };
        no_fault = ready.no_fault;
      };
    }

-- what was taken up to the end is all
pub all_of : (before mid : Option (List ℕ)) (taken : List ℕ) → Consumes before taken mid → IsAtEnd mid → IsAllOf taken before
all_of None mid taken consumes over = tt
all_of (Some all) mid taken consumes over =
    let none = rw consumes.2 at over in
    consumes.1 ∙ ap (λ xs. taken ++ xs) none ∙ append-nil taken

-- a write failed, or none did
pub write_failed_or_not : (ending : Ended) → (ending ≡ ended.WriteFault) ⊎ (ending ≢ ended.WriteFault)
write_failed_or_not ended.End = inr (λ e. cc)
write_failed_or_not (ended.BadFrame number) = inr (λ e. cc)
write_failed_or_not ended.Truncated = inr (λ e. cc)
write_failed_or_not ended.ReadFault = inr (λ e. cc)
write_failed_or_not ended.WriteFault = inl refl
write_failed_or_not ended.Limit = inr (λ e. cc)

-- what was served at a source's end
pub record EndReached {V : Type 0} (grammar : Grammar) (calls : Calls V) (start chunk : ℕ) (remainder taken read : List ℕ) (s : MachineState V) (m : ModuleView V) (before after : Streams) (events gone : List Sample) : Type 0 where
  pub begins : remainder_start grammar read remainder ≡ start
  pub consumes : Consumes before.left taken after.left
  pub answered : Answered grammar calls s events read remainder m gone before after
  pub to_end : IsReadToEnd grammar taken read before.left
  pub asked : AskedNoFurther grammar chunk taken

ends_by : {V : Type 0} (grammar : Grammar) (calls : Calls V) (start chunk byte : ℕ) (remainder taken read : List ℕ) (s : MachineState V) (m : ModuleView V) (before after : Streams) (events gone : List Sample)
    (found : Option ℕ) → fault_number grammar start (byte ∷ remainder) ≡ found → EndReached grammar calls start chunk (byte ∷ remainder) taken read s m before after events gone
    → Serves grammar calls (option_map_or (λ number. ended.BadFrame number) found ended.Truncated) chunk s m before after events gone
ends_by grammar calls start chunk byte remainder taken read s m before after events gone None fault reached =
    let truncated : ending_of grammar (remainder_start grammar read (byte ∷ remainder)) (byte ∷ remainder) ≡ ended.Truncated =
    ap (λ n. ending_of grammar n (byte ∷ remainder)) reached.begins ∙ ap (λ found. option_map_or (λ number. ended.BadFrame number) found ended.Truncated) fault in
    (taken, read, byte ∷ remainder, reached.consumes, reached.answered, (truncated, reached.to_end))
ends_by grammar calls start chunk byte remainder taken read s m before after events gone (Some number) fault reached =
    let broken : ending_of grammar (remainder_start grammar read (byte ∷ remainder)) (byte ∷ remainder) ≡ ended.BadFrame number =
    ap (λ n. ending_of grammar n (byte ∷ remainder)) reached.begins ∙ ap (λ found. option_map_or (λ number. ended.BadFrame number) found ended.Truncated) fault in
    (taken, read, byte ∷ remainder, reached.consumes, reached.answered, (broken, omega (arith, reached.to_end.below_limit), inr reached.to_end, reached.asked))

reached_end : {V : Type 0} (grammar : Grammar) (calls : Calls V) (start chunk : ℕ) (remainder taken read : List ℕ) (s : MachineState V) (m : ModuleView V) (before after : Streams) (events gone : List Sample)
    → EndReached grammar calls start chunk remainder taken read s m before after events gone → Serves grammar calls (ending_of grammar start remainder) chunk s m before after events gone
reached_end grammar calls start chunk [] taken read s m before after events gone reached = (taken, read, [], reached.consumes, reached.answered, (refl, reached.to_end))
reached_end grammar calls start chunk (byte ∷ remainder) taken read s m before after events gone reached =
    ends_by grammar calls start chunk byte remainder taken read s m before after events gone (fault_number grammar start (byte ∷ remainder)) refl reached

-- a source that ended
pub ends_at : {V : Type 0} (grammar : Grammar) (calls : Calls V) (ending : Ended) (start chunk : ℕ) (remainder taken read : List ℕ) (s : MachineState V) (m : ModuleView V) (before after : Streams)
    (events gone : List Sample) → ending ≡ ending_of grammar start remainder → EndReached grammar calls start chunk remainder taken read s m before after events gone
    → Serves grammar calls ending chunk s m before after events gone
ends_at {V} grammar calls ending start chunk remainder taken read s m before after events gone is reached =
    let Ends : Ended → Type 0 = λ e. Serves grammar calls e chunk s m before after events gone in
    subst Ends (sym is) (reached_end grammar calls start chunk remainder taken read s m before after events gone reached)

-- a source that ended, and then a write failed
pub fails_at : {V : Type 0} (grammar : Grammar) (calls : Calls V) → IsLawful grammar → (ending : Ended) {a b c : ServerState V} {held taken mark : List ℕ} (chunk : ℕ) (s : MachineState V) (left now : Option (List ℕ))
    {events between gone : List Sample} → ending ≡ ended.WriteFault → Represents a.view s → ChunkServed grammar calls a [] taken held b events between → WriteFailed grammar calls b held mark c between gone
    → Consumes left taken now → IsReadToEnd grammar taken (taken ++ mark) left
    → Serves grammar calls ending chunk s c.view (record { left = left; gained = a.gained }) (record { left = now; gained = c.gained }) events gone
fails_at {V} grammar calls lawful ending {a} {b} {c} {held} {taken} {mark} chunk s left now {events} {between} {gone} is represents first second consumes to_end =
    let Ends : Ended → Type 0 = λ e. Serves grammar calls e chunk s c.view (record { left = left; gained = a.gained }) (record { left = now; gained = c.gained }) events gone in
    subst Ends (sym is) (taken, taken ++ mark, consumes, inr to_end, (cut_both grammar calls lawful first second).each s represents)

fault_within : (start : ℕ) (fault : Option ℕ) (number : ℕ) → option_map (λ within. start + within) fault ≡ Some number → (within : ℕ) × (fault ≡ Some within)
fault_within start None number h = cc
fault_within start (Some within) number h = (within, refl)

-- a remainder that shows a fault with a number in the stream shows one
pub shown_fault : (grammar : Grammar) (start : ℕ) (remainder : List ℕ) (number : ℕ) → fault_number grammar start remainder ≡ Some number → (within : ℕ) × (grammar.first_fault remainder ≡ Some within)
shown_fault grammar start remainder number h = fault_within start (grammar.first_fault remainder) number h

-- no whole unit begins with it
pub fault_unfinished : (grammar : Grammar) → IsLawful grammar → (start : ℕ) (remainder : List ℕ) (number : ℕ) → fault_number grammar start remainder ≡ Some number → grammar.BeginsNoUnit remainder
fault_unfinished grammar lawful start remainder number h =
    let shown = shown_fault grammar start remainder number h in
    lawful.fault_begins_no_unit remainder shown.0 shown.1

-- a remainder that shows a fault, whatever the end without it
pub broken_other : (grammar : Grammar) (start : ℕ) (remainder : List ℕ) (number : ℕ) (other : Ended) → fault_number grammar start remainder ≡ Some number → fault_or grammar start remainder other ≡ ended.BadFrame number
broken_other grammar start remainder number other fault = ap (λ found. option_map_or (λ n. ended.BadFrame n) found other) fault

-- a stream that leaves such a remainder ends so
pub broken_ending : (grammar : Grammar) → IsLawful grammar → (start : ℕ) (remainder : List ℕ) (number : ℕ) → fault_number grammar start remainder ≡ Some number
    → ending_of grammar start remainder ≡ ended.BadFrame number
broken_ending grammar lawful start [] number fault =
    let none : fault_number grammar start [] ≡ None = ap (λ found. option_map (λ n. start + n) found) lawful.nothing_wrong in
    let never : None ≡ Some number = sym none ∙ fault in
    cc
broken_ending grammar lawful start (byte ∷ remainder) number fault = broken_other grammar start (byte ∷ remainder) number ended.Truncated fault

-- a stream that ends by its remainder had no failed read or write
pub no_read_failed : (grammar : Grammar) (start : ℕ) (remainder : List ℕ) → ending_of grammar start remainder ≢ ended.ReadFault
no_read_failed grammar start [] = λ e. cc
no_read_failed grammar start (byte ∷ remainder) = chosen (fault_number grammar start (byte ∷ remainder))
  where
    chosen : (found : Option ℕ) → option_map_or (λ n. ended.BadFrame n) found ended.Truncated ≢ ended.ReadFault
    chosen None = λ e. cc
    chosen (Some n) = λ e. cc

pub no_write_failed : (grammar : Grammar) (start : ℕ) (remainder : List ℕ) → ending_of grammar start remainder ≢ ended.WriteFault
no_write_failed grammar start [] = λ e. cc
no_write_failed grammar start (byte ∷ remainder) = chosen (fault_number grammar start (byte ∷ remainder))
  where
    chosen : (found : Option ℕ) → option_map_or (λ n. ended.BadFrame n) found ended.Truncated ≢ ended.WriteFault
    chosen None = λ e. cc
    chosen (Some n) = λ e. cc
