-- What a chunk does, by what the codec answers to it.
use Rattle.std.proofs.Common.{◌≡◌, ◌++◌, ◌≤◌, ◌+◌, ℕ, Some, List, [], ◌∷◌, append_assoc, refl, sym, ◌∙◌, ap, subst, length, length-append, arith, take, drop}
use Rattle.std.proofs.lemmas.List.{take-append-drop, length-drop, length-take-le}
use Rattle.std.proofs.Math.Seq.{take-add}
use Rattle.engine_core.specs.Calls.{Calls}
use Rattle.outside.specs.declared.traits.Sample.{Sample}
use Rattle.module_frames.specs.Fragments.{Fragment}
use Rattle.state_model.specs.Step.{step, reply_to}
use Rattle.command_serving.specs.declared.codec.Decoded.TheVariants as decoded
use Rattle.command_serving.specs.Grammars.{Grammar, fault_number, IsLawful}
use Rattle.command_serving.specs.Decoding.{IsReady, Decodes, cleared}
use Rattle.command_serving.specs.Chunks.{ServerState, CommandsServed, ReplyCutOff, ChunkServed, ChunkDone, FaultShown, WriteFailed, CommandAnswered, AnswerCutOff}
use Rattle.command_serving.proofs.CommandRuns.{served_held, served_skipped, served_both, cut_both, commands_one, cut_off_one, encoded_one}

-- a part of a chunk was taken, and these bytes are held
pub record Underway (grammar : Grammar) (old : Fragment) (chunk : List ℕ) (done : ℕ) (mid : Fragment) : Type 0 where
  pub within : done ≤ length chunk
  pub ready : IsReady grammar mid
  pub place : mid.start + grammar.advance mid.bytes ≡ old.start + grammar.advance old.bytes + grammar.advance (take done chunk)
  pub short : mid.start + length mid.bytes ≤ old.start + length old.bytes + done

-- a chunk moves the numbers by what its two parts do
advance_parts : (grammar : Grammar) → IsLawful grammar → (chunk : List ℕ) (done : ℕ) → grammar.advance chunk ≡ grammar.advance (take done chunk) + grammar.advance (drop done chunk)
advance_parts grammar lawful chunk done = ap grammar.advance (sym (take-append-drop done chunk)) ∙ lawful.advance_both (take done chunk) (drop done chunk)

-- the next part of a chunk moves them on
advance_next : (grammar : Grammar) → IsLawful grammar → (chunk : List ℕ) (done count : ℕ)
    → grammar.advance (take (done + count) chunk) ≡ grammar.advance (take done chunk) + grammar.advance (take count (drop done chunk))
advance_next grammar lawful chunk done count = ap grammar.advance (take-add done count chunk) ∙ lawful.advance_both (take done chunk) (take count (drop done chunk))

-- the rest of the chunk is held
pub chunk_done : {old mid new : Fragment} {chunk : List ℕ} {done : ℕ} (grammar : Grammar) → IsLawful grammar → Underway grammar old chunk done mid → Decodes grammar mid (drop done chunk) decoded.More new
    → ChunkDone grammar old chunk new
chunk_done {old} {mid} {new} {chunk} {done} grammar lawful way took =
    let bytes : new.bytes ≡ mid.bytes ++ drop done chunk = ap (λ (f : Fragment). f.bytes) took.0 in
    let start : new.start ≡ mid.start = ap (λ (f : Fragment). f.start) took.0 in
    record {
      ready = took.1;
      place = omega (arith, start, ap grammar.advance bytes, lawful.advance_both mid.bytes (drop done chunk), advance_parts grammar lawful chunk done, way.place);
      short = omega (arith, start, ap length bytes, length-append mid.bytes (drop done chunk), length-drop done chunk, way.short, way.within);
    }

pub chunk_served : {V : Type 0} (grammar : Grammar) (calls : Calls V) → IsLawful grammar → {first now : ServerState V} (old mid new : Fragment) (chunk : List ℕ) (done : ℕ) {events left : List Sample}
    → ChunkServed grammar calls first old.bytes (take done chunk) mid.bytes now events left → Decodes grammar mid (drop done chunk) decoded.More new
    → ChunkServed grammar calls first old.bytes chunk new.bytes now events left
chunk_served {V} grammar calls lawful {first} {now} old mid new chunk done {events} {left} served took =
    let All : List ℕ → Type 0 = λ p. ChunkServed grammar calls first old.bytes p new.bytes now events left in
    subst All (take-append-drop done chunk)
    (served_both grammar calls lawful served (served_held grammar calls lawful now mid.bytes (drop done chunk) new.bytes left (ap (λ (f : Fragment). f.bytes) took.0)))

-- the rest of the chunk shows a fault
pub fault_shown : {old mid : Fragment} {chunk : List ℕ} {done number : ℕ} (grammar : Grammar) → IsLawful grammar → Underway grammar old chunk done mid
    → fault_number grammar mid.start (mid.bytes ++ drop done chunk) ≡ Some number → FaultShown grammar old chunk mid.start (mid.bytes ++ drop done chunk) number
fault_shown {old} {mid} {chunk} {done} {number} grammar lawful way fault =
    record { begins = omega (arith, lawful.advance_both mid.bytes (drop done chunk), advance_parts grammar lawful chunk done, way.place); fault = fault }

pub fault_served : {V : Type 0} (grammar : Grammar) (calls : Calls V) → IsLawful grammar → {first now : ServerState V} (old mid : Fragment) (chunk : List ℕ) (done : ℕ) {events left : List Sample}
    → ChunkServed grammar calls first old.bytes (take done chunk) mid.bytes now events left → ChunkServed grammar calls first old.bytes chunk (mid.bytes ++ drop done chunk) now events left
fault_served {V} grammar calls lawful {first} {now} old mid chunk done {events} {left} served =
    let All : List ℕ → Type 0 = λ p. ChunkServed grammar calls first old.bytes p (mid.bytes ++ drop done chunk) now events left in
    subst All (take-append-drop done chunk) (served_both grammar calls lawful served (served_held grammar calls lawful now mid.bytes (drop done chunk) (mid.bytes ++ drop done chunk) left refl))

-- so many more bytes were taken, up to the end of a unit, and nothing is held
pub unit_done : {old mid unit new : Fragment} {chunk : List ℕ} {done count : ℕ} (grammar : Grammar) → IsLawful grammar → Underway grammar old chunk done mid → count ≤ length (drop done chunk)
    → unit ≡ record mid { bytes = mid.bytes ++ take count (drop done chunk) } → new ≡ cleared grammar unit → Underway grammar old chunk (done + count) new
unit_done {old} {mid} {unit} {new} {chunk} {done} {count} grammar lawful way few is clear =
    let piece = take count (drop done chunk) in
    let long : length piece ≡ count = length-take-le count (drop done chunk) few in
    let bytes : unit.bytes ≡ mid.bytes ++ piece = ap (λ (f : Fragment). f.bytes) is in
    let start : unit.start ≡ mid.start = ap (λ (f : Fragment). f.start) is in
    let none : new.bytes ≡ [] = ap (λ (f : Fragment). f.bytes) clear in
    let moved : new.start ≡ unit.start + grammar.advance unit.bytes = ap (λ (f : Fragment). f.start) clear in
    let nothing : grammar.advance [] ≡ 0 = omega (arith, lawful.advance_within []) in
    record {
      within = omega (arith, few, length-drop done chunk, way.within);
      ready = record {
        no_earlier_fault = ap (λ (f : Fragment). f.fault) clear ∙ ap (λ (f : Fragment). f.fault) is ∙ way.ready.no_earlier_fault;
        no_fault = ap grammar.first_fault none ∙ lawful.nothing_wrong;
        unfinished = subst grammar.BeginsNoUnit (sym none) lawful.nothing_begun;
      };
      place = omega (arith, moved, start, ap grammar.advance none, nothing, ap grammar.advance bytes, lawful.advance_both mid.bytes piece, advance_next grammar lawful chunk done count, way.place);
      short = omega (
        arith,
        moved,
        start,
        ap length none,
        ap length bytes,
        length-append mid.bytes piece,
        lawful.advance_within unit.bytes,
        long,
        way.short,
      );
    }

-- a unit that makes no command was skipped
pub unit_skipped : {V : Type 0} (grammar : Grammar) (calls : Calls V) → IsLawful grammar → {first now : ServerState V} (old mid : Fragment) (chunk : List ℕ) (done count : ℕ) {events left : List Sample}
    → grammar.Encodes (mid.bytes ++ take count (drop done chunk)) [] → ChunkServed grammar calls first old.bytes (take done chunk) mid.bytes now events left
    → ChunkServed grammar calls first old.bytes (take (done + count) chunk) [] now events left
unit_skipped grammar calls lawful {first} {now} old mid chunk done count {events} {left} encoded served =
    rw (take-add done count chunk) (served_both grammar calls lawful served (served_skipped grammar calls now mid.bytes (take count (drop done chunk)) left encoded))

-- a command became whole, and was done and answered
pub command_served : {V : Type 0} (grammar : Grammar) (calls : Calls V) → IsLawful grammar → {first now next : ServerState V} (old mid unit : Fragment) (chunk : List ℕ) (done count : ℕ) {events between left : List Sample}
    → unit ≡ record mid { bytes = mid.bytes ++ take count (drop done chunk) }
    → ChunkServed grammar calls first old.bytes (take done chunk) mid.bytes now events between → CommandAnswered grammar calls now unit.bytes next between left
    → ChunkServed grammar calls first old.bytes (take (done + count) chunk) [] next events left
command_served {V} grammar calls lawful {first} {now} {next} old mid unit chunk done count {events} {between} {left} is served answered =
    let bytes : unit.bytes ≡ mid.bytes ++ take count (drop done chunk) = ap (λ (f : Fragment). f.bytes) is in
    let command = answered.command in
    let one : ChunkServed grammar calls now mid.bytes (take count (drop done chunk)) [] next between left = record {
      each = λ s represents.
          let result = answered.each s represents in
          let after = step calls s between command in
          let Left : List Sample → Type 0 = λ l. CommandsServed grammar calls s between mid.bytes (take count (drop done chunk)) after.machine l [] (reply_to command after ∷ []) in (
            after.machine,
            reply_to command after ∷ [],
            result.0,
            encoded_one grammar now.gained next.gained (reply_to command after) result.2,
            subst Left result.1 (commands_one grammar calls s between mid.bytes (take count (drop done chunk)) unit.bytes command bytes answered.encoded),
          );
    } in
    rw (take-add done count chunk) (served_both grammar calls lawful served one)

-- a command became whole and was done, and a part of its reply was written
pub command_cut : {V : Type 0} (grammar : Grammar) (calls : Calls V) → IsLawful grammar → {first now next : ServerState V} (old mid unit : Fragment) (chunk : List ℕ) (done count : ℕ) {events between left : List Sample}
    → unit ≡ record mid { bytes = mid.bytes ++ take count (drop done chunk) }
    → ChunkServed grammar calls first old.bytes (take done chunk) mid.bytes now events between → AnswerCutOff grammar calls now unit.bytes next between left
    → WriteFailed grammar calls first old.bytes chunk next events left
command_cut {V} grammar calls lawful {first} {now} {next} old mid unit chunk done count {events} {between} {left} is served cut =
    let bytes : unit.bytes ≡ mid.bytes ++ take count (drop done chunk) = ap (λ (f : Fragment). f.bytes) is in
    let command = cut.command in
    let whole : unit.bytes ++ drop count (drop done chunk) ≡ mid.bytes ++ drop done chunk =
    ap (λ xs. xs ++ drop count (drop done chunk)) bytes ∙ append_assoc mid.bytes (take count (drop done chunk)) (drop count (drop done chunk))
    ∙ ap (λ xs. mid.bytes ++ xs) (take-append-drop count (drop done chunk)) in
    let one : WriteFailed grammar calls now mid.bytes (drop done chunk) next between left = record {
      each = λ s represents.
          let result = cut.each s represents in
          let after = step calls s between command in
          let part = result.2 in
          let out = take part.0 (grammar.reply_encoding (reply_to command after)) in
          let Left : List Sample → Type 0 = λ l. ReplyCutOff grammar calls s between mid.bytes (drop done chunk) after.machine l out in (
            after.machine,
            out,
            result.0,
            part.2,
            subst Left result.1
                (cut_off_one grammar calls lawful s between mid.bytes (drop done chunk) unit.bytes (drop count (drop done chunk)) command part.0 whole cut.encoded part.1),
          );
    } in
    let All : List ℕ → Type 0 = λ p. WriteFailed grammar calls first old.bytes p next events left in
    subst All (take-append-drop done chunk) (cut_both grammar calls lawful served one)
