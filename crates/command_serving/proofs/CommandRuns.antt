-- A run goes on, over commands and over chunks.
use Rattle.std.proofs.Common.{◌≡◌, ◌++◌, ◌<◌, ℕ, List, [], ◌∷◌, Option, append_assoc, append-nil, sym, refl, ◌∙◌, ap, subst, length, take}
use Rattle.engine_core.specs.Calls.{Calls}
use Rattle.outside.specs.Contents.{Appends}
use Rattle.outside.specs.declared.traits.Sample.{Sample}
use Rattle.outside.proofs.ConsecutiveCalls.{appends_none, appends_both}
use Rattle.module_frames.specs.CommandFrames.{CommandFrame}
use Rattle.module_frames.specs.ReplyFrames.{ReplyFrame}
use Rattle.state_model.specs.MachineState.{MachineState}
use Rattle.state_model.specs.Step.{step, reply_to}
use Rattle.command_serving.specs.Grammars.{Grammar, IsLawful}
use Rattle.state_model.specs.Runs.{Ran, run_commands, with_reply}
use Rattle.command_serving.specs.Run.{encoded_replies}
use Rattle.command_serving.specs.Chunks.{ServerState, CommandsServed, ReplyCutOff, ChunkServed, WriteFailed}

pub run_none : {V : Type 0} (calls : Calls V) (s : MachineState V) (events : List Sample) → run_commands calls s events [] ≡ record { machine = s; replies = []; left = events }
unfolding run_commands
run_none calls s events = refl

run_one : {V : Type 0} (calls : Calls V) (s : MachineState V) (events : List Sample) (command : CommandFrame)
    → run_commands calls s events (command ∷ []) ≡ (let after = step calls s events command in record { machine = after.machine; replies = reply_to command after ∷ []; left = after.left })
unfolding run_commands
run_one calls s events command = refl

-- a run with earlier replies in front
abbrev pub after_replies : {V : Type 0} → List ReplyFrame → Ran V → Ran V
after_replies replies ran = record ran { replies = replies ++ ran.replies }

pub run_both : {V : Type 0} (calls : Calls V) (s : MachineState V) (events : List Sample) (first more : List CommandFrame)
    → run_commands calls s events (first ++ more) ≡ (let ran = run_commands calls s events first in after_replies ran.replies (run_commands calls ran.machine ran.left more))
unfolding run_commands
run_both calls s events [] more = refl
run_both calls s events (command ∷ first) more =
    let after = step calls s events command in
    ap (λ ran. with_reply (reply_to command after) ran) (run_both calls after.machine after.left first more)

replies_both : (grammar : Grammar) (first more : List ReplyFrame) → encoded_replies grammar (first ++ more) ≡ encoded_replies grammar first ++ encoded_replies grammar more
replies_both grammar [] more = refl
replies_both grammar (reply ∷ first) more =
    ap (λ xs. grammar.reply_encoding reply ++ xs) (replies_both grammar first more)
    ∙ sym (append_assoc (grammar.reply_encoding reply) (encoded_replies grammar first) (encoded_replies grammar more))

-- bytes were held
commands_held : {V : Type 0} (grammar : Grammar) (calls : Calls V) → IsLawful grammar → (s : MachineState V) (events : List Sample) (held chunk remainder : List ℕ) → remainder ≡ held ++ chunk
    → CommandsServed grammar calls s events held chunk s events remainder []
commands_held grammar calls lawful s events held chunk remainder e = record { commands = []; front = []; whole = sym e; encoded = lawful.nothing; ran = run_none calls s events }

-- the bytes became a unit that makes no command
pub commands_skipped : {V : Type 0} (grammar : Grammar) (calls : Calls V) (s : MachineState V) (events : List Sample) (held chunk : List ℕ) → grammar.Encodes (held ++ chunk) []
    → CommandsServed grammar calls s events held chunk s events [] []
commands_skipped grammar calls s events held chunk encoded =
    record { commands = []; front = held ++ chunk; whole = sym (append-nil (held ++ chunk)); encoded = encoded; ran = run_none calls s events }

-- the bytes became a command, which was done
pub commands_one : {V : Type 0} (grammar : Grammar) (calls : Calls V) (s : MachineState V) (events : List Sample) (held chunk all : List ℕ) (command : CommandFrame) → all ≡ held ++ chunk
    → grammar.Encodes all (command ∷ [])
    → (let after = step calls s events command in CommandsServed grammar calls s events held chunk after.machine after.left [] (reply_to command after ∷ []))
commands_one grammar calls s events held chunk all command e encoded = record {
  commands = command ∷ [];
  front = all;
  whole = sym e ∙ sym (append-nil all);
  encoded = encoded;
  ran = run_one calls s events command;
}

-- the bytes of two chunks, each split into its units and what it leaves
split_both : (held a between b remainder front second : List ℕ) → held ++ a ≡ front ++ between → between ++ b ≡ second ++ remainder → held ++ (a ++ b) ≡ (front ++ second) ++ remainder
split_both held a between b remainder front second first_split second_split =
    sym (append_assoc held a b) ∙ ap (λ xs. xs ++ b) first_split ∙ append_assoc front between b ∙ ap (λ xs. front ++ xs) second_split ∙ sym (append_assoc front second remainder)

-- two chunks are one
commands_both : {V : Type 0} (grammar : Grammar) (calls : Calls V) → IsLawful grammar → (s t u : MachineState V) (events mid left : List Sample) (held between remainder a b : List ℕ) (replies more : List ReplyFrame)
    → CommandsServed grammar calls s events held a t mid between replies → CommandsServed grammar calls t mid between b u left remainder more
    → CommandsServed grammar calls s events held (a ++ b) u left remainder (replies ++ more)
commands_both grammar calls lawful s t u events mid left held between remainder a b replies more first second = record {
  commands = first.commands ++ second.commands;
  front = first.front ++ second.front;
  whole = split_both held a between b remainder first.front second.front first.whole second.whole;
  encoded = lawful.both first.front second.front first.commands second.commands first.encoded second.encoded;
  ran = rw (run_both calls s events first.commands second.commands, first.ran, second.ran) refl;
}

-- the bytes became a command, which was done, and a write failed
pub cut_off_one : {V : Type 0} (grammar : Grammar) (calls : Calls V) → IsLawful grammar → (s : MachineState V) (events : List Sample) (held chunk all more : List ℕ) (command : CommandFrame) (count : ℕ)
    → all ++ more ≡ held ++ chunk → grammar.Encodes all (command ∷ [])
    → (let after = step calls s events command in
    let reply = grammar.reply_encoding (reply_to command after) in
    count < length reply → ReplyCutOff grammar calls s events held chunk after.machine after.left (take count reply))
cut_off_one grammar calls lawful s events held chunk all more command count e encoded less = record {
  commands = [];
  last = command;
  front = [];
  unit = all;
  more = more;
  whole = sym e;
  encoded = lawful.nothing;
  last_encoded = encoded;
  answered = record { machine = s; replies = []; left = events };
  ran = run_none calls s events;
  stepped = refl;
  events_left = refl;
  count = count;
  less = less;
  gained = refl;
}

cut_off_both : {V : Type 0} (grammar : Grammar) (calls : Calls V) → IsLawful grammar → (s t u : MachineState V) (events mid left : List Sample) (held between a b more : List ℕ) (replies : List ReplyFrame)
    → CommandsServed grammar calls s events held a t mid between replies → ReplyCutOff grammar calls t mid between b u left more
    → ReplyCutOff grammar calls s events held (a ++ b) u left (encoded_replies grammar replies ++ more)
cut_off_both {V} grammar calls lawful s t u events mid left held between a b more replies first second = record {
  commands = first.commands ++ second.commands;
  last = second.last;
  front = first.front ++ second.front;
  unit = second.unit;
  more = second.more;
  whole = split_both held a between b (second.unit ++ second.more) first.front second.front first.whole second.whole;
  encoded = lawful.both first.front second.front first.commands second.commands first.encoded second.encoded;
  last_encoded = second.last_encoded;
  answered = after_replies replies second.answered;
  ran = rw (run_both calls s events first.commands second.commands, first.ran, second.ran) refl;
  stepped = second.stepped;
  events_left = second.events_left;
  count = second.count;
  less = second.less;
  gained = ap (λ xs. encoded_replies grammar replies ++ xs) second.gained ∙ sym (append_assoc (encoded_replies grammar replies) (encoded_replies grammar second.answered.replies) part)
      ∙ ap (λ xs. xs ++ part) (sym (replies_both grammar replies second.answered.replies));
}
  where
    part : List ℕ
    part = take second.count (grammar.reply_encoding (reply_to second.last (step calls second.answered.machine second.answered.left second.last)))

-- bytes were held
pub served_held : {V : Type 0} (grammar : Grammar) (calls : Calls V) → IsLawful grammar → (server : ServerState V) (held chunk remainder : List ℕ) (events : List Sample) → remainder ≡ held ++ chunk
    → ChunkServed grammar calls server held chunk remainder server events events
served_held grammar calls lawful server held chunk remainder events e =
    record { each = λ s represents. (s, [], represents, appends_none server.gained, commands_held grammar calls lawful s events held chunk remainder e) }

-- nothing was served
pub served_none : {V : Type 0} (grammar : Grammar) (calls : Calls V) → IsLawful grammar → (server : ServerState V) (held : List ℕ) (events : List Sample)
    → ChunkServed grammar calls server held [] held server events events
served_none grammar calls lawful server held events = served_held grammar calls lawful server held [] held events (sym (append-nil held))

-- a unit that makes no command was skipped
pub served_skipped : {V : Type 0} (grammar : Grammar) (calls : Calls V) (server : ServerState V) (held chunk : List ℕ) (events : List Sample) → grammar.Encodes (held ++ chunk) []
    → ChunkServed grammar calls server held chunk [] server events events
served_skipped grammar calls server held chunk events encoded =
    record { each = λ s represents. (s, [], represents, appends_none server.gained, commands_skipped grammar calls s events held chunk encoded) }

-- two chunks are one
pub served_both : {V : Type 0} (grammar : Grammar) (calls : Calls V) → IsLawful grammar → {a b c : ServerState V} {held between remainder p q : List ℕ} {events mid left : List Sample}
    → ChunkServed grammar calls a held p between b events mid → ChunkServed grammar calls b between q remainder c mid left → ChunkServed grammar calls a held (p ++ q) remainder c events left
served_both grammar calls lawful {a} {b} {c} {held} {between} {remainder} {p} {q} {events} {mid} {left} first second = record {
  each = λ s represents.
      let f = first.each s represents in
      let g = second.each f.0 f.2 in
      let Both : List ℕ → Type 0 = λ out. Appends a.gained out c.gained in (
        g.0,
        f.1 ++ g.1,
        g.2,
        subst Both (sym (replies_both grammar f.1 g.1)) (appends_both a.gained b.gained c.gained (encoded_replies grammar f.1) (encoded_replies grammar g.1) f.3 g.3),
        commands_both grammar calls lawful s f.0 g.0 events mid left held between remainder p q f.1 g.1 f.4 g.4,
      );
}

-- a chunk was served, and of the next one a part
pub cut_both : {V : Type 0} (grammar : Grammar) (calls : Calls V) → IsLawful grammar → {a b c : ServerState V} {held between p q : List ℕ} {events mid left : List Sample}
    → ChunkServed grammar calls a held p between b events mid → WriteFailed grammar calls b between q c mid left → WriteFailed grammar calls a held (p ++ q) c events left
cut_both grammar calls lawful {a} {b} {c} {held} {between} {p} {q} {events} {mid} {left} first second = record {
  each = λ s represents.
      let f = first.each s represents in
      let g = second.each f.0 f.2 in (
        g.0,
        encoded_replies grammar f.1 ++ g.1,
        g.2,
        appends_both a.gained b.gained c.gained (encoded_replies grammar f.1) g.1 f.3 g.3,
        cut_off_both grammar calls lawful s f.0 g.0 events mid left held between p q g.1 f.1 f.4 g.4,
      );
}

-- one reply is its encoding
pub encoded_one : (grammar : Grammar) (before now : Option (List ℕ)) (reply : ReplyFrame) → Appends before (grammar.reply_encoding reply) now → Appends before (encoded_replies grammar (reply ∷ [])) now
encoded_one grammar before now reply appends = let Out : List ℕ → Type 0 = λ out. Appends before out now in subst Out (sym (append-nil (grammar.reply_encoding reply))) appends
