-- A run goes on by one command, and what is told of its replies.
use Rattle.std.proofs.Common.{◌≡◌, ◌+◌, ◌++◌, Bool, true, false, List, [], ◌∷◌, length, append_assoc, append-nil, Result, Ok, Err, OnOk, OnErr, refl, sym, ap, ◌∙◌, subst, arith}
use Rattle.outside.specs.declared.traits.Sample.{Sample}
use Rattle.engine_core.specs.Calls.{Calls}
use Rattle.service_table.specs.declared.state.State.{State}
use Rattle.module_frames.specs.CommandFrames.{CommandFrame}
use Rattle.module_frames.specs.ReplyFrames.{ReplyFrame}
use Rattle.module_frames.specs.Replies.{frame_of}
use Rattle.module_frames.specs.declared.reply.Reply.{Reply}
use Rattle.session_commands.specs.SessionCommands.{GivesNext}
use Rattle.state_model.specs.MachineState.{MachineState, state_of}
use Rattle.state_model.specs.ModuleView.{ModuleView}
use Rattle.state_model.specs.Represents.{Represents, Replies}
use Rattle.state_model.specs.Runs.{Ran, run_commands, with_reply}
use Rattle.state_model.specs.Step.{step, reply_to}
use Rattle.session_runs.specs.SessionRuns.{RunsSession, Answers}

-- what one command more leaves
abbrev pub with_last : {V : Type 0} → Calls V → Ran V → CommandFrame → Ran V
with_last calls ran command =
    let after = step calls ran.machine ran.left command in
    record { machine = after.machine; replies = ran.replies ++ reply_to command after ∷ []; left = after.left }

run_last : {V : Type 0} (calls : Calls V) (s : MachineState V) (events : List Sample) (commands : List CommandFrame) (last : CommandFrame)
    → run_commands calls s events (commands ++ last ∷ []) ≡ with_last calls (run_commands calls s events commands) last
unfolding run_commands
run_last calls s events [] last = refl
run_last calls s events (command ∷ commands) last =
    let after = step calls s events command in
    ap (λ ran. with_reply (reply_to command after) ran) (run_last calls after.machine after.left commands last)

-- the module after a run, the events that it left and its replies
record Leaves {V : Type 0} (ran : Ran V) (m : ModuleView V) (left : List Sample) (replies : List ReplyFrame) : Type 0 where
  represents : Represents m ran.machine
  same_left : ran.left ≡ left
  same_replies : ran.replies ≡ replies

one_more : {V : Type 0} (calls : Calls V) (ran : Ran V) (b c : ModuleView V) (mid left : List Sample) (replies : List ReplyFrame) (command : CommandFrame) (reply : Reply)
    → Leaves ran b mid replies
    → ((s : MachineState V) → Represents b s → let after = step calls s mid command in Replies command after c reply × (after.left ≡ left))
    → Leaves (with_last calls ran command) c left (replies ++ frame_of reply ∷ [])
one_more {V} calls ran b c mid left replies command reply first second =
    let did = second ran.machine first.represents in
    let steps : (Replies command (step calls ran.machine ran.left command) c reply × ((step calls ran.machine ran.left command).left ≡ left)) =
    subst (λ (events : List Sample). let after = step calls ran.machine events command in Replies command after c reply × (after.left ≡ left)) (sym first.same_left) did in
    record {
      represents = steps.0.represents;
      same_left = steps.1;
      same_replies = ap (λ (xs : List ReplyFrame). xs ++ reply_to command (step calls ran.machine ran.left command) ∷ []) first.same_replies
          ∙ ap (λ (r : ReplyFrame). replies ++ r ∷ []) (sym steps.0.answer);
    }

pub answers_none : {V : Type 0} (calls : Calls V) (m : ModuleView V) (events : List Sample) → Answers calls [] m m [] events events
unfolding run_commands
answers_none calls m events = λ s represents. (represents, refl, refl)

pub answers_more : {V : Type 0} (calls : Calls V) (a b c : ModuleView V) (done : List CommandFrame) (replies : List ReplyFrame) (command : CommandFrame) (reply : Reply) (events mid left : List Sample)
    → Answers calls done a b replies events mid
    → ((s : MachineState V) → Represents b s → let after = step calls s mid command in Replies command after c reply × (after.left ≡ left))
    → Answers calls (done ++ command ∷ []) a c (replies ++ frame_of reply ∷ []) events left
answers_more {V} calls a b c done replies command reply events mid left first second = λ s represents.
    let one = first s represents in
    let now : Leaves (run_commands calls s events done) b mid replies = record { represents = one.0; same_left = one.1; same_replies = one.2 } in
    let next : Leaves (with_last calls (run_commands calls s events done) command) c left (replies ++ frame_of reply ∷ []) = one_more calls _ b c mid left replies command reply now second in
    let whole : Leaves (run_commands calls s events (done ++ command ∷ [])) c left (replies ++ frame_of reply ∷ []) =
    subst (λ (ran : Ran V). Leaves ran c left (replies ++ frame_of reply ∷ [])) (sym (run_last calls s events done command)) next in
    (whole.represents, whole.same_left, whole.same_replies)

-- what is so of the replies and the module's state is told
pub tells : {V : Type 0} (calls : Calls V) (commands : List CommandFrame) (before after : ModuleView V) (replies : List ReplyFrame) (last : State) (Tells : List ReplyFrame → State → Type 0) (events left : List Sample)
    → last ≡ after.public.state → Tells replies last → Answers calls commands before after replies events left → RunsSession calls commands before after Tells events left
tells {V} calls commands before after replies last Tells events left state told answers = λ s represents.
    let one = answers s represents in
    let ran = run_commands calls s events commands in
    let same : last ≡ state_of ran.machine = state ∙ ap (λ (m : MachineState V). m.shared.public.state) one.0.same in
    let first : Tells ran.replies last = subst (λ (rs : List ReplyFrame). Tells rs last) (sym one.2) told in
    (one.0, one.1, subst (λ (t : State). Tells ran.replies t) same first)

-- one command more was given of a session
pub given_more : (whole done old new : List CommandFrame) (given : Bool) (command : CommandFrame) → GivesNext old given command new → given ≡ true → done ++ old ≡ whole
    → (done ++ command ∷ []) ++ new ≡ whole
given_more whole done [] new given command gives is e = cc (gives.0, is)
given_more whole done (first ∷ more) new given command gives is e =
    append_assoc done (command ∷ []) new ∙ ap (λ (c : CommandFrame). done ++ c ∷ new) gives.1 ∙ ap (λ (l : List CommandFrame). done ++ first ∷ l) gives.2 ∙ e

pub given_shorter : (old new : List CommandFrame) (given : Bool) (command : CommandFrame) → GivesNext old given command new → given ≡ true → length new + 1 ≡ length old
given_shorter [] new given command gives is = cc (gives.0, is)
given_shorter (first ∷ more) new given command gives is = omega (arith, ap (length {A = CommandFrame}) gives.2)

-- none was left
pub given_all : (whole done old new : List CommandFrame) (given : Bool) (command : CommandFrame) → GivesNext old given command new → given ≡ false → done ++ old ≡ whole → done ≡ whole
given_all whole done [] new given command gives is e = sym (append-nil done) ∙ e
given_all whole done (first ∷ more) new given command gives is e = cc (gives.0, is)

pub on_ok_then : {T E P Q : Type 0} (r : Result T E) → OnOk r P → (P → Q) → OnOk r Q
on_ok_then (Ok x) p f = f p
on_ok_then (Err e) p f = tt

pub on_err_then : {T E P Q : Type 0} (r : Result T E) → OnErr r P → (P → Q) → OnErr r Q
on_err_then (Ok x) p f = tt
on_err_then (Err e) p f = f p
