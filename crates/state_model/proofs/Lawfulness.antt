-- Each step is lawful.
use Rattle.std.proofs.Common.{◌≡◌, ◌≢◌, ℕ, List, Bool, true, false, Option, Some, None, Result, Err, refl, sym, ap, subst, ◌∙◌, if◌then◌else◌}
use Rattle.std.specs.Prelude.{IfSome, MatchResult}
use Rattle.bits_core.specs.ByteList.{IsBytes}
use Rattle.service_table.specs.declared.service.Service.{Service}
use Rattle.service_table.specs.declared.service.Service.TheVariants as service
use Rattle.service_table.specs.declared.state.State.TheVariants as state
use Rattle.service_table.specs.declared.status.Status.{Status}
use Rattle.service_table.specs.declared.status.Status.TheVariants as status
use Rattle.service_table.specs.Numbers.{service_numbered}
use Rattle.service_table.specs.Services.{is_permitted}
use Rattle.outside.specs.declared.traits.Sample.{Sample}
use Rattle.module_frames.specs.CommandFrames.{CommandFrame}
use Rattle.module_frames.specs.LawfulSteps.{IsLawfulStep, IsAnswered, IsRefusedAtOnce, begun, begun_by, begun_with, found_by}
use Rattle.module_frames.specs.PublicEffects.{sequence_taken}
use Rattle.module_frames.specs.ReplyFrames.{ReplyFrame, head_of}
use Rattle.module_frames.specs.Replies.{frame_of}
use Rattle.module_frames.specs.declared.reply.Reply.{Reply}
use Rattle.module_frames.specs.Requests.{RequestValue, IsInRange, request_of}
use Rattle.module_frames.specs.Sequencing.{is_in_order, sequence_seen}
use Rattle.module_frames.specs.declared.head.ReplyHead.{ReplyHead}
use Rattle.module_frames.specs.declared.public_state.PublicState.{PublicState}
use Rattle.engine_core.specs.Calls.{Calls, Keeps}
use Rattle.crypto_services.specs.Indicator.{is_ok}
use Rattle.state_model.specs.Laws.{StepsAreLawful}
use Rattle.state_model.specs.MachineState.{MachineState, IsWellFormed, state_of}
use Rattle.state_model.specs.Management.{Stepped, refused, with_public}
use Rattle.state_model.specs.ModuleView.{ModuleView}
use Rattle.state_model.specs.Represents.{Represents, Replies}
use Rattle.state_model.specs.Permission.{IsPermittedIn}
use Rattle.state_model.specs.Step.{step, dispatch, dispatch_request, perform, number_taken, out_of_order, reply_to, request_at, indicated}
use Rattle.state_model.proofs.Answering.{performed_answers}
use Rattle.state_model.proofs.Keeping.{keeps}
use Rattle.state_model.proofs.LawfulCodes.{code_told, code_stays}
use Rattle.state_model.proofs.LawfulRequests.{performed, begun_status, indicated_so}
use Rattle.state_model.proofs.RequestReading.{IsOfBytes, IsRead, request_read}
use Rattle.state_model.proofs.Rules.{number_taken_kept}
use Rattle.state_model.proofs.Sequences.{by_order, step_in_order, step_out_of_order}
use Rattle.state_model.proofs.Statuses.{not_indicated}

-- the answer to a command, by how it is begun
abbrev IsMet : PublicState → CommandFrame → (found : PublicState) → ReplyHead → (after : PublicState) → Result RequestValue Status → Type 0
IsMet before command found reply after how =
    MatchResult how (λ requested. IsAnswered requested found reply after) (λ reason. IsRefusedAtOnce reason before command reply after)

-- with the reply to it and the state of a step
abbrev IsMetBy : {V : Type 0} → PublicState → CommandFrame → (found : PublicState) → Stepped V → Result RequestValue Status → Type 0
IsMetBy before command found after how = IsMet before command found (head_of (reply_to command after)) after.machine.shared.public how

request_met : {V : Type 0} (calls : Calls V) (t : MachineState V) (events : List Sample) (command : CommandFrame) (what : RequestValue) → Keeps calls → IsWellFormed t → IsInRange what → IsOfBytes what
    → IsPermittedIn what (state_of t) → request_at (service_numbered command.service) command.body ≡ Some what
    → (let after = perform calls t events what in IsAnswered what t.shared.public (head_of (reply_to command after)) after.machine.shared.public)
request_met calls t events command what met rules range bytes allowed reading =
    let after = perform calls t events what in
    let right = performed calls t events what met rules range bytes allowed in
    record {
      status = performed_answers calls t events what met rules range bytes allowed;
      begun = begun_status calls t events what;
      failure = right.failure;
      effect = right.effect;
      payload = right.payload;
      indicator = indicated_so what after.machine.slots (head_of (reply_to command after)) (ap (λ read. indicated read after.status after.machine.slots) reading);
      block = right.block;
    }

refusal_met : {V : Type 0} (before : PublicState) (t : MachineState V) (events : List Sample) (command : CommandFrame) (reason : Status) → is_in_order command.sequence before.next_sequence ≡ true
    → t.shared.public ≡ found_by command before → is_ok reason ≡ false
    → IsRefusedAtOnce reason before command (head_of (reply_to command (refused t reason events))) t.shared.public
refusal_met before t events command reason in_order same refusal = record {
  status = refl;
  unchanged = same;
  payload = refl;
  indicator = not_indicated (request_at (service_numbered command.service) command.body) reason t.slots refusal;
  block = rw in_order refl;
}

-- a command in its order
dispatched_met : {V : Type 0} (calls : Calls V) (before : PublicState) (t : MachineState V) (events : List Sample) (command : CommandFrame) → is_in_order command.sequence before.next_sequence ≡ true
    → t.shared.public ≡ found_by command before → Keeps calls → IsWellFormed t → IsBytes command.body → (numbered : Option Service) → service_numbered command.service ≡ numbered
    → IsMetBy before command t.shared.public (dispatch calls t events numbered command.body) (begun_by numbered (state_of t) command.body)
dispatched_met calls before t events command in_order same met rules are_bytes None known = refusal_met before t events command status.UnknownService in_order same refl
dispatched_met {V} calls before t events command in_order same met rules are_bytes (Some found) known = chosen (is_permitted found (state_of t)) refl
  where
    by_form : is_permitted found (state_of t) ≡ true → (read : Option RequestValue) → request_of found command.body ≡ read → IfSome read (IsRead found command.body)
        → IsMetBy before command t.shared.public (dispatch_request calls t events read) (begun_with read)
    by_form allowed None is is_read = refusal_met before t events command status.BadBody in_order same refl
    by_form allowed (Some what) is is_read =
        request_met calls t events command what met rules is_read.0 (is_read.2 are_bytes) (ap (λ f. is_permitted f (state_of t)) is_read.1 ∙ allowed) (ap (λ n. request_at n command.body) known ∙ is)

    chosen : (allowed : Bool) → is_permitted found (state_of t) ≡ allowed
        → IsMetBy before command t.shared.public (if allowed then dispatch_request calls t events (request_of found command.body) else refused t status.NotInState events)
        (if allowed then begun_with (request_of found command.body) else Err status.NotInState)
    chosen true allowed = by_form allowed (request_of found command.body) refl (request_read found command.body)
    chosen false allowed = refusal_met before t events command status.NotInState in_order same refl

-- where the number of a command was taken
taken_public : {V : Type 0} (s : MachineState V) (sequence : Option ℕ) → (number_taken s sequence).shared.public ≡ sequence_seen sequence s.shared.public
taken_public s None = refl
taken_public s (Some number) = refl

taken_state : {V : Type 0} (s : MachineState V) (sequence : Option ℕ) → state_of (number_taken s sequence) ≡ state_of s
taken_state s None = refl
taken_state s (Some number) = refl

taken_rules : {V : Type 0} (s : MachineState V) (sequence : Option ℕ) → IsWellFormed s → IsWellFormed (number_taken s sequence)
taken_rules s None rules = rules
taken_rules s (Some number) rules = number_taken_kept s rules

found_in_order : (before : PublicState) (command : CommandFrame) → is_in_order command.sequence before.next_sequence ≡ true → sequence_seen command.sequence before ≡ found_by command before
found_in_order before command is = rw is refl

begun_in_order : (before : PublicState) (command : CommandFrame) → is_in_order command.sequence before.next_sequence ≡ true
    → begun_by (service_numbered command.service) before.state command.body ≡ begun before command
begun_in_order before command is = rw is refl

begun_late : (before : PublicState) (command : CommandFrame) → is_in_order command.sequence before.next_sequence ≡ false → Err status.OutOfOrder ≡ begun before command
begun_late before command is = rw is refl

late_met : {V : Type 0} (s : MachineState V) (events : List Sample) (command : CommandFrame) → is_in_order command.sequence s.shared.public.next_sequence ≡ false
    → IsRefusedAtOnce status.OutOfOrder s.shared.public command (head_of (reply_to command (out_of_order s events))) s.shared.public
late_met s events command late = record {
  status = refl;
  unchanged = rw late refl;
  payload = refl;
  indicator = not_indicated (request_at (service_numbered command.service) command.body) status.OutOfOrder s.slots refl;
  block = rw late refl;
}

step_met : {V : Type 0} (calls : Calls V) (s : MachineState V) (events : List Sample) (command : CommandFrame) → Keeps calls → IsBytes command.body → IsWellFormed s
    → IsMetBy s.shared.public command (found_by command s.shared.public) (step calls s events command) (begun s.shared.public command)
step_met {V} calls s events command met are_bytes rules = by_order' (is_in_order command.sequence s.shared.public.next_sequence) refl
  where
    before : PublicState
    before = s.shared.public

    by_order' : (order : Bool) → is_in_order command.sequence s.shared.public.next_sequence ≡ order
        → IsMetBy s.shared.public command (found_by command s.shared.public) (step calls s events command) (begun s.shared.public command)
    by_order' false late =
        let Begun : Result RequestValue Status → Type 0 = λ how. IsMetBy before command (found_by command before) (out_of_order s events) how in
        let Stepping : Stepped V → Type 0 = λ after. IsMetBy before command (found_by command before) after (begun before command) in
        subst Stepping (sym (step_out_of_order calls s events command late)) (subst Begun (begun_late before command late) (late_met s events command late))
    by_order' true in_order =
        let t : MachineState V = number_taken s command.sequence in
        let numbered = service_numbered command.service in
        let after : Stepped V = dispatch calls t events numbered command.body in
        let same : t.shared.public ≡ found_by command before = taken_public s command.sequence ∙ found_in_order before command in_order in
        let Found : PublicState → Type 0 = λ found. IsMetBy before command found after (begun_by numbered (state_of t) command.body) in
        let Begun : Result RequestValue Status → Type 0 = λ how. IsMetBy before command (found_by command before) after how in
        let Stepping : Stepped V → Type 0 = λ stepped. IsMetBy before command (found_by command before) stepped (begun before command) in
        let how : begun_by numbered (state_of t) command.body ≡ begun before command = ap (λ found. begun_by numbered found command.body) (taken_state s command.sequence) ∙ begun_in_order before command in_order in
        subst Stepping (sym (step_in_order calls s events command in_order))
        (subst Begun how (subst Found same (dispatched_met calls before t events command in_order same met (taken_rules s command.sequence rules) are_bytes numbered refl)))

-- the code that stays in Error
requested_code : {V : Type 0} (calls : Calls V) (t : MachineState V) (events : List Sample) (found : Service) (body : List ℕ) (read : Option RequestValue) → IfSome read (IsRead found body)
    → is_permitted found (state_of t) ≡ true → state_of t ≡ state.Error → found ≢ service.Reset → (dispatch_request calls t events read).machine.shared.public.error_code ≡ t.shared.public.error_code
requested_code calls t events found body None is_read allowed failed other = refl
requested_code calls t events found body (Some what) is_read allowed failed other =
    code_stays calls t events what (ap (λ f. is_permitted f (state_of t)) is_read.1 ∙ allowed) failed (λ is. other (sym is_read.1 ∙ is))

dispatched_code : {V : Type 0} (calls : Calls V) (t : MachineState V) (events : List Sample) (numbered : Option Service) (body : List ℕ) → state_of t ≡ state.Error → numbered ≢ Some service.Reset
    → (dispatch calls t events numbered body).machine.shared.public.error_code ≡ t.shared.public.error_code
dispatched_code calls t events None body failed other = refl
dispatched_code {V} calls t events (Some found) body failed other = chosen (is_permitted found (state_of t)) refl
  where
    chosen : (allowed : Bool) → is_permitted found (state_of t) ≡ allowed
        → (let after : Stepped V = if allowed then dispatch_request calls t events (request_of found body) else refused t status.NotInState events in
        after.machine.shared.public.error_code ≡ t.shared.public.error_code)
    chosen true allowed = requested_code calls t events found body (request_of found body) (request_read found body) allowed failed (λ is. other (ap (λ f. Some f) is))
    chosen false allowed = refl

step_code : {V : Type 0} (calls : Calls V) (s : MachineState V) (events : List Sample) (command : CommandFrame) → state_of s ≡ state.Error → service_numbered command.service ≢ Some service.Reset
    → (step calls s events command).machine.shared.public.error_code ≡ s.shared.public.error_code
step_code {V} calls s events command failed other =
    let Stays : Stepped V → Type 0 = λ after. after.machine.shared.public.error_code ≡ s.shared.public.error_code in
    by_order calls s events command Stays (λ _. dispatched_code calls s events (service_numbered command.service) command.body failed other)
    (λ number _ _. dispatched_code calls (with_public s (sequence_taken s.shared.public)) events (service_numbered command.service) command.body failed other) (λ number _ _. refl)

pub steps_lawful : {V : Type 0} (calls : Calls V) → Keeps calls → StepsAreLawful calls
steps_lawful calls met s events command are_bytes rules = record {
  service = refl;
  sequence = refl;
  state = refl;
  code = refl;
  error = record {
    none = code_told (step calls s events command).machine.shared.public (keeps calls met s events command are_bytes rules).public;
    stays = step_code calls s events command;
  };
  answer = step_met calls s events command met are_bytes rules;
}

-- so is what a module tells that represents the state before a step and the one after it
pub told_lawful : {V : Type 0} (calls : Calls V) → Keeps calls → (m n : ModuleView V) (s : MachineState V) (events : List Sample) (command : CommandFrame) (reply : Reply) → IsBytes command.body
    → Represents m s → Replies command (step calls s events command) n reply → IsLawfulStep m.public command (head_of (frame_of reply)) n.public
told_lawful {V} calls met m n s events command reply are_bytes represents replies =
    let after : Stepped V = step calls s events command in
    let before : m.public ≡ s.shared.public = ap (λ (t : MachineState V). t.shared.public) represents.same in
    let left : n.public ≡ after.machine.shared.public = ap (λ (t : MachineState V). t.shared.public) replies.represents.same in
    let Before : PublicState → Type 0 = λ p. IsLawfulStep p command (head_of (frame_of reply)) n.public in
    let Told : ReplyFrame → Type 0 = λ frame. IsLawfulStep s.shared.public command (head_of frame) n.public in
    let Left : PublicState → Type 0 = λ p. IsLawfulStep s.shared.public command (head_of (reply_to command after)) p in
    let lawful = steps_lawful calls met s events command are_bytes represents.well_formed in
    subst Before (sym before) (subst Told (sym replies.answer) (subst Left (sym left) lawful))
