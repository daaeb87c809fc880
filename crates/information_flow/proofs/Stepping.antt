-- A step of two worlds.
use Rattle.std.proofs.Common.{◌≡◌, ℕ, Bool, true, false, List, [], Option, Some, None, length, inl, inr, refl, sym, ap, subst, ◌∙◌, if◌then◌else◌}
use Rattle.std.specs.Prelude.{◌==◌, ◌&&◌, not, nat_le}
use Rattle.std.specs.List.{list_any}
use Rattle.std.specs.Str.{bytes_eq}
use Rattle.service_table.specs.declared.service.Service.{Service}
use Rattle.service_table.specs.declared.service.Service.TheVariants as service
use Rattle.service_table.specs.declared.state.State.{State}
use Rattle.service_table.specs.declared.status.Status.{Status}
use Rattle.service_table.specs.declared.status.Status.TheVariants as status
use Rattle.service_table.specs.Numbers.{service_numbered}
use Rattle.service_table.specs.Services.{is_permitted}
use Rattle.ssp_slots.specs.declared.slot.Slot.{Slot}
use Rattle.outside.specs.declared.traits.Sample.{Sample}
use Rattle.module_frames.specs.CommandFrames.{CommandFrame}
use Rattle.module_frames.specs.ReplyFrames.{ReplyFrame}
use Rattle.module_frames.specs.PublicState.{no_block, sequence_block}
use Rattle.module_frames.specs.PublicEffects.{sequence_taken}
use Rattle.module_frames.specs.Requests.{RequestValue, CryptographicRequest, request_of, piece_of, commit_of}
use Rattle.module_frames.specs.Requests as request
use Rattle.module_frames.specs.Sequencing.{is_in_order}
use Rattle.engine_core.specs.Calls.{Calls, IsStandard}
use Rattle.crypto_services.specs.AtSlots.{Answer, refusal}
use Rattle.state_model.specs.declared.entry.Entry.{Entry}
use Rattle.state_model.specs.Cryptographic.{Ready, before_slots, at_slots, after_slots, link_of, slots_named}
use Rattle.state_model.specs.MachineState.{Shared, MachineState, state_of, no_slots}
use Rattle.state_model.specs.Entries.{no_entry, begun_entry}
use Rattle.state_model.specs.Management.{Stepped, refused, after_test, with_seeded}
use Rattle.state_model.specs.SelfTesting.{step_tested, seeded_when, is_seed_due, noise_judgement}
use Rattle.state_model.specs.SlotBlock.{slot_block}
use Rattle.state_model.specs.Step.{step, perform, dispatch, dispatch_request, number_taken, out_of_order, reply_to, request_at, indicated}
use Rattle.information_flow.specs.Tainted.{Tainted, untainted, SlotsAgree, EntriesAgree, EqualOutside}
use Rattle.information_flow.specs.Taint.{taint_for, taint_ready, taint_requested, taint_after, admitted_for, observes_for, observes_requested, observes}
use Rattle.information_flow.specs.Variants.{IsSecretVariant}
use Rattle.information_flow.specs.Flow.{StepsAgree, SecretsStayInside}
use Rattle.information_flow.proofs.Agreeing.{same_agree, equal_bytes}
use Rattle.information_flow.proofs.Emptying.{one_emptied, tree_emptied_alike}
use Rattle.information_flow.proofs.Entering.{bytes_alike, commit_alike}
use Rattle.information_flow.proofs.Frames.{ResultsAgree, none_agree}
use Rattle.information_flow.proofs.Services.{service_agrees, unlinked, indicators_agree}
use Rattle.information_flow.proofs.Told.{Told, Alike, machine, outside, same_entry, told_of, refused_alike, answered_alike}

-- what both worlds do alike, whatever they hold: the same is told
quiet_alike : {V : Type 0} (T : Tainted) (observed : Bool) (what : RequestValue) (a b : Stepped V) → EqualOutside T a.machine b.machine → a.left ≡ b.left → told_of (Some what) a ≡ told_of (Some what) b
    → Alike T observed (Some what) (Some what) a b
quiet_alike T observed what a b equal left same = record { outside = equal; left = left; same = λ _. same }

-- a test of TestStep
tested_alike : {V : Type 0} (T : Tainted) (shared after : Shared V) (a b : List Slot) (e f : Entry) (reason : Option Status) (left : List Sample) → SlotsAgree T.slot a b → EntriesAgree T.entry e f
    → Alike T false (Some request.TestStep) (Some request.TestStep) (after_test (machine shared a e) after reason left) (after_test (machine shared b f) after reason left)
tested_alike T shared after a b e f None left slots entry = record { outside = record { shared = refl; slots = slots; entry = entry }; left = refl; same = λ _. refl }
tested_alike T shared after a b e f (Some reason) left slots entry = record { outside = record { shared = refl; slots = slots; entry = entry }; left = refl; same = λ _. refl }

-- what is done at the slots, unless the command was refused before
slots_alike : {V : Type 0} (calls : Calls V) → IsStandard calls → (ready : Ready V) (reason : Option Status) (tainted : ℕ → Bool) (a b : List Slot) (what : CryptographicRequest) → SlotsAgree tainted a b
    → ResultsAgree ready.shared.engine (taint_ready a tainted reason (link_of what)) (list_any tainted (slots_named what)) (at_slots calls ready reason a what) (at_slots calls ready reason b what)
slots_alike calls plain ready None tainted a b what agree = service_agrees calls plain ready.shared.engine ready.drawn tainted a b what agree
slots_alike calls plain ready (Some reason) tainted a b what agree = none_agree ready.shared.engine ready.shared.engine tainted _ a b (refusal reason) refl agree

-- what isn't observed isn't tainted then either
unready : (slots : List Slot) (tainted : ℕ → Bool) (reason : Option Status) (what : CryptographicRequest) → list_any tainted (slots_named what) ≡ false → (id : ℕ) → tainted id ≡ false
    → taint_ready slots tainted reason (link_of what) id ≡ false
unready slots tainted None what h id u = unlinked slots tainted what h id u
unready slots tainted (Some reason) what h id u = u

-- a cryptographic service
served_alike : {V : Type 0} (calls : Calls V) → IsStandard calls → (T : Tainted) (shared : Shared V) (a b : List Slot) (e f : Entry) (events : List Sample) (what : CryptographicRequest) → SlotsAgree T.slot a b
    → EntriesAgree T.entry e f
    → Alike (record { entry = T.entry; slot = taint_ready a T.slot (before_slots calls shared events what).refused (link_of what) }) (list_any T.slot (slots_named what))
    (Some (request.Cryptographic what)) (Some (request.Cryptographic what))
    (perform calls (machine shared a e) events (request.Cryptographic what)) (perform calls (machine shared b f) events (request.Cryptographic what))
served_alike {V} calls plain T shared a b e f events what slots entry =
    let ready : Ready V = before_slots calls shared events what in
    let result = at_slots calls ready ready.refused a what in
    let other = at_slots calls ready ready.refused b what in
    let agree = slots_alike calls plain ready ready.refused T.slot a b what slots in
    let with_engine : V → Shared V = λ v. after_slots (record ready.shared { engine = v }) in
    let told : Answer → Bool → Told = λ answer approved. record { status = answer.status; approved = approved; block = no_block; payload = answer.payload } in
    record {
      outside = record { shared = ap with_engine (agree.left ∙ sym agree.right); slots = agree.slots; entry = entry };
      left = refl;
      same = λ u.
          ap (λ (answer : Answer). told answer (indicated (Some (request.Cryptographic what)) answer.status result.slots)) (agree.same u)
          ∙ ap (told other.answer) (indicators_agree T.slot result.slots other.slots what other.answer.status (λ id clean. agree.slots.each id (unready a T.slot ready.refused what u id clean)) u);
    }

-- both worlds make the same request
performed_alike : {V : Type 0} (calls : Calls V) → IsStandard calls → (T : Tainted) (shared : Shared V) (a b : List Slot) (e f : Entry) (events : List Sample) (differ : Bool) (what : RequestValue)
    → SlotsAgree T.slot a b → EntriesAgree T.entry e f
    → Alike (taint_for calls (machine shared a e) events T differ what) (observes_for e T what) (Some what) (Some what)
    (perform calls (machine shared a e) events what) (perform calls (machine shared b f) events what)
performed_alike calls plain T shared a b e f events differ (request.PowerOn period) slots entry = quiet_alike T _ _ _ _ (record { shared = refl; slots = slots; entry = entry }) refl refl
performed_alike calls plain T shared a b e f events differ request.TestStep slots entry =
    let tests = step_tested calls shared.engine shared.public shared.tests_passed shared.image shared.digest in
    let seed = seeded_when calls tests.engine shared.generator shared.samples events (is_seed_due tests.judgement.public tests.judgement.refused) in
    let judged = noise_judgement tests.judgement seed.failure in
    tested_alike T shared (with_seeded shared judged seed) a b e f judged.refused seed.left slots entry
performed_alike calls plain T shared a b e f events differ request.RequestTests slots entry = quiet_alike T _ _ _ _ (record { shared = refl; slots = slots; entry = entry }) refl refl
performed_alike calls plain T shared a b e f events differ request.ShowStatus slots entry = quiet_alike T _ _ _ _ (record { shared = refl; slots = slots; entry = entry }) refl refl
performed_alike calls plain T shared a b e f events differ request.ShowVersion slots entry = quiet_alike T _ _ _ _ (record { shared = refl; slots = slots; entry = entry }) refl refl
performed_alike calls plain T shared a b e f events differ (request.SelectRole role) slots entry = quiet_alike T _ _ _ _ (record { shared = refl; slots = slots; entry = entry }) refl refl
performed_alike calls plain T shared a b e f events differ request.Reset slots entry =
    quiet_alike untainted _ _ _ _ (record { shared = refl; slots = same_agree (λ id. false) no_slots; entry = same_entry false no_entry }) refl refl
performed_alike calls plain T shared a b e f events differ (request.EntryBegin slot header long) slots entry =
    quiet_alike T _ _ _ _ (record { shared = refl; slots = slots; entry = same_entry T.entry (begun_entry (record { slot = slot; header = header; length = long })) }) refl refl
performed_alike calls plain T shared a b e f events differ (request.EntryBytes piece) slots entry = bytes_alike T shared a b e f events piece piece differ slots entry refl (λ _. refl)
performed_alike calls plain T shared a b e f events differ (request.EntryCommit check) slots entry = commit_alike calls plain T shared a b e f events check check slots entry (λ _. refl)
performed_alike calls plain T shared a b e f events differ request.EntryAbort slots entry =
    quiet_alike (record { entry = false; slot = T.slot }) _ _ _ _ (record { shared = refl; slots = slots; entry = same_entry false no_entry }) refl refl
performed_alike calls plain T shared a b e f events differ (request.Zeroise slot) slots entry =
    quiet_alike (record { entry = T.entry; slot = λ id. T.slot id && not (id == slot) }) _ _ _ _ (record { shared = refl; slots = one_emptied T.slot a b slot slots; entry = entry }) refl refl
performed_alike calls plain T shared a b e f events differ (request.ZeroiseTree slot) slots entry =
    quiet_alike (taint_for calls (machine shared a e) events T differ (request.ZeroiseTree slot)) _ _ _ _
    (record { shared = refl; slots = tree_emptied_alike T.slot a b shared.ancestry slot slots; entry = entry }) refl refl
performed_alike calls plain T shared a b e f events differ request.ZeroiseAll slots entry =
    quiet_alike (record { entry = T.entry; slot = λ id. false }) _ _ _ _ (record { shared = refl; slots = same_agree (λ id. false) no_slots; entry = entry }) refl refl
performed_alike calls plain T shared a b e f events differ (request.ShowSlot slot) slots entry =
    let told : Slot → Told = λ shown. record { status = status.Ok; approved = false; block = slot_block shown; payload = [] } in
    record { outside = record { shared = refl; slots = slots; entry = entry }; left = refl; same = λ u. ap told (slots.each slot u) }
performed_alike calls plain T shared a b e f events differ (request.Cryptographic what) slots entry = served_alike calls plain T shared a b e f events what slots entry

requested_alike : {V : Type 0} (calls : Calls V) → IsStandard calls → (T : Tainted) (shared : Shared V) (a b : List Slot) (e f : Entry) (events : List Sample) (differ : Bool) (read : Option RequestValue)
    → SlotsAgree T.slot a b → EntriesAgree T.entry e f
    → Alike (taint_requested calls (machine shared a e) events T differ read) (observes_requested e T read) read read
    (dispatch_request calls (machine shared a e) events read) (dispatch_request calls (machine shared b f) events read)
requested_alike calls plain T shared a b e f events differ None slots entry =
    refused_alike T false None None (machine shared a e) (machine shared b f) status.BadBody events refl (outside T shared a b e f slots entry)
requested_alike calls plain T shared a b e f events differ (Some what) slots entry = performed_alike calls plain T shared a b e f events differ what slots entry

-- what is read of the bodies of both worlds, and done for it
abbrev DoneAlike : {V : Type 0} → Calls V → Tainted → Shared V → List Slot → List Slot → Entry → Entry → List Sample → Bool → Option RequestValue → Option RequestValue → Type 0
DoneAlike calls T shared a b e f events differ read instead =
    Alike (taint_requested calls (machine shared a e) events T differ read) (observes_requested e T read) read instead
    (dispatch_request calls (machine shared a e) events read) (dispatch_request calls (machine shared b f) events instead)

-- pieces of one length are read alike
pieces_alike : {V : Type 0} (calls : Calls V) (T : Tainted) (shared : Shared V) (a b : List Slot) (e f : Entry) (events : List Sample) (body other : List ℕ) → SlotsAgree T.slot a b → EntriesAgree T.entry e f
    → length body ≡ length other → DoneAlike calls T shared a b e f events (not (bytes_eq body other)) (piece_of body) (piece_of other)
pieces_alike calls T shared a b e f events body other slots entry long =
    by_form (nat_le 1 (length body) && nat_le (length body) 64) (nat_le 1 (length other) && nat_le (length other) 64) (rw long refl)
  where
    by_form : (good too : Bool) → good ≡ too
        → DoneAlike calls T shared a b e f events (not (bytes_eq body other)) (if good then Some (request.EntryBytes body) else None) (if too then Some (request.EntryBytes other) else None)
    by_form true true is = bytes_alike T shared a b e f events body other (not (bytes_eq body other)) slots entry long (equal_bytes body other)
    by_form false false is = refused_alike T false None None (machine shared a e) (machine shared b f) status.BadBody events refl (outside T shared a b e f slots entry)
    by_form true false is = cc
    by_form false true is = cc

-- so are check values
checks_alike : {V : Type 0} (calls : Calls V) → IsStandard calls → (T : Tainted) (shared : Shared V) (a b : List Slot) (e f : Entry) (events : List Sample) (body other : List ℕ)
    → SlotsAgree T.slot a b → EntriesAgree T.entry e f → length body ≡ 8 → length other ≡ 8 → T.entry ≡ true
    → DoneAlike calls T shared a b e f events (not (bytes_eq body other)) (commit_of body) (commit_of other)
checks_alike calls plain T shared a b e f events body other slots entry eight other_eight tainted =
    rw (eight, other_eight) (commit_alike calls plain T shared a b e f events body other slots entry (λ u. let no : true ≡ false = sym tainted ∙ u in cc))

-- the two worlds find the same service permitted
permitted_alike : {V : Type 0} (calls : Calls V) (T : Tainted) (shared : Shared V) (a b : List Slot) (e f : Entry) (events : List Sample) (differ : Bool) (may : Bool) (read instead : Option RequestValue)
    → SlotsAgree T.slot a b → EntriesAgree T.entry e f → DoneAlike calls T shared a b e f events differ read instead
    → Alike (taint_requested calls (machine shared a e) events T differ (if may then read else None)) (observes_requested e T read) read instead
    (if may then dispatch_request calls (machine shared a e) events read else refused (machine shared a e) status.NotInState events)
    (if may then dispatch_request calls (machine shared b f) events instead else refused (machine shared b f) status.NotInState events)
permitted_alike calls T shared a b e f events differ true read instead slots entry alike = alike
permitted_alike calls T shared a b e f events differ false read instead slots entry alike =
    refused_alike T _ read instead (machine shared a e) (machine shared b f) status.NotInState events refl (outside T shared a b e f slots entry)

-- a command that is dispatched, in both
abbrev DispatchedAlike : {V : Type 0} → Calls V → Tainted → Shared V → List Slot → List Slot → Entry → Entry → List Sample → Option Service → List ℕ → List ℕ → Type 0
DispatchedAlike calls T shared a b e f events found body other =
    Alike (taint_requested calls (machine shared a e) events T (not (bytes_eq body other)) (admitted_for shared.public.state found body))
    (observes_requested e T (request_at found body)) (request_at found body) (request_at found other)
    (dispatch calls (machine shared a e) events found body) (dispatch calls (machine shared b f) events found other)

same_dispatched : {V : Type 0} (calls : Calls V) → IsStandard calls → (T : Tainted) (shared : Shared V) (a b : List Slot) (e f : Entry) (events : List Sample) (found : Option Service) (body : List ℕ)
    → SlotsAgree T.slot a b → EntriesAgree T.entry e f → DispatchedAlike calls T shared a b e f events found body body
same_dispatched calls plain T shared a b e f events None body slots entry =
    refused_alike T false None None (machine shared a e) (machine shared b f) status.UnknownService events refl (outside T shared a b e f slots entry)
same_dispatched calls plain T shared a b e f events (Some found) body slots entry =
    permitted_alike calls T shared a b e f events (not (bytes_eq body body)) (is_permitted found shared.public.state) (request_of found body) (request_of found body) slots entry
    (requested_alike calls plain T shared a b e f events (not (bytes_eq body body)) (request_of found body) slots entry)

-- the two worlds' commands differ in secrets alone
variant_dispatched : {V : Type 0} (calls : Calls V) → IsStandard calls → (T : Tainted) (shared : Shared V) (a b : List Slot) (e f : Entry) (events : List Sample) (one other : CommandFrame)
    → SlotsAgree T.slot a b → EntriesAgree T.entry e f → IsSecretVariant T one other
    → DispatchedAlike calls T shared a b e f events (service_numbered one.service) one.body other.body
variant_dispatched calls plain T shared a b e f events one other slots entry variant = elim variant.same_body [
  | inl same ↦ subst (λ body. DispatchedAlike calls T shared a b e f events (service_numbered one.service) one.body body) same (same_dispatched calls plain T shared a b e f events (service_numbered one.service) one.body slots entry)
  | inr secret ↦ elim secret [
    | inl pieces ↦
        subst (λ found. DispatchedAlike calls T shared a b e f events found one.body other.body) (sym pieces.entry_bytes)
        (permitted_alike calls T shared a b e f events (not (bytes_eq one.body other.body)) (is_permitted service.EntryBytes shared.public.state) (piece_of one.body) (piece_of other.body) slots entry
        (pieces_alike calls T shared a b e f events one.body other.body slots entry pieces.same_length))
    | inr checks ↦
        subst (λ found. DispatchedAlike calls T shared a b e f events found one.body other.body) (sym checks.entry_commit)
        (permitted_alike calls T shared a b e f events (not (bytes_eq one.body other.body)) (is_permitted service.EntryCommit shared.public.state) (commit_of one.body) (commit_of other.body) slots entry
        (checks_alike calls plain T shared a b e f events one.body other.body slots entry checks.eight checks.other_eight checks.tainted))
  ]
]

-- a command in its order is dispatched, and any other refused, in both worlds
ordered_alike : {V : Type 0} (calls : Calls V) (T : Tainted) (shared : Shared V) (a b : List Slot) (e f : Entry) (events : List Sample) (sequence : Option ℕ) (found : Option Service) (body other : List ℕ)
    → SlotsAgree T.slot a b → EntriesAgree T.entry e f → ((known : Shared V) → DispatchedAlike calls T known a b e f events found body other)
    → Alike (taint_requested calls (number_taken (machine shared a e) sequence) events T (not (bytes_eq body other))
    (if is_in_order sequence shared.public.next_sequence then admitted_for shared.public.state found body else None))
    (observes_requested e T (request_at found body)) (request_at found body) (request_at found other)
    (if is_in_order sequence shared.public.next_sequence then dispatch calls (number_taken (machine shared a e) sequence) events found body else out_of_order (machine shared a e) events)
    (if is_in_order sequence shared.public.next_sequence then dispatch calls (number_taken (machine shared b f) sequence) events found other else out_of_order (machine shared b f) events)
ordered_alike calls T shared a b e f events None found body other slots entry alike = alike shared
ordered_alike {V} calls T shared a b e f events (Some number) found body other slots entry alike = by_number (number == shared.public.next_sequence)
  where
    by_number : (same : Bool)
        → Alike (taint_requested calls (number_taken (machine shared a e) (Some number)) events T (not (bytes_eq body other)) (if same then admitted_for shared.public.state found body else None))
        (observes_requested e T (request_at found body)) (request_at found body) (request_at found other)
        (if same then dispatch calls (number_taken (machine shared a e) (Some number)) events found body else out_of_order (machine shared a e) events)
        (if same then dispatch calls (number_taken (machine shared b f) (Some number)) events found other else out_of_order (machine shared b f) events)
    by_number true = alike (record shared { public = sequence_taken shared.public })
    by_number false =
        answered_alike T _ (request_at found body) (request_at found other) (machine shared a e) (machine shared b f) status.OutOfOrder (sequence_block shared.public) events refl (outside T shared a b e f slots entry)

-- one turn of both worlds
abbrev TurnAlike : {V : Type 0} → Calls V → Tainted → MachineState V → MachineState V → List Sample → CommandFrame → CommandFrame → Type 0
TurnAlike calls T s t events one other =
    Alike (taint_after calls s events T one other) (observes s T one) (request_at (service_numbered one.service) one.body) (request_at (service_numbered other.service) other.body)
    (step calls s events one) (step calls t events other)

turn_of : {V : Type 0} (calls : Calls V) → IsStandard calls → (T : Tainted) (shared : Shared V) (a b : List Slot) (e f : Entry) (events : List Sample) (one other : CommandFrame)
    → SlotsAgree T.slot a b → EntriesAgree T.entry e f → IsSecretVariant T one other
    → TurnAlike calls T (machine shared a e) (machine shared b f) events one (record { service = one.service; sequence = one.sequence; body = other.body })
unfolding step taint_after observes
turn_of calls plain T shared a b e f events one other slots entry variant =
    ordered_alike calls T shared a b e f events one.sequence (service_numbered one.service) one.body other.body slots entry
    (λ known. variant_dispatched calls plain T known a b e f events one other slots entry variant)

turn_alike : {V : Type 0} (calls : Calls V) → IsStandard calls → (T : Tainted) (s t : MachineState V) (events : List Sample) (one other : CommandFrame) → EqualOutside T s t → IsSecretVariant T one other
    → TurnAlike calls T s t events one other
turn_alike {V} calls plain T s t events one other equal variant =
    let From : Shared V → Type 0 = λ shared. TurnAlike calls T s (machine shared t.slots t.entry) events one other in
    let For : ℕ → Type 0 = λ number. TurnAlike calls T s (machine s.shared t.slots t.entry) events one (record { service = number; sequence = one.sequence; body = other.body }) in
    let In : Option ℕ → Type 0 = λ sequence. TurnAlike calls T s (machine s.shared t.slots t.entry) events one (record { service = other.service; sequence = sequence; body = other.body }) in
    subst From equal.shared (subst In variant.same_sequence (subst For variant.same_service
    (turn_of calls plain T s.shared s.slots t.slots s.entry t.entry events one other equal.slots equal.entry variant)))

-- replies of steps that are alike
replies_of : {V : Type 0} (T : Tainted) (observed : Bool) (one other : CommandFrame) (a b : Stepped V) → one.service ≡ other.service → one.sequence ≡ other.sequence
    → Alike T observed (request_at (service_numbered one.service) one.body) (request_at (service_numbered other.service) other.body) a b → StepsAgree T observed one other a b
replies_of {V} T observed one other a b service sequence alike =
    let same_state : state_of a.machine ≡ state_of b.machine = ap (λ (x : Shared V). x.public.state) alike.outside.shared in
    let same_code : a.machine.shared.public.error_code ≡ b.machine.shared.public.error_code = ap (λ (x : Shared V). x.public.error_code) alike.outside.shared in
    record {
      outside = alike.outside;
      same_noise = alike.left;
      replies = record {
        same_service = service;
        same_state = same_state;
        same_code = same_code;
        same_reply = λ u. whole same_state same_code (alike.same u);
      };
    }
  where
    reply : ℕ → Option ℕ → State → ℕ → Told → ReplyFrame
    reply n numbered found code told = record {
      service = n;
      sequence = numbered;
      status = told.status;
      state = found;
      approved = told.approved;
      code = code;
      block = told.block;
      payload = told.payload;
    }

    mine : Told
    mine = told_of (request_at (service_numbered one.service) one.body) a

    whole : state_of a.machine ≡ state_of b.machine → a.machine.shared.public.error_code ≡ b.machine.shared.public.error_code
        → told_of (request_at (service_numbered one.service) one.body) a ≡ told_of (request_at (service_numbered other.service) other.body) b → reply_to one a ≡ reply_to other b
    whole same_state same_code same_told =
        ap (λ n. reply n one.sequence (state_of a.machine) a.machine.shared.public.error_code mine) service
        ∙ ap (λ q. reply other.service q (state_of a.machine) a.machine.shared.public.error_code mine) sequence
        ∙ ap (λ f. reply other.service other.sequence f a.machine.shared.public.error_code mine) same_state
        ∙ ap (λ c. reply other.service other.sequence (state_of b.machine) c mine) same_code
        ∙ ap (λ told. reply other.service other.sequence (state_of b.machine) b.machine.shared.public.error_code told) same_told

pub secrets_stay : {V : Type 0} (calls : Calls V) → IsStandard calls → SecretsStayInside calls
secrets_stay calls plain T s t events one other equal variant =
    replies_of (taint_after calls s events T one other) (observes s T one) one other (step calls s events one) (step calls t events other) variant.same_service variant.same_sequence
    (turn_alike calls plain T s t events one other equal variant)
