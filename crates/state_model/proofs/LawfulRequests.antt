-- What is done for a request, as everyone can check it: the state it leaves, the payload's length, the indicator and the block.
use Rattle.std.proofs.Common.{◌≡◌, ◌≢◌, ◌≤◌, ◌+◌, ◌==◌, ◌&&◌, ℕ, List, Bool, true, false, Option, Some, None, length, refl, sym, ap, subst, ◌∙◌, arith, if◌then◌else◌}
use Rattle.std.specs.Prelude.{not, nat_le, bytes_eq, MatchOption}
use Rattle.std.specs.List.{list_all}
use Rattle.std.specs.Option.{option_map, option_map_or}
use Rattle.bits_core.specs.declared.parameter.Header.{Header}
use Rattle.drbg_core.specs.declared.generator.Drbg.{Drbg}
use Rattle.service_table.specs.Answers.{is_status_among}
use Rattle.service_table.specs.KnownAnswers.{test_of}
use Rattle.service_table.specs.Services.{is_permitted, is_approved}
use Rattle.service_table.specs.declared.failure.Failure.{Failure}
use Rattle.service_table.specs.declared.failure.Failure.TheVariants as failure
use Rattle.service_table.specs.declared.service.Service.TheVariants as service
use Rattle.service_table.specs.declared.status.Status.{Status}
use Rattle.service_table.specs.declared.status.Status.TheVariants as status
use Rattle.self_tests.specs.declared.numbers.Test.{Test}
use Rattle.self_tests.specs.Tests.{number_of}
use Rattle.ssp_slots.specs.declared.slot.Slot.{Slot}
use Rattle.ssp_slots.specs.declared.slot_fault.SlotFault.{SlotFault}
use Rattle.ssp_slots.specs.declared.slot_fault.SlotFault.TheVariants as fault
use Rattle.ssp_slots.specs.Refusals.{vacancy_fault}
use Rattle.ssp_slots.specs.Slots.{HoldsParameter, empty_slot}
use Rattle.outside.specs.declared.traits.Sample.{Sample}
use Rattle.module_frames.specs.declared.head.ReplyHead.{ReplyHead}
use Rattle.module_frames.specs.declared.public_state.PublicState.{PublicState}
use Rattle.module_frames.specs.PublicEffects.{use_counted, is_period_over, sent_to_tests, has_failed}
use Rattle.module_frames.specs.PublicState.{no_block}
use Rattle.module_frames.specs.LawfulSteps.{IsFailure, ByDone, IsPayloadLength, IsBlockOf, IsSlotBlock, IsIndicated, refusals_at_once, is_ok, is_approved_use, left_by, period_ended, alg_named, mac_length_of, names_no_slot}
use Rattle.module_frames.specs.Requests.{RequestValue, CryptographicRequest, IsInRange, IsCryptographicInRange, service_for, cryptographic_service_for}
use Rattle.module_frames.specs.Requests as request
use Rattle.engine_core.specs.Calls.{Calls, Keeps}
use Rattle.crypto_services.specs.AtSlots.{SlotResult, slot_at, fault_status, unless_fault}
use Rattle.crypto_services.specs.Indicator.{indicator, is_in_approved}
use Rattle.crypto_services.specs.Indicator.{is_ok as was_done}
use Rattle.state_model.specs.declared.entry.Target.{Target}
use Rattle.state_model.specs.Commit.{unless, check_value, entered}
use Rattle.state_model.specs.Entries.{with_piece, entry_length}
use Rattle.state_model.specs.MachineState.{MachineState, Shared, IsWellFormed, state_of, vault_of}
use Rattle.state_model.specs.Management.{Stepped, refused, done, committed, tests_forgotten}
use Rattle.state_model.specs.SelfTesting.{test_for, due_at_first_use}
use Rattle.state_model.specs.SlotBlock.{header_block}
use Rattle.state_model.specs.Permission.{IsPermittedIn}
use Rattle.state_model.specs.Cryptographic.{Ready, before_slots, drawn_for, service_at, after_slots, served, cryptographic_step, slots_named, use_of}
use Rattle.state_model.specs.Step.{perform, indicated}
use Rattle.state_model.proofs.Draws.{IsDrawnFor}
use Rattle.state_model.proofs.Keeping.{hash_for_cryptographic}
use Rattle.state_model.proofs.LawfulNoise.{drawn_noise, of_noise, due_has, test_step_known}
use Rattle.state_model.proofs.LawfulServices.{IsFine, fault_is_fine, service_served}
use Rattle.state_model.proofs.Permitted.{testing_for_test_step}
use Rattle.state_model.proofs.PublicRules.{failed_is_not_over}
use Rattle.state_model.proofs.Readiness.{is_ready, is_untested, is_without_noise, ready_by, ready_known}
use Rattle.state_model.proofs.RequestReading.{IsOfBytes, IsCryptographicOfBytes}
use Rattle.state_model.proofs.Rules.{generator_in_use, healthy_in_use}
use Rattle.state_model.proofs.Statuses.{performed_status}

-- what is done for a request, by the public state that it finds and leaves, its status, block and payload's length
pub record IsPerformed (what : RequestValue) (found left : PublicState) (outcome : Status) (told : List ℕ) (long : ℕ) : Type 0 where
  pub failure : IsFailure what found outcome left
  pub effect : IsFine outcome → left ≡ left_by what (is_ok outcome) found
  pub payload : ByDone (is_ok outcome) (IsPayloadLength what long) (long ≡ 0)
  pub block : ByDone (is_ok outcome) (IsBlockOf what found told) (told ≡ no_block)

abbrev Performs : {V : Type 0} → RequestValue → MachineState V → Stepped V → Type 0
Performs what s after = IsPerformed what s.shared.public after.machine.shared.public after.status after.block (length after.payload)

no_test_failed : (outcome : Status) → IsFine outcome → outcome ≢ status.TestFailed
no_test_failed outcome fine is = let not_fine : IsFine status.TestFailed = subst (λ o. IsFine o) is fine in cc

no_noise_failed : (outcome : Status) → IsFine outcome → outcome ≢ status.NoiseFault
no_noise_failed outcome fine is = let not_fine : IsFine status.NoiseFault = subst (λ o. IsFine o) is fine in cc

no_failure : (what : RequestValue) (found left : PublicState) (outcome : Status) → IsFine outcome → IsFailure what found outcome left
no_failure what found left outcome fine = record {
  test = λ is. absurd (no_test_failed outcome fine is);
  noise = λ is. absurd (no_noise_failed outcome fine is);
  seed = λ is. absurd (no_noise_failed outcome fine is);
}

-- it was done
done_by : (what : RequestValue) (found left : PublicState) (told : List ℕ) (long : ℕ) → left ≡ left_by what true found → IsPayloadLength what long → IsBlockOf what found told
    → IsPerformed what found left status.Ok told long
done_by what found left told long effect payload block =
    record { failure = no_failure what found left status.Ok refl; effect = λ _. effect; payload = payload; block = block }

either : (was : Bool) (P Q : Type 0) → P → Q → ByDone was P Q
either true P Q p q = p
either false P Q p q = q

-- what a commit answers is no failure
unless_fine : {V : Type 0} (engine : V) (slot : Slot) (applies : Bool) (reason : Status) (served : SlotResult V) → IsFine reason → IsFine served.answer.status → IsFine (unless engine slot applies reason served).answer.status
unless_fine engine slot true reason served refused next = refused
unless_fine engine slot false reason served refused next = next

vacant_fine : {V : Type 0} (engine : V) (slot : Slot) (refusal : Option SlotFault) (served : SlotResult V) → IsFine served.answer.status → IsFine (unless_fault engine slot refusal served).answer.status
vacant_fine engine slot None served next = next
vacant_fine engine slot (Some reason) served next = fault_is_fine reason

committed_fine : {V : Type 0} (calls : Calls V) (s : MachineState V) (target : Option Target) (check : List ℕ) → IsFine (committed calls s target check).answer.status
committed_fine calls s None check = refl
committed_fine calls s (Some target) check =
    unless_fine _ _ (not (length (entered s.entry) == target.length)) status.BadLength _ refl
    (vacant_fine _ _ (vacancy_fault (slot_at s.slots target.slot).header) _
    (unless_fine _ _ (not (bytes_eq check (check_value calls s.shared.engine target (entered s.entry)))) status.CheckFailed _ refl refl))

commit_performed : {V : Type 0} (calls : Calls V) (s : MachineState V) (events : List Sample) (check : List ℕ) → Performs (request.EntryCommit check) s (perform calls s events (request.EntryCommit check))
commit_performed calls s events check =
    let what = request.EntryCommit check in
    let outcome = (committed calls s s.entry.target check).answer.status in
    let fine = committed_fine calls s s.entry.target check in
    record {
      failure = no_failure what s.shared.public _ outcome fine;
      effect = λ _. refl;
      payload = either (is_ok outcome) _ _ refl refl;
      block = either (is_ok outcome) _ _ refl refl;
    }

piece_performed : {V : Type 0} (calls : Calls V) (s : MachineState V) (events : List Sample) (piece : List ℕ) → Performs (request.EntryBytes piece) s (perform calls s events (request.EntryBytes piece))
piece_performed calls s events piece = by_room (nat_le (s.entry.filled + length piece) (entry_length s.entry))
  where
    what : RequestValue
    what = request.EntryBytes piece

    by_room : (fits : Bool) → Performs what s (if fits then done (record s { entry = with_piece s.entry piece }) no_block events else refused s status.BadLength events)
    by_room true = done_by what s.shared.public s.shared.public no_block 0 refl refl refl
    by_room false = record { failure = no_failure what s.shared.public s.shared.public status.BadLength refl; effect = λ _. refl; payload = refl; block = refl }

-- a step of the self-tests
tested_performed : {V : Type 0} (calls : Calls V) (s : MachineState V) (events : List Sample) → s.shared.public.tests_done ≤ 2 → Performs request.TestStep s (perform calls s events request.TestStep)
tested_performed {V} calls s events most =
    let found = s.shared.public in
    let P : Stepped V → Type 0 = λ after. Performs request.TestStep s after in
    test_step_known calls s events P (λ tests engine generator samples left. done_by request.TestStep found _ no_block 0 refl refl refl)
    (λ tests engine generator samples left. record { failure = record { test = λ _. (_, refl, refl); noise = λ e. cc; seed = λ e. cc }; effect = λ e. cc; payload = refl; block = refl })
    (λ reason tests engine generator samples left noise last. record {
      failure = record { test = λ e. cc; noise = λ _. (reason, noise, refl); seed = λ _ _. omega (arith, most, last) };
      effect = λ e. cc;
      payload = refl;
      block = refl;
    })

-- the public state behind the slots
after_public : {V : Type 0} (shared : Shared V) → (after_slots shared).public ≡ period_ended shared.public
after_public {V} shared = by_over (is_period_over shared.public)
  where
    by_over : (over : Bool) → (let sent : Shared V = if over then tests_forgotten shared (sent_to_tests shared.public) else shared in sent.public ≡ (if over then sent_to_tests shared.public else shared.public))
    by_over true = refl
    by_over false = refl

failed_stays : (public : PublicState) (reason : Failure) → period_ended (has_failed reason public) ≡ has_failed reason public
failed_stays public reason = rw (failed_is_not_over public reason) refl

cryptographic_performed : {V : Type 0} (calls : Calls V) (s : MachineState V) (events : List Sample) (what : CryptographicRequest) → Keeps calls → IsWellFormed s → is_permitted service.Hash (state_of s) ≡ true
    → IsCryptographicInRange what → IsCryptographicOfBytes what → Performs (request.Cryptographic what) s (cryptographic_step calls s events what)
cryptographic_performed {V} calls s events what keeps rules allowed range bytes =
    let P : Ready V → Type 0 = λ ready. (ready.refused ≡ None → IsDrawnFor what ready.drawn) → Performs (request.Cryptographic what) s (served calls s ready what) in
    let Fresh : Ready V → Type 0 = λ ready. ready.refused ≡ None → IsDrawnFor what ready.drawn in
    let passed = generator_in_use s rules allowed in
    let fresh : Fresh (before_slots calls s.shared events what) =
    ready_by calls s.shared events what Fresh keeps (healthy_in_use s rules allowed) passed.seeded passed.requests
    (λ more engine generator samples drawn left includes healthy least most drawn_for_it _. drawn_for_it) (λ test engine none. cc) (λ reason more engine generator samples left is none. cc) in
    ready_known calls s.shared events what P (λ more engine generator samples drawn left is_fresh. used more engine generator samples drawn left (is_fresh refl)) (λ test engine due _. untested test engine due)
    (λ reason more engine generator samples left before is _. without_noise reason more engine generator samples left before is) fresh
  where
    asked : RequestValue
    asked = request.Cryptographic what

    found : PublicState
    found = s.shared.public

    used : (more : ℕ) (engine : V) (generator : Drbg) (samples drawn : List ℕ) (left : List Sample) → IsDrawnFor what drawn
        → Performs asked s (served calls s (is_ready s.shared more engine generator samples drawn left what) what)
    used more engine generator samples drawn left is_drawn =
        let ready = is_ready s.shared more engine generator samples drawn left what in
        let result = service_at calls engine drawn s.slots what in
        let right = service_served calls engine drawn (vault_of s) what keeps range bytes is_drawn rules.slots in
        record {
          failure = no_failure asked found _ result.answer.status right.fine;
          effect = λ _. after_public (record ready.shared { engine = result.engine });
          payload = right.payload;
          block = either (is_ok result.answer.status) _ _ refl refl;
        }

    untested : (test : Test) (engine : V) → due_at_first_use s.shared.tests_passed (test_for what) ≡ Some test → Performs asked s (served calls s (is_untested s.shared test engine events) what)
    untested test engine due =
        let reason = failure.KnownAnswer (number_of test) in
        let counted = use_counted found in
        let needed = due_has s.shared.tests_passed (test_of (cryptographic_service_for what) (alg_named what)) test due in
        let ended = after_public (is_untested s.shared test engine events).shared ∙ failed_stays counted reason in
        record {
          failure = record { test = λ _. (reason, ap (λ o. option_map (λ t. failure.KnownAnswer t) o) needed, ended); noise = λ e. cc; seed = λ e. cc };
          effect = λ e. cc;
          payload = refl;
          block = refl;
        }

    without_noise : (reason : Failure) (more : ℕ) (engine : V) (generator : Drbg) (samples : List ℕ) (left : List Sample) (before : V)
        → (drawn_for calls before s.shared.generator s.shared.samples events what).failure ≡ Some reason
        → Performs asked s (served calls s (is_without_noise s.shared reason more engine generator samples left) what)
    without_noise reason more engine generator samples left before is =
        let noise = of_noise _ reason is (drawn_noise calls before s.shared.generator s.shared.samples events what) in
        let ended = after_public (is_without_noise s.shared reason more engine generator samples left).shared ∙ failed_stays (use_counted found) reason in
        record {
          failure = record { test = λ e. cc; noise = λ _. (reason, noise, ended); seed = λ _ e. cc };
          effect = λ e. cc;
          payload = refl;
          block = refl;
        }

-- the block of a slot
slot_told : (slot : Slot) (header : Option Header) → slot.header ≡ header → MatchOption header (slot ≡ empty_slot) (λ known. HoldsParameter known slot) → IsSlotBlock (option_map_or (header_block slot.length) header no_block)
slot_told slot None is well = (None, slot.length, refl)
slot_told slot (Some header) is well = (Some header, slot.length, (well.fits, refl))

pub performed : {V : Type 0} (calls : Calls V) (s : MachineState V) (events : List Sample) (what : RequestValue) → Keeps calls → IsWellFormed s → IsInRange what → IsOfBytes what → IsPermittedIn what (state_of s)
    → Performs what s (perform calls s events what)
performed calls s events request.TestStep keeps rules range bytes allowed = tested_performed calls s events (rules.public.testing (testing_for_test_step (state_of s) allowed)).1
performed calls s events (request.EntryBytes piece) keeps rules range bytes allowed = piece_performed calls s events piece
performed calls s events (request.EntryCommit check) keeps rules range bytes allowed = commit_performed calls s events check
performed calls s events (request.Cryptographic what) keeps rules range bytes allowed =
    cryptographic_performed calls s events what keeps rules (hash_for_cryptographic what (state_of s) allowed) range bytes
performed calls s events request.ShowStatus keeps rules range bytes allowed = done_by request.ShowStatus s.shared.public _ _ 0 refl refl (s.shared.tests_passed, refl)
performed calls s events (request.ShowSlot slot) keeps rules range bytes allowed =
    done_by (request.ShowSlot slot) s.shared.public _ _ 0 refl refl (slot_told (slot_at s.slots slot) (slot_at s.slots slot).header refl (rules.slots.each slot range))
performed calls s events (request.PowerOn period) keeps rules range bytes allowed = done_by (request.PowerOn period) s.shared.public _ _ 0 refl refl refl
performed calls s events request.RequestTests keeps rules range bytes allowed = done_by request.RequestTests s.shared.public _ _ 0 refl refl refl
performed calls s events request.ShowVersion keeps rules range bytes allowed = done_by request.ShowVersion s.shared.public _ _ 0 refl refl refl
performed calls s events (request.SelectRole role) keeps rules range bytes allowed = done_by (request.SelectRole role) s.shared.public _ _ 0 refl refl refl
performed calls s events request.Reset keeps rules range bytes allowed = done_by request.Reset s.shared.public _ _ 0 refl refl refl
performed calls s events (request.EntryBegin slot header long) keeps rules range bytes allowed = done_by (request.EntryBegin slot header long) s.shared.public _ _ 0 refl refl refl
performed calls s events request.EntryAbort keeps rules range bytes allowed = done_by request.EntryAbort s.shared.public _ _ 0 refl refl refl
performed calls s events (request.Zeroise slot) keeps rules range bytes allowed = done_by (request.Zeroise slot) s.shared.public _ _ 0 refl refl refl
performed calls s events (request.ZeroiseTree slot) keeps rules range bytes allowed = done_by (request.ZeroiseTree slot) s.shared.public _ _ 0 refl refl refl
performed calls s events request.ZeroiseAll keeps rules range bytes allowed = done_by request.ZeroiseAll s.shared.public _ _ 0 refl refl refl

-- a request that is begun isn't answered as one that is refused at once
abbrev IsBegun : Status → Type 0
IsBegun outcome = is_status_among refusals_at_once outcome ≡ false

fault_is_begun : (reason : SlotFault) → IsBegun (fault_status reason)
fault_is_begun fault.EmptySlot = refl
fault_is_begun fault.WrongKind = refl
fault_is_begun fault.WrongDomain = refl
fault_is_begun fault.Spent = refl
fault_is_begun fault.OccupiedSlot = refl
fault_is_begun fault.NotExportable = refl

pub begun_status : {V : Type 0} (calls : Calls V) (s : MachineState V) (events : List Sample) (what : RequestValue) → IsBegun (perform calls s events what).status
begun_status calls s events what = performed_status (λ o. IsBegun o)
    (record { ok = refl; test_failed = refl; bad_length = refl; check_failed = refl; auth_failed = refl; unwrap_failed = refl; by_slot = fault_is_begun }) calls s events what (λ _. refl)

-- both tests whether a service was done are one
same_done : (outcome : Status) → was_done outcome ≡ is_ok outcome
same_done status.Ok = refl
same_done status.UnknownService = refl
same_done status.NotInState = refl
same_done status.BadBody = refl
same_done status.TestFailed = refl
same_done status.NoiseFault = refl
same_done status.EmptySlot = refl
same_done status.WrongKind = refl
same_done status.WrongDomain = refl
same_done status.Spent = refl
same_done status.OccupiedSlot = refl
same_done status.NotExportable = refl
same_done status.BadLength = refl
same_done status.CheckFailed = refl
same_done status.AuthFailed = refl
same_done status.UnwrapFailed = refl
same_done status.OutOfOrder = refl

first_two : (a b c : Bool) → (a && (b && c)) ≡ true → (a && b) ≡ true
first_two true true c h = refl
first_two true false c h = cc
first_two false b c h = cc

-- where no slot is named, the indicator tells of approved uses exactly
exact : (what : CryptographicRequest) (outcome : Status) (slots : List Slot) → names_no_slot what ≡ true → indicator (use_of what) outcome slots ≡ is_approved_use what outcome
exact (request.Hash alg text) outcome slots none = ap (λ b. b && true) (same_done outcome)
exact (request.Random long additional) outcome slots none = ap (λ b. b && true) (same_done outcome)
exact (request.Reseed additional) outcome slots none = ap (λ b. b && true) (same_done outcome)
exact (request.Mac slot alg mac_length text) outcome slots none = cc
exact (request.MacVerify slot alg tag text) outcome slots none = cc
exact (request.Seal slot tag_length aad text) outcome slots none = cc
exact (request.SealIv slot tag_length iv aad text) outcome slots none = cc
exact (request.Open slot iv aad text tag) outcome slots none = cc
exact (request.Wrap pad kek second) outcome slots none = cc
exact (request.Unwrap pad kek target kind export uses wrapped) outcome slots none = cc
exact (request.Derive source target kind export uses long label context) outcome slots none = cc
exact (request.Generate target header long) outcome slots none = cc

approved_by : (what : CryptographicRequest) (outcome : Status) (slots : List Slot) → indicator (use_of what) outcome slots ≡ true → is_approved_use what outcome ≡ true
approved_by what outcome slots is =
    let approved = is_approved (cryptographic_service_for what) (mac_length_of what) in
    ap (λ b. b && approved) (sym (same_done outcome)) ∙ first_two (was_done outcome) approved (list_all (λ id. is_in_approved (slot_at slots id)) (slots_named what)) is

pub indicated_so : (what : RequestValue) (slots : List Slot) (reply : ReplyHead) → reply.approved ≡ indicated (Some what) reply.status slots → IsIndicated what reply
indicated_so (request.Cryptographic what) slots reply is =
    record { approved = λ yes. approved_by what reply.status slots (sym is ∙ yes); exactly = λ none. is ∙ exact what reply.status slots none }
indicated_so (request.PowerOn period) slots reply is = is
indicated_so request.TestStep slots reply is = is
indicated_so request.RequestTests slots reply is = is
indicated_so request.ShowStatus slots reply is = is
indicated_so request.ShowVersion slots reply is = is
indicated_so (request.SelectRole role) slots reply is = is
indicated_so request.Reset slots reply is = is
indicated_so (request.EntryBegin slot header long) slots reply is = is
indicated_so (request.EntryBytes piece) slots reply is = is
indicated_so (request.EntryCommit check) slots reply is = is
indicated_so request.EntryAbort slots reply is = is
indicated_so (request.Zeroise slot) slots reply is = is
indicated_so request.ZeroiseAll slots reply is = is
indicated_so (request.ShowSlot slot) slots reply is = is
indicated_so (request.ZeroiseTree slot) slots reply is = is
