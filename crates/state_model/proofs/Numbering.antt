-- What becomes of the sequence number that is expected.
use Rattle.std.proofs.Common.{◌≡◌, ◌≢◌, ◌↔◌, ◌+◌, ℕ, List, [], Bool, true, false, Option, Some, None, length, refl, if◌then◌else◌}
use Rattle.std.specs.Prelude.{nat_le, nat_lt}
use Rattle.service_table.specs.declared.service.Service.{Service}
use Rattle.service_table.specs.declared.state.State.TheVariants as state
use Rattle.service_table.specs.declared.status.Status.TheVariants as status
use Rattle.service_table.specs.Numbers.{service_numbered}
use Rattle.service_table.specs.Services.{is_permitted}
use Rattle.outside.specs.declared.traits.Sample.{Sample}
use Rattle.module_frames.specs.declared.public_state.PublicState.{PublicState}
use Rattle.module_frames.specs.PublicState.{no_block, sequence_block}
use Rattle.module_frames.specs.PublicEffects.{sequence_taken, is_period_over, sent_to_tests}
use Rattle.module_frames.specs.Requests.{RequestValue, CryptographicRequest, request_of}
use Rattle.module_frames.specs.Requests as request
use Rattle.engine_core.specs.Calls.{Calls}
use Rattle.state_model.specs.Entries.{with_piece, entry_length}
use Rattle.state_model.specs.MachineState.{MachineState, Shared, state_of}
use Rattle.state_model.specs.Management.{Stepped, refused, done, with_public, tests_forgotten, test_step}
use Rattle.state_model.specs.Cryptographic.{Ready, service_at, served, cryptographic_step}
use Rattle.state_model.specs.Step.{dispatch, dispatch_request, perform, is_in_order, number_taken}
use Rattle.state_model.specs.Laws.{OutOfOrderByTheNumber, OutOfOrderChangesNothing, NumbersAreTaken}
use Rattle.state_model.proofs.Sequences.{by_order}
use Rattle.state_model.proofs.Readiness.{is_ready, is_untested, is_without_noise, ready_cases}
use Rattle.state_model.proofs.TestSteps.{test_step_by}
use Rattle.state_model.proofs.Statuses.{dispatched_in_order}

-- the expected number is that of a state
abbrev Expects : {V : Type 0} → MachineState V → Stepped V → Type 0
Expects s after = after.machine.shared.public.next_sequence ≡ s.shared.public.next_sequence

tested : (public : PublicState) (more : Bool)
    → (let next : PublicState = if more then record public { tests_done = public.tests_done + 1 } else record public { state = public.return_state; return_state = state.Off; tests_done = 0 } in next.next_sequence ≡ public.next_sequence)
tested public true = refl
tested public false = refl

settled : {V : Type 0} (shared : Shared V) (over : Bool)
    → (let after : Shared V = if over then tests_forgotten shared (sent_to_tests shared.public) else shared in after.public.next_sequence ≡ shared.public.next_sequence)
settled shared true = refl
settled shared false = refl

stepped : {V : Type 0} (calls : Calls V) (s : MachineState V) (events : List Sample) → Expects s (test_step calls s events)
stepped {V} calls s events =
    let Kept : Stepped V → Type 0 = λ after. Expects s after in
    test_step_by calls s events Kept (λ tests engine generator samples left. tested s.shared.public (nat_lt s.shared.public.tests_done 2)) (λ why tests engine generator samples left. refl)
    (λ why tests engine generator samples left. refl)

used : {V : Type 0} (calls : Calls V) (s : MachineState V) (events : List Sample) (what : CryptographicRequest) → Expects s (cryptographic_step calls s events what)
used {V} calls s events what =
    let Kept : Ready V → Type 0 = λ ready. Expects s (served calls s ready what) in
    let after : Ready V → V → Shared V = λ ready engine. record ready.shared { engine = engine } in
    ready_cases calls s.shared events what Kept
    (λ more engine generator samples drawn left.
    let counted = after (is_ready s.shared more engine generator samples drawn left what) (service_at calls engine drawn s.slots what).engine in settled counted (is_period_over counted.public))
    (λ test engine. let failed = after (is_untested s.shared test engine events) engine in settled failed (is_period_over failed.public))
    (λ fault more engine generator samples left. let failed = after (is_without_noise s.shared fault more engine generator samples left) engine in settled failed (is_period_over failed.public))

-- no service changes it
performed : {V : Type 0} (calls : Calls V) (s : MachineState V) (events : List Sample) (what : RequestValue) → Expects s (perform calls s events what)
performed calls s events request.TestStep = stepped calls s events
performed calls s events (request.EntryBytes piece) = by_room (nat_le (s.entry.filled + length piece) (entry_length s.entry))
  where
    by_room : (fits : Bool) → Expects s (if fits then done (record s { entry = with_piece s.entry piece }) no_block events else refused s status.BadLength events)
    by_room true = refl
    by_room false = refl
performed calls s events (request.Cryptographic what) = used calls s events what
performed calls s events (request.PowerOn period) = refl
performed calls s events request.RequestTests = refl
performed calls s events request.ShowStatus = refl
performed calls s events request.ShowVersion = refl
performed calls s events (request.SelectRole role) = refl
performed calls s events request.Reset = refl
performed calls s events (request.EntryBegin slot header long) = refl
performed calls s events (request.EntryCommit check) = refl
performed calls s events request.EntryAbort = refl
performed calls s events (request.Zeroise slot) = refl
performed calls s events (request.ZeroiseTree slot) = refl
performed calls s events request.ZeroiseAll = refl
performed calls s events (request.ShowSlot slot) = refl

requested : {V : Type 0} (calls : Calls V) (s : MachineState V) (events : List Sample) (read : Option RequestValue) → Expects s (dispatch_request calls s events read)
requested calls s events None = refl
requested calls s events (Some what) = performed calls s events what

chosen : {V : Type 0} (calls : Calls V) (s : MachineState V) (events : List Sample) (allowed : Bool) (read : Option RequestValue)
    → Expects s (if allowed then dispatch_request calls s events read else refused s status.NotInState events)
chosen calls s events true read = requested calls s events read
chosen calls s events false read = refl

dispatched : {V : Type 0} (calls : Calls V) (s : MachineState V) (events : List Sample) (found : Option Service) (body : List ℕ) → Expects s (dispatch calls s events found body)
dispatched calls s events None body = refl
dispatched calls s events (Some found) body = chosen calls s events (is_permitted found (state_of s)) (request_of found body)

pub by_the_number : {V : Type 0} (calls : Calls V) → OutOfOrderByTheNumber calls
by_the_number {V} calls s events command =
    let By : Stepped V → Type 0 = λ after. (after.status ≡ status.OutOfOrder) ↔ (is_in_order command.sequence s.shared.public.next_sequence ≡ false) in
    by_order calls s events command By
    (λ none. (λ late. absurd (dispatched_in_order calls s events (service_numbered command.service) command.body late), λ late. let no = rw none at late in cc))
    (λ number some same. (
      λ late. absurd (dispatched_in_order calls (with_public s (sequence_taken s.shared.public)) events (service_numbered command.service) command.body late),
      λ late. let no = rw some at late in cc,
    ))
    (λ number some other. (λ _. rw some other, λ _. refl))

pub changes_nothing : {V : Type 0} (calls : Calls V) → OutOfOrderChangesNothing calls
changes_nothing {V} calls s events command =
    let Stays : Stepped V → Type 0 = λ after. after.status ≡ status.OutOfOrder
    → (after.machine ≡ s) × (after.left ≡ events) × (after.payload ≡ []) × (after.block ≡ sequence_block s.shared.public) in
    by_order calls s events command Stays (λ _ late. absurd (dispatched_in_order calls s events (service_numbered command.service) command.body late))
    (λ number _ _ late. absurd (dispatched_in_order calls (with_public s (sequence_taken s.shared.public)) events (service_numbered command.service) command.body late))
    (λ number _ _ _. (refl, refl, refl, refl))

pub are_taken : {V : Type 0} (calls : Calls V) → NumbersAreTaken calls
are_taken {V} calls s events command =
    let Taken : Stepped V → Type 0 = λ after. after.status ≢ status.OutOfOrder
    → after.machine.shared.public.next_sequence ≡ (number_taken s command.sequence).shared.public.next_sequence in
    by_order calls s events command Taken (λ none _. rw none (dispatched calls s events (service_numbered command.service) command.body))
    (λ number some _ _. rw some (dispatched calls (with_public s (sequence_taken s.shared.public)) events (service_numbered command.service) command.body))
    (λ number _ _ other. absurd (other refl))
