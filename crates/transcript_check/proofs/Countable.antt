-- A walk keeps to what can be counted.
use Rattle.std.proofs.Common.{◌≡◌, ◌≢◌, ◌≤◌, ◌<◌, ◌+◌, ◌==◌, ◌&&◌, ℕ, Bool, true, false, Option, Some, None, refl, sym, ap, subst, arith, if◌then◌else◌}
use Rattle.std.proofs.lemmas.Bool.Decides.{nat_tests}
use Rattle.std.specs.Prelude.{not, nat_lt}
use Rattle.service_table.specs.Answers.{is_status_among}
use Rattle.service_table.specs.Numbers.{state_number}
use Rattle.service_table.specs.Services.{is_permitted}
use Rattle.service_table.specs.declared.failure.Failure.{Failure}
use Rattle.service_table.specs.declared.state.State.{State}
use Rattle.service_table.specs.declared.state.State.TheVariants as state
use Rattle.service_table.specs.declared.status.Status.{Status}
use Rattle.service_table.specs.declared.status.Status.TheVariants as status
use Rattle.module_frames.specs.CommandFrames.{CommandFrame}
use Rattle.module_frames.specs.LawfulSteps.{is_ok, left_by, counted, found_by, period_ended, where_done, failures}
use Rattle.module_frames.specs.PublicEffects.{has_failed, use_counted, is_period_over, sent_to_tests, test_done}
use Rattle.module_frames.specs.Requests.{RequestValue, CryptographicRequest, service_for, IsInRange}
use Rattle.module_frames.specs.Requests as request
use Rattle.module_frames.specs.Sequencing.{is_in_order, sequence_seen}
use Rattle.module_frames.specs.declared.public_state.PublicState.{PublicState}
use Rattle.transcript_check.specs.Counting.{IsCountable}
use Rattle.transcript_check.specs.Effects.{Leaves}
use Rattle.transcript_check.proofs.RequestKinds.{cryptographic_outside_error, not_error}

-- what a command finds has the state, the period and the uses of what was before
pub found_state : (command : CommandFrame) (before : PublicState) → (found_by command before).state ≡ before.state
found_state command before = by_order (is_in_order command.sequence before.next_sequence) command.sequence
  where
    by_order : (taken : Bool) (sequence : Option ℕ) → (if taken then sequence_seen sequence before else before).state ≡ before.state
    by_order false sequence = refl
    by_order true None = refl
    by_order true (Some number) = refl

pub found_countable : (command : CommandFrame) (before : PublicState) → IsCountable before → IsCountable (found_by command before)
found_countable command before is = by_order (is_in_order command.sequence before.next_sequence) command.sequence
  where
    by_order : (taken : Bool) (sequence : Option ℕ) → IsCountable (if taken then sequence_seen sequence before else before)
    by_order false sequence = is
    by_order true None = record { period = is.period; uses = is.uses }
    by_order true (Some number) = record { period = is.period; uses = is.uses }

-- a use that is counted leaves the period
counted_period : (requested : RequestValue) (found : PublicState) → (counted requested found).period ≡ found.period
counted_period (request.PowerOn period) found = refl
counted_period request.TestStep found = refl
counted_period request.RequestTests found = refl
counted_period request.ShowStatus found = refl
counted_period request.ShowVersion found = refl
counted_period (request.SelectRole role) found = refl
counted_period request.Reset found = refl
counted_period (request.EntryBegin slot header long) found = refl
counted_period (request.EntryBytes piece) found = refl
counted_period (request.EntryCommit check) found = refl
counted_period request.EntryAbort found = refl
counted_period (request.Zeroise slot) found = refl
counted_period request.ZeroiseAll found = refl
counted_period (request.ShowSlot slot) found = refl
counted_period (request.ZeroiseTree slot) found = refl
counted_period (request.Cryptographic what) found = refl

failed_countable : (requested : RequestValue) (found : PublicState) (reason : Failure) → IsCountable found → IsCountable (has_failed reason (counted requested found))
failed_countable requested found reason is = record { period = omega (arith, counted_period requested found, is.period); uses = λ other _. absurd (other refl) }

-- where the state isn't Error and the period isn't over, a use can be counted
not_over : (period uses : ℕ) (at : State) → at ≢ state.Error → (nat_lt 0 period && (uses == period && not (state_number at == state_number state.Error))) ≡ false → 0 < period → uses ≢ period
not_over period uses at other is some = by_state at other is
  where
    by_test : (nat_lt 0 period && (uses == period && true)) ≡ false → uses ≢ period
    by_test is = grind (arith, nat_tests)

    by_state : (at : State) → at ≢ state.Error → (nat_lt 0 period && (uses == period && not (state_number at == state_number state.Error))) ≡ false → uses ≢ period
    by_state state.Off other is = by_test is
    by_state state.Init other is = by_test is
    by_state state.SelfTest other is = by_test is
    by_state state.Approved other is = by_test is
    by_state state.Officer other is = by_test is
    by_state state.User other is = by_test is
    by_state state.Entry other is = by_test is
    by_state state.Error other is = absurd (other refl)

ended_countable : (public : PublicState) → public.period ≤ 1000000 → public.state ≢ state.Error → (0 < public.period → public.uses_since_tests ≤ public.period) → IsCountable (period_ended public)
ended_countable public small other most = by_over (is_period_over public) refl
  where
    by_over : (over : Bool) → is_period_over public ≡ over → IsCountable (if over then sent_to_tests public else public)
    by_over true is = record { period = small; uses = λ _ some. some }
    by_over false is = record { period = small; uses = λ _ some. let differ = not_over public.period public.uses_since_tests public.state other is some in omega (arith, differ, most some) }

used_countable : (found : PublicState) → IsCountable found → found.state ≢ state.Error → IsCountable (period_ended (use_counted found))
used_countable found is other = ended_countable (use_counted found) is.period other (by_period (found.period == 0) refl)
  where
    by_period : (none : Bool) → (found.period == 0) ≡ none → 0 < found.period → (if none then found.uses_since_tests else found.uses_since_tests + 1) ≤ found.period
    by_period true test some = let zero' : found.period ≡ 0 = grind (arith, nat_tests) in omega (arith, zero', some)
    by_period false test some = omega (arith, is.uses other some)

-- where the period and the uses stay, and the state wasn't Error
kept_countable : (found after : PublicState) → IsCountable found → found.state ≢ state.Error → after.period ≡ found.period → after.uses_since_tests ≡ found.uses_since_tests → IsCountable after
kept_countable found after is other period uses = record { period = omega (arith, period, is.period); uses = λ _ some. omega (arith, period, uses, some, is.uses other) }

by_done : (done : Bool) (effect found : PublicState) → IsCountable effect → IsCountable found → IsCountable (where_done done effect found)
by_done true effect found counts is = counts
by_done false effect found counts is = is

tested_countable : (found : PublicState) → IsCountable found → found.state ≢ state.Error → IsCountable (test_done found)
tested_countable found is other = by_more (nat_lt found.tests_done 2)
  where
    by_more : (more : Bool) → IsCountable (if more then record found { tests_done = found.tests_done + 1 } else record found { state = found.return_state; return_state = state.Off; tests_done = 0 })
    by_more true = record { period = is.period; uses = is.uses }
    by_more false = record { period = is.period; uses = λ _. is.uses other }

-- what a request leaves where nothing failed
left_countable : (requested : RequestValue) (done : Bool) (found : PublicState) → IsCountable found → IsInRange requested → is_permitted (service_for requested) found.state ≡ true → IsCountable (left_by requested done found)
left_countable (request.PowerOn period) done found is range allowed = by_done done _ found (record { period = range; uses = λ _ some. some }) is
left_countable request.TestStep done found is range allowed = by_done done _ found (tested_countable found is (not_error request.TestStep found.state refl allowed)) is
left_countable request.RequestTests done found is range allowed = by_done done _ found (record { period = is.period; uses = λ _ some. some }) is
left_countable request.ShowStatus done found is range allowed = is
left_countable request.ShowVersion done found is range allowed = is
left_countable (request.SelectRole role) done found is range allowed = by_done done _ found (kept_countable found _ is (not_error (request.SelectRole role) found.state refl allowed) refl refl) is
left_countable request.Reset done found is range allowed = by_done done _ found (record { period = is.period; uses = λ _ some. some }) is
left_countable (request.EntryBegin slot header long) done found is range allowed = by_done done _ found (kept_countable found _ is (not_error (request.EntryBegin slot header long) found.state refl allowed) refl refl) is
left_countable (request.EntryBytes piece) done found is range allowed = is
left_countable (request.EntryCommit check) done found is range allowed = kept_countable found _ is (not_error (request.EntryCommit check) found.state refl allowed) refl refl
left_countable request.EntryAbort done found is range allowed = by_done done _ found (kept_countable found _ is (not_error request.EntryAbort found.state refl allowed) refl refl) is
left_countable (request.Zeroise slot) done found is range allowed = is
left_countable request.ZeroiseAll done found is range allowed = is
left_countable (request.ShowSlot slot) done found is range allowed = is
left_countable (request.ZeroiseTree slot) done found is range allowed = is
left_countable (request.Cryptographic what) done found is range allowed =
    used_countable found is (not_error (request.Cryptographic what) found.state (cryptographic_outside_error what) allowed)

-- a use can be counted where a cryptographic service is permitted
pub can_count : (what : CryptographicRequest) (found : PublicState) → IsCountable found → is_permitted (service_for (request.Cryptographic what)) found.state ≡ true → 0 < found.period → found.uses_since_tests < found.period
can_count what found is allowed = is.uses (not_error (request.Cryptographic what) found.state (cryptographic_outside_error what) allowed)

-- what a request leaves, whatever its status is
pub leaves_countable : (requested : RequestValue) (found : PublicState) (outcome : Status) (after : PublicState) → IsCountable found → IsInRange requested → is_permitted (service_for requested) found.state ≡ true
    → Leaves requested found outcome after → IsCountable after
leaves_countable requested found outcome after is range allowed leaves = by_status outcome refl
  where
    failed : (reason : Failure) → after ≡ has_failed reason (counted requested found) → IsCountable after
    failed reason same = subst IsCountable (sym same) (failed_countable requested found reason is)

    settled : is_status_among failures outcome ≡ false → IsCountable after
    settled fine = subst IsCountable (sym (leaves.effect fine)) (left_countable requested (is_ok outcome) found is range allowed)

    by_status : (answer : Status) → outcome ≡ answer → IsCountable after
    by_status status.TestFailed e = let test = leaves.failure.test e in failed test.0 test.2
    by_status status.NoiseFault e = let noise = leaves.failure.noise e in failed noise.0 noise.2
    by_status status.Ok e = settled (ap (is_status_among failures) e)
    by_status status.UnknownService e = settled (ap (is_status_among failures) e)
    by_status status.NotInState e = settled (ap (is_status_among failures) e)
    by_status status.BadBody e = settled (ap (is_status_among failures) e)
    by_status status.EmptySlot e = settled (ap (is_status_among failures) e)
    by_status status.WrongKind e = settled (ap (is_status_among failures) e)
    by_status status.WrongDomain e = settled (ap (is_status_among failures) e)
    by_status status.Spent e = settled (ap (is_status_among failures) e)
    by_status status.OccupiedSlot e = settled (ap (is_status_among failures) e)
    by_status status.NotExportable e = settled (ap (is_status_among failures) e)
    by_status status.BadLength e = settled (ap (is_status_among failures) e)
    by_status status.CheckFailed e = settled (ap (is_status_among failures) e)
    by_status status.AuthFailed e = settled (ap (is_status_among failures) e)
    by_status status.UnwrapFailed e = settled (ap (is_status_among failures) e)
    by_status status.OutOfOrder e = settled (ap (is_status_among failures) e)
