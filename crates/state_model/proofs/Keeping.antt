-- A step keeps the rules.
use Rattle.std.proofs.Common.{◌≡◌, Bool, true, false, List, [], ℕ, zero, suc, Option, Some, None, refl, ap, ◌∙◌, arith, take, if◌then◌else◌}
use Rattle.noise_health.specs.Signals.{health_signal}
use Rattle.std.specs.Prelude.{IfSome}
use Rattle.bits_core.specs.ByteList.{IsBytes}
use Rattle.service_table.specs.declared.service.Service.{Service}
use Rattle.service_table.specs.declared.service.Service.TheVariants as service
use Rattle.service_table.specs.declared.state.State.{State}
use Rattle.service_table.specs.declared.status.Status.TheVariants as status
use Rattle.service_table.specs.Numbers.{service_numbered}
use Rattle.service_table.specs.declared.failure.Failure.TheVariants as failure
use Rattle.service_table.specs.Services.{is_permitted}
use Rattle.self_tests.specs.Tests.{number_of}
use Rattle.ssp_slots.proofs.WellFormedSlots.{AreWellFormed-empty}
use Rattle.outside.specs.declared.traits.Sample.{Sample}
use Rattle.module_frames.specs.Requests.{RequestValue, CryptographicRequest, IsInRange, IsCryptographicInRange, request_of, cryptographic_service_for}
use Rattle.module_frames.specs.Requests as request
use Rattle.engine_core.specs.Calls.{Calls, Keeps}
use Rattle.state_model.specs.Permission.{IsPermittedIn}
use Rattle.state_model.specs.MachineState.{MachineState, IsWellFormed, initial_state, state_of, vault_of}
use Rattle.module_frames.specs.PublicEffects.{sequence_taken}
use Rattle.state_model.specs.Management.{Stepped, refused, with_public}
use Rattle.state_model.specs.Cryptographic.{Ready, service_at, served, link_of, with_link, cryptographic_step}
use Rattle.state_model.proofs.Testing.{is_failure}
use Rattle.state_model.proofs.Readiness.{ready_by}
use Rattle.state_model.proofs.Vaults.{with_link_kept}
use Rattle.state_model.proofs.ServicesKept.{service_kept}
use Rattle.state_model.specs.Step.{dispatch, dispatch_request, perform}
use Rattle.state_model.specs.Laws.{StepsKeepTheRules}
use Rattle.state_model.proofs.Permitted.{off_for_power_on, testing_for_test_step, officer_for_entry_begin, entering_for_entry_bytes, hash_for_mac, hash_for_zeroise}
use Rattle.state_model.proofs.Rules.{number_taken_kept, power_on_kept, request_tests_kept, select_role_kept, reset_kept, entry_begin_kept, entry_bytes_rules, entry_commit_kept, entry_over_kept, zeroise_kept, zeroise_tree_kept, zeroise_all_kept, cryptographic_kept, failed_use_is_kept, generator_in_use, healthy_in_use}
use Rattle.state_model.proofs.TestSteps.{test_step_kept}
use Rattle.state_model.proofs.Sequences.{by_order}
use Rattle.state_model.proofs.RequestReading.{IsOfBytes, IsCryptographicOfBytes, IsRead, request_read}

pub begins : {V : Type 0} (engine : V) (image digest : List ℕ) → IsWellFormed (initial_state engine image digest)
begins engine image digest = record {
  public = record {
    period = omega arith;
    counting = λ _ some. some;
    uncounted = λ none. refl;
    unpowered = λ e. refl;
    testing = λ e. cc;
    settled = λ _. (refl, refl);
    faultless = λ _. refl;
    failed = λ e. cc;
    sequence = omega arith;
  };
  passed = tt;
  healthy = λ _ n. no_signal n;
  slots = AreWellFormed-empty;
  entering = λ e. cc;
  wiped = λ _. refl;
}
  where
    no_signal : (n : ℕ) → health_signal (take n []) ≡ None
    no_signal zero = refl
    no_signal (suc n) = refl

-- a cryptographic service is permitted in a role
pub hash_for_cryptographic : (what : CryptographicRequest) (found : State) → is_permitted (cryptographic_service_for what) found ≡ true → is_permitted service.Hash found ≡ true
hash_for_cryptographic (request.Hash alg text) found allowed = allowed
hash_for_cryptographic (request.Mac slot alg mac_length text) found allowed = hash_for_mac found allowed
hash_for_cryptographic (request.MacVerify slot alg tag text) found allowed = hash_for_mac found allowed
hash_for_cryptographic (request.Seal slot tag_length aad text) found allowed = hash_for_mac found allowed
hash_for_cryptographic (request.SealIv slot tag_length iv aad text) found allowed = hash_for_mac found allowed
hash_for_cryptographic (request.Open slot iv aad text tag) found allowed = hash_for_mac found allowed
hash_for_cryptographic (request.Wrap true kek second) found allowed = hash_for_zeroise found allowed
hash_for_cryptographic (request.Wrap false kek second) found allowed = hash_for_zeroise found allowed
hash_for_cryptographic (request.Unwrap true kek target kind export uses wrapped) found allowed = hash_for_zeroise found allowed
hash_for_cryptographic (request.Unwrap false kek target kind export uses wrapped) found allowed = hash_for_zeroise found allowed
hash_for_cryptographic (request.Derive source target kind export uses long label context) found allowed = allowed
hash_for_cryptographic (request.Random long additional) found allowed = allowed
hash_for_cryptographic (request.Generate target header long) found allowed = hash_for_zeroise found allowed
hash_for_cryptographic (request.Reseed additional) found allowed = hash_for_zeroise found allowed

pub cryptographic_step_kept : {V : Type 0} (calls : Calls V) (s : MachineState V) (events : List Sample) (what : CryptographicRequest) → Keeps calls → IsWellFormed s → is_permitted service.Hash (state_of s) ≡ true
    → IsCryptographicInRange what → IsCryptographicOfBytes what → IsWellFormed (cryptographic_step calls s events what).machine
cryptographic_step_kept {V} calls s events what keeps rules allowed range bytes =
    let Kept : Ready V → Type 0 = λ ready. IsWellFormed (served calls s ready what).machine in
    let passed = generator_in_use s rules allowed in
    ready_by calls s.shared events what Kept keeps (healthy_in_use s rules allowed) passed.seeded passed.requests
    (λ more engine generator samples drawn left includes healthy seeded requests fresh.
    let result = service_at calls engine drawn s.slots what in
    let rows = with_link s.shared.ancestry (link_of what) in
    cryptographic_kept s more result.engine generator samples rows result.slots rules allowed includes healthy seeded requests
    (service_kept calls engine drawn (record { slots = s.slots; rows = rows }) what keeps range bytes fresh (with_link_kept (vault_of s) what range rules.slots)))
    (λ test engine. failed_use_is_kept s (failure.KnownAnswer (number_of test)) s.shared.tests_passed engine s.shared.generator s.shared.samples (is_failure test) rules allowed)
    (λ fault more engine generator samples left is. failed_use_is_kept s fault more engine generator samples is rules allowed)

-- what is done for a request keeps the rules
performed_kept : {V : Type 0} (calls : Calls V) (s : MachineState V) (events : List Sample) (what : RequestValue) → Keeps calls → IsWellFormed s → IsInRange what → IsOfBytes what → IsPermittedIn what (state_of s)
    → IsWellFormed (perform calls s events what).machine
performed_kept calls s events (request.PowerOn period) met rules range bytes allowed = power_on_kept s period rules (off_for_power_on (state_of s) allowed) range
performed_kept calls s events request.TestStep met rules range bytes allowed = test_step_kept calls s events met rules (testing_for_test_step (state_of s) allowed)
performed_kept calls s events request.RequestTests met rules range bytes allowed = request_tests_kept s rules allowed
performed_kept calls s events request.ShowStatus met rules range bytes allowed = rules
performed_kept calls s events request.ShowVersion met rules range bytes allowed = rules
performed_kept calls s events (request.SelectRole role) met rules range bytes allowed = select_role_kept s role rules allowed
performed_kept calls s events request.Reset met rules range bytes allowed = reset_kept s rules
performed_kept calls s events (request.EntryBegin slot header long) met rules range bytes allowed =
    entry_begin_kept s (record { slot = slot; header = header; length = long }) rules (officer_for_entry_begin (state_of s) allowed) range.0 range.1 bytes range.2
performed_kept calls s events (request.EntryBytes piece) met rules range bytes allowed = entry_bytes_rules s piece events bytes rules (entering_for_entry_bytes (state_of s) allowed)
performed_kept calls s events (request.EntryCommit check) met rules range bytes allowed = entry_commit_kept calls s check events rules (entering_for_entry_bytes (state_of s) allowed)
performed_kept calls s events request.EntryAbort met rules range bytes allowed = entry_over_kept s rules (entering_for_entry_bytes (state_of s) allowed)
performed_kept calls s events (request.Zeroise slot) met rules range bytes allowed = zeroise_kept s slot rules
performed_kept calls s events (request.ZeroiseTree slot) met rules range bytes allowed = zeroise_tree_kept s slot rules
performed_kept calls s events request.ZeroiseAll met rules range bytes allowed = zeroise_all_kept s rules
performed_kept calls s events (request.ShowSlot slot) met rules range bytes allowed = rules
performed_kept calls s events (request.Cryptographic what) met rules range bytes allowed =
    cryptographic_step_kept calls s events what met rules (hash_for_cryptographic what (state_of s) allowed) range bytes

requested_kept : {V : Type 0} (calls : Calls V) (s : MachineState V) (events : List Sample) (found : Service) (body : List ℕ) (read : Option RequestValue) → IfSome read (IsRead found body) → IsBytes body
    → Keeps calls → IsWellFormed s → is_permitted found (state_of s) ≡ true → IsWellFormed (dispatch_request calls s events read).machine
requested_kept calls s events found body None is_read are_bytes met rules allowed = rules
requested_kept calls s events found body (Some what) is_read are_bytes met rules allowed =
    performed_kept calls s events what met rules is_read.0 (is_read.2 are_bytes) (ap (λ f. is_permitted f (state_of s)) is_read.1 ∙ allowed)

choice_kept : {V : Type 0} (calls : Calls V) (s : MachineState V) (events : List Sample) (found : Service) (allowed : Bool) (body : List ℕ) → is_permitted found (state_of s) ≡ allowed → IsBytes body
    → Keeps calls → IsWellFormed s → IsWellFormed (if allowed then dispatch_request calls s events (request_of found body) else refused s status.NotInState events).machine
choice_kept calls s events found true body is are_bytes met rules = requested_kept calls s events found body (request_of found body) (request_read found body) are_bytes met rules is
choice_kept calls s events found false body is are_bytes met rules = rules

dispatched_kept : {V : Type 0} (calls : Calls V) (s : MachineState V) (events : List Sample) (found : Option Service) (body : List ℕ) → IsBytes body → Keeps calls → IsWellFormed s
    → IsWellFormed (dispatch calls s events found body).machine
dispatched_kept calls s events None body are_bytes met rules = rules
dispatched_kept calls s events (Some found) body are_bytes met rules = choice_kept calls s events found (is_permitted found (state_of s)) body refl are_bytes met rules

pub keeps : {V : Type 0} (calls : Calls V) → Keeps calls → StepsKeepTheRules calls
keeps {V} calls met s events command are_bytes rules =
    let Kept : Stepped V → Type 0 = λ after. IsWellFormed after.machine in
    by_order calls s events command Kept (λ _. dispatched_kept calls s events (service_numbered command.service) command.body are_bytes met rules)
    (λ number _ _. dispatched_kept calls (with_public s (sequence_taken s.shared.public)) events (service_numbered command.service) command.body are_bytes met (number_taken_kept s rules))
    (λ number _ _. rules)
