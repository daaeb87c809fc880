-- The rules that each step of the module keeps, as everyone can check them who sees the commands and the heads of the replies: over the
-- public state before and after. These rules are this project's own; ISO/IEC 19790:2012, 7.11.4, asks for a finite state model.
use Rattle.std.specs.Prelude.{◌≡◌, ◌≢◌, ℕ, ◌+◌, ◌==◌, ◌&&◌, not, Bool, true, false, IsTrue, List, [], ◌∷◌, length, Option, Some, None, Result, Ok, Err, MatchResult, MatchOption, if◌then◌else◌}
use Rattle.std.specs.Option.{option_map}
use Rattle.bits_core.specs.Algorithms.{alg_size}
use Rattle.bits_core.specs.Parameters.{length_fits}
use Rattle.bits_core.specs.declared.algorithm.Alg.{Alg}
use Rattle.bits_core.specs.declared.algorithm.Alg.TheVariants.{Sha256}
use Rattle.bits_core.specs.declared.parameter.Header.{Header}
use Rattle.service_table.specs.Answers.{is_status_among, may_answer}
use Rattle.service_table.specs.KnownAnswers.{generator_test, mac_test, test_of}
use Rattle.service_table.specs.Numbers.{service_numbered, state_number}
use Rattle.service_table.specs.Services.{is_approved, is_permitted}
use Rattle.service_table.specs.declared.failure.Failure.{Failure}
use Rattle.service_table.specs.declared.failure.Failure.TheVariants as failure
use Rattle.service_table.specs.declared.service.Service.{Service}
use Rattle.service_table.specs.declared.service.Service.TheVariants as service
use Rattle.service_table.specs.declared.state.State.{State}
use Rattle.service_table.specs.declared.state.State.TheVariants as state
use Rattle.service_table.specs.declared.status.Status.{Status}
use Rattle.service_table.specs.declared.status.Status.TheVariants as status
use Rattle.module_frames.specs.CommandFrames.{CommandFrame}
use Rattle.module_frames.specs.PublicEffects.{powered_on, tests_requested, test_done, has_failed, role_selected, was_reset, entry_begun, entry_ended, use_counted, is_period_over, sent_to_tests}
use Rattle.module_frames.specs.PublicState.{no_block, status_block, sequence_block, version_block, header_block}
use Rattle.module_frames.specs.RequestValues.{CryptographicRequest, RequestValue}
use Rattle.module_frames.specs.RequestValues as request
use Rattle.module_frames.specs.Requests.{request_of, service_for, cryptographic_service_for}
use Rattle.module_frames.specs.Sequencing.{is_in_order, sequence_seen}
use Rattle.module_frames.specs.WrappingBodies.{is_wrapped_length}
use Rattle.module_frames.specs.declared.head.ReplyHead.{ReplyHead}
use Rattle.module_frames.specs.declared.public_state.PublicState.{PublicState}

-- What a command asks for, or the reason to refuse it at once: the first of these that holds. It is out of order; no service has the
-- number; the service isn't permitted in this state; the body isn't of its form.
abbrev pub begun_with : Option RequestValue → Result RequestValue Status
begun_with None = Err status.BadBody
begun_with (Some requested) = Ok requested

abbrev pub begun_by : Option Service → State → List ℕ → Result RequestValue Status
begun_by None found body = Err status.UnknownService
begun_by (Some service) found body = if is_permitted service found then begun_with (request_of service body) else Err status.NotInState

abbrev pub begun : PublicState → CommandFrame → Result RequestValue Status
begun before command =
    if is_in_order command.sequence before.next_sequence
    then begun_by (service_numbered command.service) before.state command.body
    else Err status.OutOfOrder

-- what a command finds: its number is taken, where it comes in its order
abbrev pub found_by : CommandFrame → PublicState → PublicState
found_by command before = if is_in_order command.sequence before.next_sequence then sequence_seen command.sequence before else before

-- the statuses of commands that are refused at once
abbrev pub refusals_at_once : List Status
refusals_at_once = status.OutOfOrder ∷ status.UnknownService ∷ status.NotInState ∷ status.BadBody ∷ []

-- the statuses of a failure, after which the state is Error
abbrev pub failures : List Status
failures = status.TestFailed ∷ status.NoiseFault ∷ []

abbrev pub is_ok : Status → Bool
is_ok outcome = is_status_among (status.Ok ∷ []) outcome

-- the hash function that a request names
abbrev pub alg_named : CryptographicRequest → Option Alg
alg_named (request.Hash alg text) = Some alg
alg_named (request.Mac slot alg mac_length text) = Some alg
alg_named (request.MacVerify slot alg tag text) = Some alg
alg_named (request.Seal slot tag_length aad text) = None
alg_named (request.SealIv slot tag_length iv aad text) = None
alg_named (request.Open slot iv aad text tag) = None
alg_named (request.Wrap pad kek second) = None
alg_named (request.Unwrap pad kek target kind export uses wrapped) = None
alg_named (request.Derive source target kind export uses long label context) = None
alg_named (request.Random long additional) = None
alg_named (request.Generate target header long) = None
alg_named (request.Reseed additional) = None

-- what fails where a step of the self-tests does: the known answer of HMAC-SHA-256, the image, the known answer of the generator
abbrev pub step_failure : ℕ → Failure
step_failure tests_done =
    if tests_done == 0 then failure.KnownAnswer (mac_test Sha256)
    else if tests_done == 1 then failure.Integrity
    else failure.KnownAnswer generator_test

-- what fails where a request answers TestFailed
abbrev pub test_failure : RequestValue → ℕ → Option Failure
test_failure (request.PowerOn period) tests_done = None
test_failure request.TestStep tests_done = Some (step_failure tests_done)
test_failure request.RequestTests tests_done = None
test_failure request.ShowStatus tests_done = None
test_failure request.ShowVersion tests_done = None
test_failure (request.SelectRole role) tests_done = None
test_failure request.Reset tests_done = None
test_failure (request.EntryBegin slot header long) tests_done = None
test_failure (request.EntryBytes piece) tests_done = None
test_failure (request.EntryCommit check) tests_done = None
test_failure request.EntryAbort tests_done = None
test_failure (request.Zeroise slot) tests_done = None
test_failure request.ZeroiseAll tests_done = None
test_failure (request.ShowSlot slot) tests_done = None
test_failure (request.ZeroiseTree slot) tests_done = None
test_failure (request.Cryptographic what) tests_done =
    option_map (λ test. failure.KnownAnswer test) (test_of (cryptographic_service_for what) (alg_named what))

-- a failure of the noise
abbrev pub is_of_noise : Failure → Bool
is_of_noise (failure.KnownAnswer test) = false
is_of_noise failure.Integrity = false
is_of_noise failure.NoiseEnded = true
is_of_noise failure.NoiseFailed = true
is_of_noise failure.Repetition = true
is_of_noise failure.Proportion = true

-- the public state when a request's tests and draws begin: a cryptographic service counts as a use
abbrev pub counted : RequestValue → PublicState → PublicState
counted (request.PowerOn period) found = found
counted request.TestStep found = found
counted request.RequestTests found = found
counted request.ShowStatus found = found
counted request.ShowVersion found = found
counted (request.SelectRole role) found = found
counted request.Reset found = found
counted (request.EntryBegin slot header long) found = found
counted (request.EntryBytes piece) found = found
counted (request.EntryCommit check) found = found
counted request.EntryAbort found = found
counted (request.Zeroise slot) found = found
counted request.ZeroiseAll found = found
counted (request.ShowSlot slot) found = found
counted (request.ZeroiseTree slot) found = found
counted (request.Cryptographic what) found = use_counted found

-- A test or the noise failed: the state is Error, with the code of what did. A step of the self-tests takes noise after the last test alone.
pub record IsFailure (requested : RequestValue) (found : PublicState) (outcome : Status) (after : PublicState) : Type 0 where
  pub test : outcome ≡ status.TestFailed → (reason : Failure) × (test_failure requested found.tests_done ≡ Some reason) × (after ≡ has_failed reason (counted requested found))
  pub noise : outcome ≡ status.NoiseFault → (reason : Failure) × (is_of_noise reason ≡ true) × (after ≡ has_failed reason (counted requested found))
  pub seed : outcome ≡ status.NoiseFault → requested ≡ request.TestStep → found.tests_done ≡ 2

-- the end of a cryptographic service: where the period is over, tests are due
abbrev pub period_ended : PublicState → PublicState
period_ended public = if is_period_over public then sent_to_tests public else public

-- the first where it was done, and else the second
abbrev pub where_done : Bool → PublicState → PublicState → PublicState
where_done done effect found = if done then effect else found

-- What a request leaves where no test and no noise failed, by whether it was done. A service that isn't cryptographic and is refused changes
-- nothing, but EntryCommit ends the entry; a cryptographic one counts as a use in both cases, and at the end of a period tests are due.
abbrev pub left_by : RequestValue → Bool → PublicState → PublicState
left_by (request.PowerOn period) done found = where_done done (powered_on period found) found
left_by request.TestStep done found = where_done done (test_done found) found
left_by request.RequestTests done found = where_done done (tests_requested found) found
left_by request.ShowStatus done found = found
left_by request.ShowVersion done found = found
left_by (request.SelectRole role) done found = where_done done (role_selected role found) found
left_by request.Reset done found = where_done done (was_reset found) found
left_by (request.EntryBegin slot header long) done found = where_done done (entry_begun found) found
left_by (request.EntryBytes piece) done found = found
left_by (request.EntryCommit check) done found = entry_ended found
left_by request.EntryAbort done found = where_done done (entry_ended found) found
left_by (request.Zeroise slot) done found = found
left_by request.ZeroiseAll done found = found
left_by (request.ShowSlot slot) done found = found
left_by (request.ZeroiseTree slot) done found = found
left_by (request.Cryptographic what) done found = period_ended (use_counted found)

-- the payload's length where a cryptographic service is done
abbrev pub IsPayloadOf : CryptographicRequest → ℕ → Type 0
IsPayloadOf (request.Hash alg text) n = n ≡ alg_size alg
IsPayloadOf (request.Mac slot alg mac_length text) n = n ≡ mac_length
IsPayloadOf (request.MacVerify slot alg tag text) n = n ≡ 0
IsPayloadOf (request.Seal slot tag_length aad text) n = n ≡ 12 + (length text + tag_length)
IsPayloadOf (request.SealIv slot tag_length iv aad text) n = n ≡ length text + tag_length
IsPayloadOf (request.Open slot iv aad text tag) n = n ≡ length text
IsPayloadOf (request.Wrap pad kek second) n = is_wrapped_length pad n ≡ true
IsPayloadOf (request.Unwrap pad kek target kind export uses wrapped) n = n ≡ 0
IsPayloadOf (request.Derive source target kind export uses long label context) n = n ≡ 0
IsPayloadOf (request.Random long additional) n = n ≡ long
IsPayloadOf (request.Generate target header long) n = n ≡ 0
IsPayloadOf (request.Reseed additional) n = n ≡ 0

-- Only a cryptographic service that is done has a payload, of a length that the request tells.
abbrev pub IsPayloadLength : RequestValue → ℕ → Type 0
IsPayloadLength (request.PowerOn period) n = n ≡ 0
IsPayloadLength request.TestStep n = n ≡ 0
IsPayloadLength request.RequestTests n = n ≡ 0
IsPayloadLength request.ShowStatus n = n ≡ 0
IsPayloadLength request.ShowVersion n = n ≡ 0
IsPayloadLength (request.SelectRole role) n = n ≡ 0
IsPayloadLength request.Reset n = n ≡ 0
IsPayloadLength (request.EntryBegin slot header long) n = n ≡ 0
IsPayloadLength (request.EntryBytes piece) n = n ≡ 0
IsPayloadLength (request.EntryCommit check) n = n ≡ 0
IsPayloadLength request.EntryAbort n = n ≡ 0
IsPayloadLength (request.Zeroise slot) n = n ≡ 0
IsPayloadLength request.ZeroiseAll n = n ≡ 0
IsPayloadLength (request.ShowSlot slot) n = n ≡ 0
IsPayloadLength (request.ZeroiseTree slot) n = n ≡ 0
IsPayloadLength (request.Cryptographic what) n = IsPayloadOf what n

-- the first holds where it was done, and else the second
abbrev pub ByDone : Bool → Type 0 → Type 0 → Type 0
ByDone true Done Refused = Done
ByDone false Done Refused = Refused

abbrev pub HasPayload : RequestValue → ReplyHead → Type 0
HasPayload requested reply = ByDone (is_ok reply.status) (IsPayloadLength requested reply.length) (reply.length ≡ 0)

abbrev pub is_error : State → Bool
is_error found = state_number found == state_number state.Error

-- The error code is 0 exactly outside Error. A command that finds the state Error and isn't Reset leaves the code.
pub record KeepsCode (before : PublicState) (command : CommandFrame) (after : PublicState) : Type 0 where
  pub none : (after.error_code == 0) ≡ not (is_error after.state)
  pub stays : before.state ≡ state.Error → service_numbered command.service ≢ Some service.Reset → after.error_code ≡ before.error_code

-- the length of the MAC that a request asks for or gives
abbrev pub mac_length_of : CryptographicRequest → ℕ
mac_length_of (request.Hash alg text) = 0
mac_length_of (request.Mac slot alg mac_length text) = mac_length
mac_length_of (request.MacVerify slot alg tag text) = length tag
mac_length_of (request.Seal slot tag_length aad text) = 0
mac_length_of (request.SealIv slot tag_length iv aad text) = 0
mac_length_of (request.Open slot iv aad text tag) = 0
mac_length_of (request.Wrap pad kek second) = 0
mac_length_of (request.Unwrap pad kek target kind export uses wrapped) = 0
mac_length_of (request.Derive source target kind export uses long label context) = 0
mac_length_of (request.Random long additional) = 0
mac_length_of (request.Generate target header long) = 0
mac_length_of (request.Reseed additional) = 0

-- a request that names no slot
abbrev pub names_no_slot : CryptographicRequest → Bool
names_no_slot (request.Hash alg text) = true
names_no_slot (request.Mac slot alg mac_length text) = false
names_no_slot (request.MacVerify slot alg tag text) = false
names_no_slot (request.Seal slot tag_length aad text) = false
names_no_slot (request.SealIv slot tag_length iv aad text) = false
names_no_slot (request.Open slot iv aad text tag) = false
names_no_slot (request.Wrap pad kek second) = false
names_no_slot (request.Unwrap pad kek target kind export uses wrapped) = false
names_no_slot (request.Derive source target kind export uses long label context) = false
names_no_slot (request.Random long additional) = true
names_no_slot (request.Generate target header long) = false
names_no_slot (request.Reseed additional) = true

-- an approved use that was done
abbrev pub is_approved_use : CryptographicRequest → Status → Bool
is_approved_use what outcome = is_ok outcome && is_approved (cryptographic_service_for what) (mac_length_of what)

pub record IsIndicatedUse (what : CryptographicRequest) (reply : ReplyHead) : Type 0 where
  pub approved : reply.approved ≡ true → is_approved_use what reply.status ≡ true
  pub exactly : names_no_slot what ≡ true → reply.approved ≡ is_approved_use what reply.status

-- The indicator tells of approved uses that were done, and for a request that names no slot exactly of these.
abbrev pub IsIndicated : RequestValue → ReplyHead → Type 0
IsIndicated (request.PowerOn period) reply = reply.approved ≡ false
IsIndicated request.TestStep reply = reply.approved ≡ false
IsIndicated request.RequestTests reply = reply.approved ≡ false
IsIndicated request.ShowStatus reply = reply.approved ≡ false
IsIndicated request.ShowVersion reply = reply.approved ≡ false
IsIndicated (request.SelectRole role) reply = reply.approved ≡ false
IsIndicated request.Reset reply = reply.approved ≡ false
IsIndicated (request.EntryBegin slot header long) reply = reply.approved ≡ false
IsIndicated (request.EntryBytes piece) reply = reply.approved ≡ false
IsIndicated (request.EntryCommit check) reply = reply.approved ≡ false
IsIndicated request.EntryAbort reply = reply.approved ≡ false
IsIndicated (request.Zeroise slot) reply = reply.approved ≡ false
IsIndicated request.ZeroiseAll reply = reply.approved ≡ false
IsIndicated (request.ShowSlot slot) reply = reply.approved ≡ false
IsIndicated (request.ZeroiseTree slot) reply = reply.approved ≡ false
IsIndicated (request.Cryptographic what) reply = IsIndicatedUse what reply

-- the block of an empty slot, or of a full one whose length fits its header
abbrev pub IsSlotBlock : List ℕ → Type 0
IsSlotBlock block = (header : Option Header) × (long : ℕ) × MatchOption header (block ≡ no_block) (λ h. IsTrue (length_fits h.kind h.domain long) × (block ≡ header_block long h))

-- what the block tells where a request is done
abbrev pub IsBlockOf : RequestValue → PublicState → List ℕ → Type 0
IsBlockOf (request.PowerOn period) found block = block ≡ no_block
IsBlockOf request.TestStep found block = block ≡ no_block
IsBlockOf request.RequestTests found block = block ≡ no_block
IsBlockOf request.ShowStatus found block = (tests_passed : ℕ) × (block ≡ status_block found tests_passed)
IsBlockOf request.ShowVersion found block = block ≡ version_block
IsBlockOf (request.SelectRole role) found block = block ≡ no_block
IsBlockOf request.Reset found block = block ≡ no_block
IsBlockOf (request.EntryBegin slot header long) found block = block ≡ no_block
IsBlockOf (request.EntryBytes piece) found block = block ≡ no_block
IsBlockOf (request.EntryCommit check) found block = block ≡ no_block
IsBlockOf request.EntryAbort found block = block ≡ no_block
IsBlockOf (request.Zeroise slot) found block = block ≡ no_block
IsBlockOf request.ZeroiseAll found block = block ≡ no_block
IsBlockOf (request.ShowSlot slot) found block = IsSlotBlock block
IsBlockOf (request.ZeroiseTree slot) found block = block ≡ no_block
IsBlockOf (request.Cryptographic what) found block = block ≡ no_block

abbrev pub HasBlock : RequestValue → PublicState → ReplyHead → Type 0
HasBlock requested found reply = ByDone (is_ok reply.status) (IsBlockOf requested found reply.block) (reply.block ≡ no_block)

-- a command that is refused at once: nothing changes but the expected number, and only a command out of its order is told something
pub record IsRefusedAtOnce (reason : Status) (before : PublicState) (command : CommandFrame) (reply : ReplyHead) (after : PublicState) : Type 0 where
  pub status : reply.status ≡ reason
  pub unchanged : after ≡ found_by command before
  pub payload : reply.length ≡ 0
  pub indicator : reply.approved ≡ false
  pub block : reply.block ≡ (if is_in_order command.sequence before.next_sequence then no_block else sequence_block before)

-- a request that is begun: its answer, and what becomes of the public state that it finds
pub record IsAnswered (requested : RequestValue) (found : PublicState) (reply : ReplyHead) (after : PublicState) : Type 0 where
  pub status : may_answer (service_for requested) reply.status ≡ true
  pub begun : is_status_among refusals_at_once reply.status ≡ false
  pub failure : IsFailure requested found reply.status after
  pub effect : is_status_among failures reply.status ≡ false → after ≡ left_by requested (is_ok reply.status) found
  pub payload : HasPayload requested reply
  pub indicator : IsIndicated requested reply
  pub block : HasBlock requested found reply

-- A lawful step. The reply is the command's, and tells the state and the error code after it.
pub record IsLawfulStep (before : PublicState) (command : CommandFrame) (reply : ReplyHead) (after : PublicState) : Type 0 where
  pub service : reply.service ≡ command.service
  pub sequence : reply.sequence ≡ command.sequence
  pub state : reply.state ≡ after.state
  pub code : reply.code ≡ after.error_code
  pub error : KeepsCode before command after
  pub answer : MatchResult (begun before command)
      (λ requested. IsAnswered requested (found_by command before) reply after)
      (λ reason. IsRefusedAtOnce reason before command reply after)
