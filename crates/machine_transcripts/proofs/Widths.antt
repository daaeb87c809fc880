-- Each field of a reply that a lawful step gives has its width.
use Rattle.std.proofs.Common.{◌≡◌, ◌≢◌, ◌≤◌, ◌<◌, ◌^◌, ℕ, List, Bool, true, false, Option, Some, None, Result, Err, length, refl, ap, ◌∙◌, arith, if◌then◌else◌}
use Rattle.std.specs.Prelude.{IfSome, IsTrue, MatchResult, MatchOption}
use Rattle.std.proofs.lemmas.Bool.Decides.{nat_tests}
use Rattle.bits_core.specs.declared.algorithm.Alg.TheVariants.{Sha256, Sha384, Sha512}
use Rattle.bits_core.specs.declared.algorithm.Alg.{Alg}
use Rattle.bits_core.specs.declared.limits.TheConstants.{LARGEST_PAYLOAD}
use Rattle.bits_core.specs.declared.parameter.Header.{Header}
use Rattle.bits_core.specs.Algorithms.{alg_size}
use Rattle.bits_core.specs.Parameters.{length_fits}
use Rattle.service_table.specs.declared.failure.Failure.{Failure}
use Rattle.service_table.specs.declared.failure.Failure.TheVariants as failure
use Rattle.service_table.specs.declared.service.Service.{Service}
use Rattle.service_table.specs.declared.state.State.{State}
use Rattle.service_table.specs.declared.state.State.TheVariants as state
use Rattle.service_table.specs.declared.status.Status.{Status}
use Rattle.service_table.specs.declared.status.Status.TheVariants as status
use Rattle.service_table.specs.Failures.{failure_code}
use Rattle.service_table.specs.Numbers.{service_numbered}
use Rattle.service_table.specs.Services.{is_permitted}
use Rattle.module_frames.specs.CommandFrames.{CommandFrame}
use Rattle.module_frames.specs.LawfulSteps.{IsLawfulStep, IsAnswered, IsRefusedAtOnce, IsBlockOf, IsPayloadOf, IsPayloadLength, ByDone, is_ok, begun_by, begun_with, found_by}
use Rattle.module_frames.specs.PublicState.{no_block, sequence_block, header_block}
use Rattle.module_frames.specs.Requests.{RequestValue, CryptographicRequest, IsInRange, IsCryptographicInRange, request_of}
use Rattle.module_frames.specs.Requests as request
use Rattle.module_frames.specs.Sequencing.{is_in_order}
use Rattle.module_frames.specs.WrappingBodies.{is_wrapped_length}
use Rattle.module_frames.specs.declared.head.ReplyHead.{ReplyHead}
use Rattle.module_frames.specs.declared.public_state.PublicState.{PublicState}
use Rattle.state_model.specs.MachineState.{IsPublicState, IsFailure}
use Rattle.state_model.proofs.RequestReading.{IsRead, request_read}

-- the code of each failure has 16 bits
failure_fits : (reason : Failure) → IsFailure reason → failure_code reason < 2 ^ 16
failure_fits (failure.KnownAnswer test) is = omega (arith, is.1)
failure_fits failure.Integrity is = omega arith
failure_fits failure.NoiseEnded is = omega arith
failure_fits failure.NoiseFailed is = omega arith
failure_fits failure.Repetition is = omega arith
failure_fits failure.Proportion is = omega arith

-- so has the error code of each public state
pub code_fits : (public : PublicState) → IsPublicState public → public.error_code < 2 ^ 16
code_fits public rules = by_state public.state refl
  where
    faultless : public.state ≢ state.Error → public.error_code < 2 ^ 16
    faultless other = omega (arith, rules.faultless other)

    by_state : (at : State) → public.state ≡ at → public.error_code < 2 ^ 16
    by_state state.Off is = faultless (λ e. cc)
    by_state state.Init is = faultless (λ e. cc)
    by_state state.SelfTest is = faultless (λ e. cc)
    by_state state.Approved is = faultless (λ e. cc)
    by_state state.Officer is = faultless (λ e. cc)
    by_state state.User is = faultless (λ e. cc)
    by_state state.Entry is = faultless (λ e. cc)
    by_state state.Error is = (let failed = rules.failed is in omega (arith, failed.2, failure_fits failed.0 failed.1))

slot_block_long : (header : Option Header) (long : ℕ) (block : List ℕ)
    → MatchOption header (block ≡ no_block) (λ h. IsTrue (length_fits h.kind h.domain long) × (block ≡ header_block long h)) → length block ≡ 12
slot_block_long None long block is = ap length is
slot_block_long (Some header) long block is = ap length is.1

-- each block has twelve bytes
block_long : (what : RequestValue) (found : PublicState) (block : List ℕ) → IsBlockOf what found block → length block ≡ 12
block_long (request.PowerOn period) found block is = ap length is
block_long request.TestStep found block is = ap length is
block_long request.RequestTests found block is = ap length is
block_long request.ShowStatus found block is = ap length is.1
block_long request.ShowVersion found block is = ap length is
block_long (request.SelectRole role) found block is = ap length is
block_long request.Reset found block is = ap length is
block_long (request.EntryBegin slot header long) found block is = ap length is
block_long (request.EntryBytes piece) found block is = ap length is
block_long (request.EntryCommit check) found block is = ap length is
block_long request.EntryAbort found block is = ap length is
block_long (request.Zeroise slot) found block is = ap length is
block_long request.ZeroiseAll found block is = ap length is
block_long (request.ShowSlot slot) found block is = slot_block_long is.0 is.1 block is.2
block_long (request.ZeroiseTree slot) found block is = ap length is
block_long (request.Cryptographic what) found block is = ap length is

alg_small : (alg : Alg) → alg_size alg ≤ 64
alg_small Sha256 = omega arith
alg_small Sha384 = omega arith
alg_small Sha512 = omega arith

wrapped_small : (pad : Bool) (n : ℕ) → is_wrapped_length pad n ≡ true → n ≤ 72
wrapped_small false n is = grind (arith, nat_tests)
wrapped_small true n is = grind (arith, nat_tests)

-- each payload is of a length that a reply may have
cryptographic_fits : (what : CryptographicRequest) (n : ℕ) → IsCryptographicInRange what → IsPayloadOf what n → n ≤ LARGEST_PAYLOAD
cryptographic_fits (request.Hash alg text) n range is = omega (arith, is, alg_small alg)
cryptographic_fits (request.Mac slot alg mac_length text) n range is = omega (arith, is, range.2, alg_small alg)
cryptographic_fits (request.MacVerify slot alg tag text) n range is = omega (arith, is)
cryptographic_fits (request.Seal slot tag_length aad text) n range is = omega (arith, is, range.5)
cryptographic_fits (request.SealIv slot tag_length iv aad text) n range is = omega (arith, is, range.7)
cryptographic_fits (request.Open slot iv aad text tag) n range is = omega (arith, is, range.6)
cryptographic_fits (request.Wrap pad kek second) n range is = omega (arith, wrapped_small pad n is)
cryptographic_fits (request.Unwrap pad kek target kind export uses wrapped) n range is = omega (arith, is)
cryptographic_fits (request.Derive source target kind export uses long label context) n range is = omega (arith, is)
cryptographic_fits (request.Random long additional) n range is = omega (arith, is, range.1)
cryptographic_fits (request.Generate target header long) n range is = omega (arith, is)
cryptographic_fits (request.Reseed additional) n range is = omega (arith, is)

none_fits : (n : ℕ) → n ≡ 0 → n ≤ LARGEST_PAYLOAD
none_fits n is = omega (arith, is)

payload_fits : (what : RequestValue) (n : ℕ) → IsInRange what → IsPayloadLength what n → n ≤ LARGEST_PAYLOAD
payload_fits (request.PowerOn period) n range is = none_fits n is
payload_fits request.TestStep n range is = none_fits n is
payload_fits request.RequestTests n range is = none_fits n is
payload_fits request.ShowStatus n range is = none_fits n is
payload_fits request.ShowVersion n range is = none_fits n is
payload_fits (request.SelectRole role) n range is = none_fits n is
payload_fits request.Reset n range is = none_fits n is
payload_fits (request.EntryBegin slot header long) n range is = none_fits n is
payload_fits (request.EntryBytes piece) n range is = none_fits n is
payload_fits (request.EntryCommit check) n range is = none_fits n is
payload_fits request.EntryAbort n range is = none_fits n is
payload_fits (request.Zeroise slot) n range is = none_fits n is
payload_fits request.ZeroiseAll n range is = none_fits n is
payload_fits (request.ShowSlot slot) n range is = none_fits n is
payload_fits (request.ZeroiseTree slot) n range is = none_fits n is
payload_fits (request.Cryptographic what) n range is = cryptographic_fits what n range is

-- block and payload of a reply have their widths
pub record Fits (reply : ReplyHead) : Type 0 where
  pub block : length reply.block ≡ 12
  pub payload : reply.length ≤ LARGEST_PAYLOAD

by_done : (done : Bool) (A B C : Type 0) → (A → C) → (B → C) → ByDone done A B → C
by_done true A B C one other is = one is
by_done false A B C one other is = other is

answered_fits : (what : RequestValue) (found after : PublicState) (reply : ReplyHead) → IsInRange what → IsAnswered what found reply after → Fits reply
answered_fits what found after reply range is = record {
  block = by_done (is_ok reply.status) (IsBlockOf what found reply.block) (reply.block ≡ no_block) (length reply.block ≡ 12) (block_long what found reply.block) (λ none. ap length none) is.block;
  payload = by_done (is_ok reply.status) (IsPayloadLength what reply.length) (reply.length ≡ 0) (reply.length ≤ LARGEST_PAYLOAD) (payload_fits what reply.length range) (none_fits reply.length) is.payload;
}

refused_fits : (reason : Status) (before after : PublicState) (command : CommandFrame) (reply : ReplyHead) → IsRefusedAtOnce reason before command reply after → Fits reply
refused_fits reason before after command reply is = record { block = ap length is.block ∙ either_long (is_in_order command.sequence before.next_sequence); payload = none_fits reply.length is.payload }
  where
    either_long : (in_order : Bool) → length (if in_order then no_block else sequence_block before) ≡ 12
    either_long true = refl
    either_long false = refl

-- the reply of a lawful step
pub step_fits : (before after : PublicState) (command : CommandFrame) (reply : ReplyHead) → IsLawfulStep before command reply after → Fits reply
step_fits before after command reply step = by_order (is_in_order command.sequence before.next_sequence) step.answer
  where
    IsMet : Result RequestValue Status → Type 0
    IsMet how = MatchResult how (λ requested. IsAnswered requested (found_by command before) reply after) (λ reason. IsRefusedAtOnce reason before command reply after)

    refused : (reason : Status) → IsRefusedAtOnce reason before command reply after → Fits reply
    refused reason is = refused_fits reason before after command reply is

    read_fits : (found : Service) (read : Option RequestValue) → IfSome read (IsRead found command.body) → IsMet (begun_with read) → Fits reply
    read_fits found None is_read is = refused status.BadBody is
    read_fits found (Some what) is_read is = answered_fits what (found_by command before) after reply is_read.0 is

    permitted_fits : (found : Service) (allowed : Bool) → IsMet (if allowed then begun_with (request_of found command.body) else Err status.NotInState) → Fits reply
    permitted_fits found true is = read_fits found (request_of found command.body) (request_read found command.body) is
    permitted_fits found false is = refused status.NotInState is

    service_fits : (numbered : Option Service) → IsMet (begun_by numbered before.state command.body) → Fits reply
    service_fits None is = refused status.UnknownService is
    service_fits (Some found) is = permitted_fits found (is_permitted found before.state) is

    by_order : (in_order : Bool) → IsMet (if in_order then begun_by (service_numbered command.service) before.state command.body else Err status.OutOfOrder) → Fits reply
    by_order true is = service_fits (service_numbered command.service) is
    by_order false is = refused status.OutOfOrder is
