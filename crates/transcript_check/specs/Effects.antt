-- What a request leaves where its reply has a status and an error code.
use Rattle.std.specs.Prelude.{◌≡◌, ◌≢◌, ℕ, List, get_or, false, true, Option, MatchOption, MatchResult}
use Rattle.service_table.specs.Answers.{is_status_among}
use Rattle.service_table.specs.Failures.{failure_code}
use Rattle.service_table.specs.declared.failure.Failure.{Failure}
use Rattle.service_table.specs.declared.status.Status.{Status}
use Rattle.module_frames.specs.declared.public_state.PublicState.{PublicState}
use Rattle.module_frames.specs.RequestValues.{RequestValue, TestStep}
use Rattle.module_frames.specs.CommandFrames.{CommandFrame}
use Rattle.bits_core.specs.declared.parameter.Header.{Header}
use Rattle.module_frames.specs.PublicState.{header_block}
use Rattle.module_frames.specs.declared.head.ReplyHead.{ReplyHead}
use Rattle.module_frames.specs.LawfulSteps.{IsFailure, IsAnswered, IsRefusedAtOnce, begun, found_by, failures, is_of_noise, is_ok, left_by}
use Rattle.transcript_check.specs.Counting.{IsCountable}
use Rattle.transcript_check.specs.Transcripts.{Pair, Leads, IsLawfulFrom}

-- the failure of the noise that has this code; none where none has it
abbrev pub IsNoiseFailure : ℕ → Option Failure → Type 0
IsNoiseFailure code answer = MatchOption answer
    ((reason : Failure) → is_of_noise reason ≡ true → failure_code reason ≢ code)
    (λ reason. (is_of_noise reason ≡ true) × (failure_code reason ≡ code))

-- the same, where it may come to this request
abbrev pub IsNoiseFailureOf : RequestValue → ℕ → ℕ → Option Failure → Type 0
IsNoiseFailureOf requested tests_done code answer = MatchOption answer
    ((requested ≡ TestStep → tests_done ≡ 2) → (reason : Failure) → is_of_noise reason ≡ true → failure_code reason ≢ code)
    (λ reason. (requested ≡ TestStep → tests_done ≡ 2) × (is_of_noise reason ≡ true) × (failure_code reason ≡ code))

-- a request that is answered with this status may leave this public state
pub record Leaves (requested : RequestValue) (found : PublicState) (outcome : Status) (after : PublicState) : Type 0 where
  pub failure : IsFailure requested found outcome after
  pub effect : is_status_among failures outcome ≡ false → after ≡ left_by requested (is_ok outcome) found

-- what it leaves with this error code, or that it leaves nothing with it
abbrev pub LeavesAt : RequestValue → PublicState → Status → ℕ → Option PublicState → Type 0
LeavesAt requested found outcome code answer = MatchOption answer
    ((after : PublicState) → Leaves requested found outcome after → after.error_code ≡ code → ⊥)
    (λ after. Leaves requested found outcome after × (after.error_code ≡ code))

-- A request is answered lawfully, and the reply tells the error code: where that leads, or that it leads nowhere.
abbrev pub AnswersAt : RequestValue → PublicState → ReplyHead → Option PublicState → Type 0
AnswersAt requested found reply answer = MatchOption answer
    ((after : PublicState) → IsAnswered requested found reply after → reply.code ≡ after.error_code → ⊥)
    (λ after. IsAnswered requested found reply after × (reply.code ≡ after.error_code))

-- the reply is one that a command may have, by what it asks for or by the reason to refuse it, but for what it tells of the public state
abbrev pub IsReplied : PublicState → CommandFrame → ReplyHead → PublicState → Type 0
IsReplied before command reply after = MatchResult (begun before command)
    (λ requested. IsAnswered requested (found_by command before) reply after)
    (λ reason. IsRefusedAtOnce reason before command reply after)

-- where a command with this reply leads, and nowhere else, and a walk can go on from there; or that it leads nowhere
abbrev pub RepliesAt : PublicState → CommandFrame → ReplyHead → Option PublicState → Type 0
RepliesAt before command reply answer = MatchOption answer
    ((after : PublicState) → IsReplied before command reply after → reply.code ≡ after.error_code → ⊥)
    (λ after. IsReplied before command reply after × IsCountable after × ((other : PublicState) → IsReplied before command reply other → reply.code ≡ other.error_code → other ≡ after))

-- the reply is the command's, and tells this state and its error code
pub record Tells (command : CommandFrame) (reply : ReplyHead) (after : PublicState) : Type 0 where
  pub service : reply.service ≡ command.service
  pub sequence : reply.sequence ≡ command.sequence
  pub state : reply.state ≡ after.state
  pub code : reply.code ≡ after.error_code

-- where a pair leads by a lawful step, and a walk can go on from there; or that it leads nowhere
abbrev pub LeadsAt : PublicState → Pair → Option PublicState → Type 0
LeadsAt before pair answer = MatchOption answer (IsLawfulFrom before pair → ⊥) (λ after. Leads before pair after × IsCountable after)

-- the header that a full slot's block tells with its length, which is in the fifth byte; or that no header is told so
abbrev pub TellsHeader : List ℕ → Option Header → Type 0
TellsHeader block answer = MatchOption answer
    ((header : Header) (long : ℕ) → block ≢ header_block long header)
    (λ header. block ≡ header_block (get_or block 4 0) header)
