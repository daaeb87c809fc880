-- A public state has one successor, by the command, the status and the error code.
use Rattle.std.proofs.Common.{◌≡◌, ℕ, true, false, Option, Some, None, refl, sym, ap, subst, ◌∙◌, if◌then◌else◌}
use Rattle.std.specs.Prelude.{◌==◌, Result, Ok, Err, MatchResult}
use Rattle.service_table.specs.Answers.{is_status_among}
use Rattle.service_table.specs.Failures.{failure_code}
use Rattle.service_table.specs.declared.failure.Failure.{Failure}
use Rattle.service_table.specs.declared.failure.Failure.TheVariants as failure
use Rattle.service_table.specs.declared.status.Status.{Status}
use Rattle.service_table.specs.declared.status.Status.TheVariants as status
use Rattle.module_frames.specs.CommandFrames.{CommandFrame}
use Rattle.module_frames.specs.LawfulSteps.{IsAnswered, IsRefusedAtOnce, IsLawfulStep, begun, found_by, counted, failures, is_of_noise}
use Rattle.module_frames.specs.PublicEffects.{has_failed}
use Rattle.module_frames.specs.Requests.{RequestValue}
use Rattle.module_frames.specs.declared.head.ReplyHead.{ReplyHead}
use Rattle.module_frames.specs.declared.public_state.PublicState.{PublicState}
use Rattle.transcript_check.specs.Effects.{Leaves, IsReplied}

-- the failure of the noise that has a code
noise_coded : ℕ → Option Failure
noise_coded code =
    if code == 0x0300 then Some failure.NoiseEnded
    else if code == 0x0400 then Some failure.NoiseFailed
    else if code == 0x0500 then Some failure.Repetition
    else if code == 0x0600 then Some failure.Proportion
    else None

noise_by_code : (reason : Failure) → is_of_noise reason ≡ true → noise_coded (failure_code reason) ≡ Some reason
unfolding noise_coded
noise_by_code (failure.KnownAnswer test) is = cc
noise_by_code failure.Integrity is = cc
noise_by_code failure.NoiseEnded is = refl
noise_by_code failure.NoiseFailed is = refl
noise_by_code failure.Repetition is = refl
noise_by_code failure.Proportion is = refl

pub same_reason : (one two : Failure) → Some one ≡ Some two → one ≡ two
same_reason one two e = cc

pub same_noise : (one two : Failure) → is_of_noise one ≡ true → is_of_noise two ≡ true → failure_code one ≡ failure_code two → one ≡ two
same_noise one two first second codes = same_reason one two (sym (noise_by_code one first) ∙ ap noise_coded codes ∙ noise_by_code two second)

-- what a request leaves with a status and an error code
pub leaves_one : (requested : RequestValue) (found : PublicState) (outcome : Status) (one two : PublicState) → Leaves requested found outcome one → Leaves requested found outcome two
    → one.error_code ≡ two.error_code → one ≡ two
leaves_one requested found outcome one two first second codes = by_status outcome refl
  where
    before : PublicState
    before = counted requested found

    failed : (reason other : Failure) → one ≡ has_failed reason before → two ≡ has_failed other before → reason ≡ other → one ≡ two
    failed reason other is was same = is ∙ ap (λ (r : Failure). has_failed r before) same ∙ sym was

    code_of : (reason : Failure) (after : PublicState) → after ≡ has_failed reason before → after.error_code ≡ failure_code reason
    code_of reason after is = ap (λ (p : PublicState). p.error_code) is

    settled : is_status_among failures outcome ≡ false → one ≡ two
    settled fine = first.effect fine ∙ sym (second.effect fine)

    by_status : (answer : Status) → outcome ≡ answer → one ≡ two
    by_status status.TestFailed e =
        let test = first.failure.test e in
        let other = second.failure.test e in
        failed test.0 other.0 test.2 other.2 (same_reason test.0 other.0 (sym test.1 ∙ other.1))
    by_status status.NoiseFault e =
        let noise = first.failure.noise e in
        let other = second.failure.noise e in
        failed noise.0 other.0 noise.2 other.2
        (same_noise noise.0 other.0 noise.1 other.1 (sym (code_of noise.0 one noise.2) ∙ codes ∙ code_of other.0 two other.2))
    by_status status.Ok e = settled (ap (is_status_among failures) e)
    by_status status.UnknownService e = settled (ap (is_status_among failures) e)
    by_status status.NotInState e = settled (ap (is_status_among failures) e)
    by_status status.BadBody e = settled (ap (is_status_among failures) e)
    by_status status.EmptySlot e = settled (ap (is_status_among failures) e)
    by_status status.WrongKind e = settled (ap (is_status_among failures) e)
    by_status status.WrongDomain e = settled (ap (is_status_among failures) e)
    by_status status.Spent e = settled (ap (is_status_among failures) e)
    by_status status.OccupiedSlot e = settled (ap (is_status_among failures) e)
    by_status status.NotExportable e = settled (ap (is_status_among failures) e)
    by_status status.BadLength e = settled (ap (is_status_among failures) e)
    by_status status.CheckFailed e = settled (ap (is_status_among failures) e)
    by_status status.AuthFailed e = settled (ap (is_status_among failures) e)
    by_status status.UnwrapFailed e = settled (ap (is_status_among failures) e)
    by_status status.OutOfOrder e = settled (ap (is_status_among failures) e)

pub answered_leaves : (requested : RequestValue) (found : PublicState) (reply : ReplyHead) (after : PublicState) → IsAnswered requested found reply after → Leaves requested found reply.status after
answered_leaves requested found reply after answer = record { failure = answer.failure; effect = answer.effect }

-- where a command leads, by the status and the error code of its reply
pub replied_one : (before : PublicState) (command : CommandFrame) (reply other : ReplyHead) (one two : PublicState) → IsReplied before command reply one → IsReplied before command other two
    → other.status ≡ reply.status → one.error_code ≡ two.error_code → one ≡ two
replied_one before command reply other one two first second same codes = by_beginning (begun before command) first second
  where
    by_beginning : (beginning : Result RequestValue Status)
        → MatchResult beginning (λ requested. IsAnswered requested (found_by command before) reply one) (λ reason. IsRefusedAtOnce reason before command reply one)
        → MatchResult beginning (λ requested. IsAnswered requested (found_by command before) other two) (λ reason. IsRefusedAtOnce reason before command other two)
        → one ≡ two
    by_beginning (Ok requested) first second =
        let found = found_by command before in
        let left : Leaves requested found reply.status two = subst (λ (s : Status). Leaves requested found s two) same (answered_leaves requested found other two second) in
        leaves_one requested found reply.status one two (answered_leaves requested found reply one first) left codes
    by_beginning (Err reason) first second = first.unchanged ∙ sym second.unchanged

-- where a lawful step leads
pub steps_one : (before : PublicState) (command : CommandFrame) (reply other : ReplyHead) (one two : PublicState) → IsLawfulStep before command reply one → IsLawfulStep before command other two
    → other.status ≡ reply.status → other.code ≡ reply.code → one ≡ two
steps_one before command reply other one two first second same codes =
    replied_one before command reply other one two first.answer second.answer same (sym first.code ∙ sym codes ∙ second.code)
