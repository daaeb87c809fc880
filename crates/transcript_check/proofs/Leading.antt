-- Where a command with its reply leads.
use Rattle.std.proofs.Common.{◌≡◌, Bool, true, false, Option, Some, None, refl, sym, subst, ◌∙◌}
use Rattle.std.specs.Prelude.{IsTrue, Result, Ok, Err, MatchResult}
use Rattle.std.specs.Bool.{then_some}
use Rattle.service_table.specs.Services.{is_permitted}
use Rattle.service_table.specs.declared.status.Status.{Status}
use Rattle.module_frames.specs.CommandFrames.{CommandFrame}
use Rattle.module_frames.specs.LawfulSteps.{IsAnswered, IsRefusedAtOnce, KeepsCode, begun, found_by}
use Rattle.module_frames.specs.Requests.{RequestValue, IsInRange, service_for}
use Rattle.module_frames.specs.declared.head.ReplyHead.{ReplyHead}
use Rattle.module_frames.specs.declared.public_state.PublicState.{PublicState}
use Rattle.transcript_check.specs.Counting.{IsCountable}
use Rattle.transcript_check.specs.Effects.{IsReplied, AnswersAt, RepliesAt, LeadsAt, Tells}
use Rattle.transcript_check.proofs.Countable.{found_countable, leaves_countable}
use Rattle.transcript_check.proofs.Successors.{answered_leaves, replied_one}

-- the answer to what a command begins with
abbrev Answer : PublicState → CommandFrame → ReplyHead → PublicState → Result RequestValue Status → Type 0
Answer before command reply after beginning = MatchResult beginning (λ requested. IsAnswered requested (found_by command before) reply after) (λ reason. IsRefusedAtOnce reason before command reply after)

-- a command that is begun, by what its request is answered
pub begun_at : (before : PublicState) (command : CommandFrame) (reply : ReplyHead) (requested : RequestValue) (found : PublicState) (answer : Option PublicState)
    → begun before command ≡ Ok requested → IsInRange requested → is_permitted (service_for requested) found.state ≡ true → IsCountable found → found ≡ found_by command before
    → AnswersAt requested found reply answer → RepliesAt before command reply answer
begun_at before command reply requested found None begins range allowed counts finds never = λ after replied code.
    let here : Answer before command reply after (Ok requested) = subst (Answer before command reply after) begins replied in
    never after (subst (λ (f : PublicState). IsAnswered requested f reply after) (sym finds) here) code
begun_at before command reply requested found (Some after) begins range allowed counts finds answers =
    let here : Answer before command reply after (Ok requested) = subst (λ (f : PublicState). IsAnswered requested f reply after) finds answers.0 in
    let replied : IsReplied before command reply after = subst (Answer before command reply after) (sym begins) here in (
      replied,
      leaves_countable requested found reply.status after counts range allowed (answered_leaves requested found reply after answers.0),
      λ other another code. replied_one before command reply reply other after another replied refl (sym code ∙ answers.1),
    )

-- a command that is refused at once
pub refused_at : (before : PublicState) (command : CommandFrame) (reply : ReplyHead) (reason : Status) (found : PublicState) (refused : Bool) → IsCountable before
    → begun before command ≡ Err reason → found ≡ found_by command before → (IsTrue refused → IsRefusedAtOnce reason before command reply (found_by command before))
    → (IsRefusedAtOnce reason before command reply (found_by command before) → IsTrue refused) → RepliesAt before command reply (then_some refused found)
refused_at before command reply reason found true counts begins finds told back =
    let here : IsRefusedAtOnce reason before command reply found = subst (λ (p : PublicState). IsRefusedAtOnce reason before command reply p) (sym finds) (told refl) in (
      subst (Answer before command reply found) (sym begins) here,
      subst IsCountable (sym finds) (found_countable command before counts),
      λ other another code.
          let refusal : Answer before command reply other (Err reason) = subst (Answer before command reply other) begins another in
          refusal.unchanged ∙ sym finds,
    )
refused_at before command reply reason found false counts begins finds told back = λ after replied code.
    let refusal : Answer before command reply after (Err reason) = subst (Answer before command reply after) begins replied in
    let wrong : IsTrue false = back (subst (λ (p : PublicState). IsRefusedAtOnce reason before command reply p) refusal.unchanged refusal) in
    cc

-- the reply tells where the command leads, or it leads nowhere
pub leads_when : (before : PublicState) (command : CommandFrame) (reply : ReplyHead) (after : PublicState) (told : Bool)
    → IsReplied before command reply after → IsCountable after → ((other : PublicState) → IsReplied before command reply other → reply.code ≡ other.error_code → other ≡ after)
    → (IsTrue told → Tells command reply after × KeepsCode before command after) → (Tells command reply after × KeepsCode before command after → IsTrue told)
    → LeadsAt before (record { command = command; reply = reply }) (then_some told after)
leads_when before command reply after true replied counts only tells back =
    let both = tells refl in
    (record { service = both.0.service; sequence = both.0.sequence; state = both.0.state; code = both.0.code; error = both.1; answer = replied }, counts)
leads_when before command reply after false replied counts only tells back = λ lawful.
    let same = only lawful.0 lawful.1.answer lawful.1.code in
    let other : Tells command reply lawful.0 = record { service = lawful.1.service; sequence = lawful.1.sequence; state = lawful.1.state; code = lawful.1.code } in
    let here = subst (λ (p : PublicState). Tells command reply p) same other in
    let keeps = subst (λ (p : PublicState). KeepsCode before command p) same lawful.1.error in
    let wrong : IsTrue false = back (here, keeps) in
    cc

-- a command with no answer leads nowhere
pub leads_nowhere : (before : PublicState) (command : CommandFrame) (reply : ReplyHead) → ((after : PublicState) → IsReplied before command reply after → reply.code ≡ after.error_code → ⊥)
    → LeadsAt before (record { command = command; reply = reply }) None
leads_nowhere before command reply never = λ lawful. never lawful.0 lawful.1.answer lawful.1.code
