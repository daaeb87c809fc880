use Rattle.std.proofs.Common.{Bool, sym, ap, ◌∙◌}
use Rattle.module_frames.specs.LawfulSteps.{left_by}
use Rattle.module_frames.specs.PublicEffects.{has_failed}
use Rattle.module_frames.specs.Requests.{request_value}
use Rattle.module_frames.specs.declared.public_state.PublicState.{PublicState}
use Rattle.transcript_check.proofs.Leaving.{left_when, after_test, after_noise, after_none}
use Rattle.transcript_check.proofs.effects.left_at.Goals.{in-TestFailed+in_ok-reason-in-TestFailed, in-NoiseFault+in_ok-reason-in-NoiseFault, in_default}
use Rattle.transcript_check.proofs.effects.left_at.Goals as goal

pub returns : goal.returns
returns c =
    rw c.then_some.ensures (left_when (request_value c.args.request.now) c.args.found c.args.status c.args.code c.match-status.after (elim c.match-status.branch [
      | in-TestFailed+in_ok-reason-in-TestFailed w ↦ after_test _ _ _ _ _ w.in_ok-reason-in-TestFailed.reason w.in-TestFailed.is
          (sym w.test_failure.ensures ∙ w.in_ok-reason-in-TestFailed.was)
          (w.after-is ∙ w.has_failed-after.ensures ∙ ap (λ (p : PublicState). has_failed w.in_ok-reason-in-TestFailed.reason p) w.counted.ensures)
      | in-NoiseFault+in_ok-reason-in-NoiseFault w ↦ after_noise _ _ _ _ _ w.in_ok-reason-in-NoiseFault.reason w.in-NoiseFault.is
          w.in_ok-reason-in-NoiseFault.ensures.0 w.in_ok-reason-in-NoiseFault.ensures.1 w.in_ok-reason-in-NoiseFault.ensures.2
          (w.after-is ∙ w.has_failed-after-in-NoiseFault.ensures ∙ ap (λ (p : PublicState). has_failed w.in_ok-reason-in-NoiseFault.reason p) w.counted-in-NoiseFault.ensures)
      | in_default w ↦ after_none _ _ _ _ _ w.in_default.not-TestFailed w.in_default.not-NoiseFault
          (w.after-is ∙ w.left_by-after.ensures ∙ ap (λ (done : Bool). left_by (request_value c.args.request.now) done c.args.found) w.is_ok.ensures)
    ]))
