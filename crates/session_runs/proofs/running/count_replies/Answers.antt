use Rattle.std.proofs.Common.{◌+◌, ◌∷◌, ◌++◌, [], ℕ, refl, ap, sym, ◌∙◌}
use Rattle.std.proofs.lemmas.List.{length_push}
use Rattle.outside.proofs.Explanations.{explained_none, explained_both}
use Rattle.module_frames.specs.Replies.{frame_of}
use Rattle.session_runs.proofs.CommandSteps.{answers_none, answers_more, given_more}
use Rattle.session_runs.proofs.running.count_replies.Goals as goal

pub loop-module-init : goal.loop-module-init
loop-module-init g c = ([], [], refl, refl, c.new-tally.ensures, explained_none _ _ (λ events. answers_none g.E.Engine.calls c.args.module.now events))

pub loop-module-preserved : goal.loop-module-preserved
loop-module-preserved g c =
    let (done, replies, whole, long, is, answers) = c.loop-module.invariant in
    let command = c.next.new.into in
    let reply = c.command.new.reply in (
      done ++ command ∷ [],
      replies ++ frame_of reply ∷ [],
      given_more c.args.session.now done c.loop-module.session c.next.new.self c.next.result command c.next.ensures c.loop-module-test.true whole,
      length_push replies (frame_of reply) ∙ ap (λ (n : ℕ). n + 1) long ∙ sym (length_push done command),
      c.count.ensures replies is,
      explained_both _ _ _ answers c.command.ensures.step (λ events mid left first second.
          answers_more g.E.Engine.calls c.args.module.now c.loop-module.module c.command.new.self done replies command reply events mid left first second),
    )
