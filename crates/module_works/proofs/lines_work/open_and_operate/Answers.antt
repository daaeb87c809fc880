use Rattle.std.proofs.Common.{◌≡◌, ℕ, ap, subst, length, ◌∙◌}
use Rattle.std.proofs.lemmas.List.{length-replicate}
use Rattle.outside.specs.Explained.{Explained}
use Rattle.outside.proofs.Explanations.{explained_by}
use Rattle.state_model.specs.MachineState.{initial_state}
use Rattle.line_serving.specs.Operating.{Operates}
use Rattle.module_works.proofs.lines_work.open_and_operate.Goals as goal

pub returns-clause-served : goal.returns-clause-served
returns-clause-served g c =
    let long : length c.deref_mut.result.now ≡ 65536 = ap length c.deref_mut.ensures.value ∙ ap length (c.in_ok-chunk.ensures.items_if_clones_equal (λ y h. h)) ∙ length-replicate {A = ℕ} 65536 0 in
    let s = initial_state c.args.engine c.args.image.items c.args.digest in
    let By : ℕ → Type 0 = λ n. Explained (g.N.Noise.left c.args.noise.now) (g.N.Noise.left c.operate-answer.new.noise) (Operates g.E.Engine.calls c.operate-answer.result n s c.operate-answer.new.module
    (record { left = g.S.Source.left c.args.commands.now; gained = g.K.Sink.gained c.args.replies.now })
    (record { left = g.S.Source.left c.operate-answer.new.lines; gained = g.K.Sink.gained c.operate-answer.new.replies })) in
    (c.operate-answer.new.module, subst By long (explained_by _ _ c.operate-answer.ensures.served (λ events left operates. operates s c.in_ok-module.ensures.represents)))
