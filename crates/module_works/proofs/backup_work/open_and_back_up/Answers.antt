use Rattle.std.proofs.Common.{◌≡◌, ℕ, ap, subst, length, ◌∙◌}
use Rattle.std.proofs.lemmas.List.{length-replicate}
use Rattle.outside.specs.Explained.{Explained}
use Rattle.outside.proofs.Explanations.{explained_by}
use Rattle.state_model.specs.MachineState.{initial_state}
use Rattle.backup_runs.specs.BackingUp.{BacksUp}
use Rattle.module_works.proofs.backup_work.open_and_back_up.Goals as goal

pub returns-clause-backed_up : goal.returns-clause-backed_up
returns-clause-backed_up g c =
    let long : length c.deref_mut.result.now ≡ 65536 = ap length c.deref_mut.ensures.value ∙ ap length (c.in_ok-chunk.ensures.items_if_clones_equal (λ y h. h)) ∙ length-replicate {A = ℕ} 65536 0 in
    let s = initial_state c.args.engine c.args.image.items c.args.digest in
    let By : ℕ → Type 0 = λ n. Explained (g.N.Noise.left c.args.noise.now) (g.N.Noise.left c.back_up-answer.new.noise) (BacksUp g.E.Engine.calls c.back_up-answer.result n c.args.keys.now s c.back_up-answer.new.module
    (record { left = g.S.Source.left c.args.lines.now; gained = g.K.Sink.gained c.args.backup.now })
    (record { left = g.S.Source.left c.back_up-answer.new.lines; gained = g.K.Sink.gained c.back_up-answer.new.backup })) in
    (c.back_up-answer.new.module, subst By long (explained_by _ _ c.back_up-answer.ensures.backed_up (λ events left backs. backs s c.in_ok-module.ensures.represents)))
