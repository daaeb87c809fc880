use Rattle.std.proofs.Common.{◌≡◌, ℕ, ap, subst, length, ◌∙◌}
use Rattle.std.proofs.lemmas.List.{length-replicate}
use Rattle.outside.specs.Explained.{Explained}
use Rattle.outside.proofs.Explanations.{explained_by}
use Rattle.state_model.specs.MachineState.{initial_state}
use Rattle.backup_runs.specs.Restoring.{RestoresAndOperates}
use Rattle.module_works.proofs.restore_work.open_and_restore.Goals as goal

pub returns-clause-restored : goal.returns-clause-restored
returns-clause-restored g c =
    let long : length c.deref_mut.result.now ≡ 65536 = ap length c.deref_mut.ensures.value ∙ ap length (c.in_ok-chunk.ensures.items_if_clones_equal (λ y h. h)) ∙ length-replicate {A = ℕ} 65536 0 in
    let s = initial_state c.args.engine c.args.image.items c.args.digest in
    let By : ℕ → Type 0 = λ n. Explained (g.N.Noise.left c.args.noise.now) (g.N.Noise.left c.restore_and_operate-answer.new.noise)
    (RestoresAndOperates g.E.Engine.calls c.restore_and_operate-answer.result n c.args.keys.now c.args.backup.now s c.restore_and_operate-answer.new.module
    (record { left = g.S.Source.left c.args.lines.now; gained = g.K.Sink.gained c.args.replies.now })
    (record { left = g.S.Source.left c.restore_and_operate-answer.new.lines; gained = g.K.Sink.gained c.restore_and_operate-answer.new.replies })) in
    (c.restore_and_operate-answer.new.module, subst By long (explained_by _ _ c.restore_and_operate-answer.ensures.restored (λ events left restores. restores s c.in_ok-module.ensures.represents)))
