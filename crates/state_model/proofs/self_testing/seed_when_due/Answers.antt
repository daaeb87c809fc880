use Rattle.std.proofs.Common.{refl, sym, ◌∙◌}
use Rattle.outside.proofs.Explanations.{explained_by}
use Rattle.state_model.proofs.Seeding.{seed_taken, seed_failed}
use Rattle.state_model.proofs.self_testing.seed_when_due.Goals as goal

pub returns-in-Ok-clause-seeded : goal.returns-in-Ok-clause-seeded
returns-in-Ok-clause-seeded g c =
    explained_by _ _ c.in-Ok.ensures.seeded
    (λ events left drawn samples counts. seed_taken g.E.Engine.calls _ _ _ _ _ samples events left c.args.judged _ (sym c.is_seed_due.ensures ∙ c.if-not-is_seed_due.false) (drawn samples counts))

pub returns-in-Err-clause-seeded : goal.returns-in-Err-clause-seeded
returns-in-Err-clause-seeded g c =
    explained_by _ _ c.in-Err.ensures.seeded
    (λ events left drawn samples counts. seed_failed g.E.Engine.calls _ _ _ _ _ samples events left c.args.judged _ c.in-Err.failure _ (sym c.is_seed_due.ensures ∙ c.if-not-is_seed_due.false) (rw c.has_failed.ensures refl) (drawn samples counts))
