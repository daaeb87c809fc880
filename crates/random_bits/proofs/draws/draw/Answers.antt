use Rattle.outside.proofs.Explanations.{explained_by}
use Rattle.random_bits.proofs.Seeds.{drawn_ok, drawn_err}
use Rattle.random_bits.proofs.draws.draw.Goals as goal

pub returns-in-Ok-clause-drawn : goal.returns-in-Ok-clause-drawn
returns-in-Ok-clause-drawn g c =
    explained_by _ _ c.in-Ok.ensures.refreshed
    (λ events left ready samples counts. drawn_ok g.E.Engine.calls _ _ _ _ _ _ _ _ _ left (ready samples counts) c.drbg_generate.ensures.engine c.drbg_generate.ensures.drbg c.drbg_generate.ensures.bytes)

pub returns-in-Err-clause-drawn : goal.returns-in-Err-clause-drawn
returns-in-Err-clause-drawn g c =
    explained_by _ _ c.in-Err.ensures.refreshed
    (λ events left ready samples counts. (drawn_err g.E.Engine.calls _ _ _ _ c.in-Err.failure _ _ left (ready samples counts), tt))
