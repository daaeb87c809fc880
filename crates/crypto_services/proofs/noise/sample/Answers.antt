use Rattle.outside.proofs.Explanations.{explained_by}
use Rattle.crypto_services.proofs.noise.sample.Goals as goal

pub returns-in-Err-clause-sampled : goal.returns-in-Err-clause-sampled
returns-in-Err-clause-sampled g c =
    explained_by _ _ c.in-Err.ensures.taken (λ events left fails samples counts. (c.in-Err.failure, c.code.ensures, fails samples counts))
