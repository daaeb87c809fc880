use Rattle.std.proofs.Common.{refl}
use Rattle.outside.proofs.Explanations.{explained_by}
use Rattle.crypto_services.specs.Drawing.{reseed_result}
use Rattle.crypto_services.proofs.DrawServed.{draw_failed, draw_settled}
use Rattle.crypto_services.proofs.random_bytes.reseed.Goals as goal

pub returns-in-Ok-clause-serves : goal.returns-in-Ok-clause-serves
returns-in-Ok-clause-serves g c =
    explained_by _ _ c.in-Ok.ensures.reseeded
    (λ events left drawn samples counts.
    draw_settled _ _ reseed_result c.args.parts.now _ _ c.with_indicator.result _ left (drawn samples counts) refl
    (record {
      leaves = record { engine = refl; vault = refl; generator = refl; health = refl };
      same_outcome = c.with_indicator.ensures;
      same_payload = c.requires.empty;
    }))

pub returns-in-Err-clause-serves : goal.returns-in-Err-clause-serves
returns-in-Err-clause-serves g c =
    explained_by _ _ c.in-Err.ensures.reseeded
    (λ events left drawn samples counts.
    draw_failed _ _ reseed_result c.args.parts.now _ c.in-Err.failure c.noise_failed.result _ left (drawn samples counts) refl c.noise_failed.ensures c.requires.empty)
