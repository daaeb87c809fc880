use Rattle.std.proofs.Common.{refl}
use Rattle.outside.proofs.Explanations.{explained_by}
use Rattle.crypto_services.specs.Drawing.{random_result}
use Rattle.crypto_services.proofs.DrawServed.{draw_failed, draw_settled}
use Rattle.crypto_services.proofs.random_bytes.random.Goals as goal

pub returns-in-Ok-clause-serves : goal.returns-in-Ok-clause-serves
returns-in-Ok-clause-serves g c =
    explained_by _ _ c.in-Ok.ensures.drawn
    (λ events left drawn samples counts.
    let one = drawn samples counts in
    draw_settled _ _ random_result c.args.parts.now _ c.put_draw.new.port.outbox.now.bytes c.with_indicator.result _ left one.0 one.1
    (record {
      leaves = record { engine = refl; vault = refl; generator = refl; health = refl };
      same_outcome = c.with_indicator.ensures;
      same_payload = refl;
    }))

pub returns-in-Err-clause-serves : goal.returns-in-Err-clause-serves
returns-in-Err-clause-serves g c =
    explained_by _ _ c.in-Err.ensures.drawn
    (λ events left drawn samples counts.
    draw_failed _ _ random_result c.args.parts.now _ c.in-Err.failure c.noise_failed.result _ left (drawn samples counts).0 refl c.noise_failed.ensures c.in-Err.ensures.refused)
