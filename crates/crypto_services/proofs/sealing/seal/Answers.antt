use Rattle.outside.proofs.Explanations.{explained_by}
use Rattle.crypto_services.specs.Sealing.{seal_result}
use Rattle.crypto_services.proofs.DrawServed.{draw_failed, draw_served}
use Rattle.crypto_services.proofs.sealing.seal.Goals as goal

pub returns-in-Ok-clause-serves : goal.returns-in-Ok-clause-serves
returns-in-Ok-clause-serves g c =
    explained_by _ _ c.in-Ok.ensures.drawn
    (λ events left is samples counts. draw_served _ _ (seal_result g.E.Engine.calls c.args.slot c.args.tag_length c.args.aad.now c.args.text.now) c.args.parts.now c.draw_iv.new.parts c.sealed.new.parts _ _ _ left
    (is samples counts).0 (is samples counts).1 c.in-Ok.ensures.vault c.sealed.ensures.serves)

pub returns-in-Err-clause-serves : goal.returns-in-Err-clause-serves
returns-in-Err-clause-serves g c =
    explained_by _ _ c.in-Err.ensures.drawn
    (λ events left is samples counts. draw_failed _ _ (seal_result g.E.Engine.calls c.args.slot c.args.tag_length c.args.aad.now c.args.text.now) c.args.parts.now c.draw_iv.new.parts c.in-Err.failure _ _ left
    (is samples counts).0 c.in-Err.ensures.vault c.noise_failed.ensures c.requires.empty)
