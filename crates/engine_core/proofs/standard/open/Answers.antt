use Rattle.engine_core.proofs.Decrypted.{decrypted}
use Rattle.engine_core.proofs.standard.open.Goals as goal

pub returns-clause-text : goal.returns-clause-text
returns-clause-text c = λ key is.
    decrypted key c.args.iv.now c.args.aad.now c.args.text.now c.args.tag.now c.open.new.text c.open.result
    (c.open.ensures.answer key is) (c.open.ensures.decrypted key is) c.open.ensures.refused
