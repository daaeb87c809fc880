use Rattle.std.proofs.Common.{◌∙◌}
use Rattle.aes_core.proofs.UnderKey.{inverse_cipher_under_key}
use Rattle.aes_core.proofs.schedule.Schedule.decrypt.Goals as goal

pub returns : goal.returns
returns c = λ key is. c.deciphered.ensures ∙ inverse_cipher_under_key c.self.inside.words c.self.inside.rounds key c.args.block.now (c.self.view_is ∙ is.whole)
