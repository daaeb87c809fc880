use Rattle.std.proofs.Common.{◌∙◌}
use Rattle.aes_core.proofs.UnderKey.{cipher_under_key}
use Rattle.aes_core.proofs.schedule.Schedule.encrypt.Goals as goal

pub returns : goal.returns
returns c = λ key is. c.enciphered.ensures ∙ cipher_under_key c.self.inside.words c.self.inside.rounds key c.args.block.now (c.self.view_is ∙ is.whole)
