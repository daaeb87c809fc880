use Rattle.std.proofs.Common.{List, ℕ, ◌∙◌}
use Rattle.aes_spec.specs.Gctr.{gctr}
use Rattle.aes_core.proofs.UnderKey.{cipher_under_key}
use Rattle.aes_core.proofs.schedule.Schedule.add_stream.Goals as goal

pub returns : goal.returns
returns c = λ key is.
    c.add_stream.ensures
    ∙ (λ i. gctr (λ (block : List ℕ). cipher_under_key c.self.inside.words c.self.inside.rounds key block (c.self.view_is ∙ is.whole) i) c.args.start.now c.args.text.now)
