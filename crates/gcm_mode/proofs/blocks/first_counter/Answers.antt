use Rattle.std.proofs.Common.{◌∙◌}
use Rattle.gcm_mode.proofs.Counter.{short_is, hashed_is}
use Rattle.gcm_mode.proofs.blocks.first_counter.Goals as goal

pub returns-then-iv-eq12 : goal.returns-then-iv-eq12
returns-then-iv-eq12 c key f = c.short_counter.ensures ∙ short_is key c.args.iv.now c.if-iv-eq12.true

pub returns-else-iv-eq12 : goal.returns-else-iv-eq12
returns-else-iv-eq12 c key f = c.hashed_counter.ensures key f ∙ hashed_is key c.args.iv.now c.if-iv-eq12.false
