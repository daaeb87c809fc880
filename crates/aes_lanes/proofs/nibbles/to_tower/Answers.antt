use Rattle.std.proofs.Common.{ap, ap₂, ◌∙◌, bit_xor}
use Rattle.aes_lanes.specs.Nibbles.{read, to_tower}
use Rattle.aes_lanes.specs.declared.tables.TheConstants.{IN_LOW, IN_HIGH}
use Rattle.aes_lanes.proofs.nibbles.to_tower.Goals as goal

pub returns : goal.returns
unfolding to_tower
returns c j h =
    c.sum.ensures j h
    ∙ ap₂ bit_xor (c.look_up.ensures j h ∙ ap (read IN_LOW) (c.low.ensures j h)) (c.look_up-2.ensures j h ∙ ap (read IN_HIGH) (c.high.ensures j h))
