use Rattle.std.proofs.Common.{ap, ap₂, ◌∙◌, bit_xor}
use Rattle.aes_lanes.specs.Nibbles.{read, by_nibbles}
use Rattle.aes_lanes.proofs.inverse.by_nibbles.Goals as goal

pub returns : goal.returns
unfolding by_nibbles
returns c j h =
    c.sum.ensures j h
    ∙ ap₂ bit_xor (c.look_up.ensures j h ∙ ap (read c.args.lows) (c.low.ensures j h)) (c.look_up-2.ensures j h ∙ ap (read c.args.highs) (c.high.ensures j h))
