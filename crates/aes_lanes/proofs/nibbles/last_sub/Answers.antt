use Rattle.std.proofs.Common.{ap, ap₂, ◌∙◌, bit_xor, slice_index}
use Rattle.aes_lanes.specs.Nibbles.{read, is_place, last_sub}
use Rattle.aes_lanes.specs.declared.tables.TheConstants.{LAST_P, LAST_Q}
use Rattle.aes_lanes.proofs.Places.{byte_at, p_place, q_place}
use Rattle.aes_lanes.proofs.nibbles.last_sub.Goals as goal

pub look_up-requires : goal.look_up-requires
look_up-requires c j h = ap is_place (c.halves.ensures.p j h) ∙ p_place (slice_index c.args.v j) (byte_at c.args.v j c.fits-v h)

pub look_up-requires-2 : goal.look_up-requires-2
look_up-requires-2 c j h = ap is_place (c.halves.ensures.q j h) ∙ q_place (slice_index c.args.v j) (byte_at c.args.v j c.fits-v h)

pub returns : goal.returns
unfolding last_sub
returns c j h =
    c.sum.ensures j h
    ∙ ap₂ bit_xor (c.look_up.ensures j h ∙ ap (read LAST_P) (c.halves.ensures.p j h)) (c.look_up-2.ensures j h ∙ ap (read LAST_Q) (c.halves.ensures.q j h))
