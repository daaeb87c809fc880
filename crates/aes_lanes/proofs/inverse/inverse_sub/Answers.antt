use Rattle.std.proofs.Common.{ap, ap₂, ◌∙◌, bit_xor, slice_index}
use Rattle.aes_lanes.specs.Nibbles.{read, is_place, first_half, second_half}
use Rattle.aes_lanes.specs.declared.tables.TheConstants.{INVERSE_P, INVERSE_Q}
use Rattle.aes_lanes.proofs.Places.{byte_at}
use Rattle.aes_lanes.proofs.Inverses.{unsub_p_place, unsub_q_place, inverse_sub_is}
use Rattle.aes_lanes.proofs.inverse.inverse_sub.Goals as goal

pub look_up-requires : goal.look_up-requires
look_up-requires c j h = ap is_place (c.halves.ensures.p j h ∙ ap first_half (c.by_nibbles.ensures j h)) ∙ unsub_p_place (slice_index c.args.v j) (byte_at c.args.v j c.fits-v h)

pub look_up-requires-2 : goal.look_up-requires-2
look_up-requires-2 c j h = ap is_place (c.halves.ensures.q j h ∙ ap second_half (c.by_nibbles.ensures j h)) ∙ unsub_q_place (slice_index c.args.v j) (byte_at c.args.v j c.fits-v h)

pub returns : goal.returns
returns c j h =
    c.sum.ensures j h
    ∙ ap₂ bit_xor (c.look_up.ensures j h ∙ ap (read INVERSE_P) (c.halves.ensures.p j h ∙ ap first_half (c.by_nibbles.ensures j h))) (c.look_up-2.ensures j h ∙ ap (read INVERSE_Q) (c.halves.ensures.q j h ∙ ap second_half (c.by_nibbles.ensures j h)))
    ∙ inverse_sub_is (slice_index c.args.v j) (byte_at c.args.v j c.fits-v h)
