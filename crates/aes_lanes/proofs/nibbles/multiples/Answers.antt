use Rattle.std.proofs.Common.{ap, ap₂, ◌∙◌, bit_xor, slice_index}
use Rattle.aes_lanes.specs.Nibbles.{read, is_place, twice_sub, thrice_sub}
use Rattle.aes_lanes.specs.declared.tables.TheConstants.{TWICE_P, TWICE_Q, THRICE_P, THRICE_Q}
use Rattle.aes_lanes.proofs.Places.{byte_at, p_place, q_place}
use Rattle.aes_lanes.proofs.nibbles.multiples.Goals as goal

pub look_up-requires : goal.look_up-requires
look_up-requires c j h = ap is_place (c.halves.ensures.p j h) ∙ p_place (slice_index c.args.v j) (byte_at c.args.v j c.fits-v h)

pub look_up-requires-2 : goal.look_up-requires-2
look_up-requires-2 c j h = ap is_place (c.halves.ensures.q j h) ∙ q_place (slice_index c.args.v j) (byte_at c.args.v j c.fits-v h)

pub look_up-requires-3 : goal.look_up-requires-3
look_up-requires-3 c j h = ap is_place (c.halves.ensures.p j h) ∙ p_place (slice_index c.args.v j) (byte_at c.args.v j c.fits-v h)

pub look_up-requires-4 : goal.look_up-requires-4
look_up-requires-4 c j h = ap is_place (c.halves.ensures.q j h) ∙ q_place (slice_index c.args.v j) (byte_at c.args.v j c.fits-v h)

pub returns-clause-twice : goal.returns-clause-twice
unfolding twice_sub
returns-clause-twice c j h =
    c.sum-twice.ensures j h
    ∙ ap₂ bit_xor (c.look_up.ensures j h ∙ ap (read TWICE_P) (c.halves.ensures.p j h)) (c.look_up-2.ensures j h ∙ ap (read TWICE_Q) (c.halves.ensures.q j h))

pub returns-clause-thrice : goal.returns-clause-thrice
unfolding thrice_sub
returns-clause-thrice c j h =
    c.sum-thrice.ensures j h
    ∙ ap₂ bit_xor (c.look_up-3.ensures j h ∙ ap (read THRICE_P) (c.halves.ensures.p j h)) (c.look_up-4.ensures j h ∙ ap (read THRICE_Q) (c.halves.ensures.q j h))
