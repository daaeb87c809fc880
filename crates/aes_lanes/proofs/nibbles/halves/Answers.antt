use Rattle.std.proofs.Common.{ap, ap₂, ◌∙◌, bit_xor, slice_index}
use Rattle.aes_lanes.specs.Nibbles.{read, is_place, first_half, second_half}
use Rattle.aes_lanes.specs.declared.tables.TheConstants.{INV, OVER}
use Rattle.aes_lanes.proofs.Places.{byte_at, sum_place, first_place, second_place}
use Rattle.aes_lanes.proofs.nibbles.halves.Goals as goal

pub look_up-requires-2 : goal.look_up-requires-2
look_up-requires-2 c j h =
    ap is_place (c.sum.ensures j h ∙ ap₂ bit_xor (c.look_up.ensures j h ∙ ap (read INV) (c.high-i.ensures j h)) (c.look_up-over.ensures j h ∙ ap (read OVER) (c.low-k.ensures j h)))
    ∙ first_place (slice_index c.args.v j) (byte_at c.args.v j c.fits-v h)

pub look_up-requires-3 : goal.look_up-requires-3
look_up-requires-3 c j h =
    ap is_place (c.sum-j.ensures j h ∙ ap₂ bit_xor (c.high-i.ensures j h) (c.low-k.ensures j h))
    ∙ sum_place (slice_index c.args.v j) (byte_at c.args.v j c.fits-v h)

pub look_up-requires-4 : goal.look_up-requires-4
look_up-requires-4 c j h =
    let sum = c.sum-j.ensures j h ∙ ap₂ bit_xor (c.high-i.ensures j h) (c.low-k.ensures j h) in
    ap is_place (c.sum-2.ensures j h ∙ ap₂ bit_xor (c.look_up-3.ensures j h ∙ ap (read INV) sum) (c.look_up-over.ensures j h ∙ ap (read OVER) (c.low-k.ensures j h)))
    ∙ second_place (slice_index c.args.v j) (byte_at c.args.v j c.fits-v h)

pub returns-clause-p : goal.returns-clause-p
unfolding first_half
returns-clause-p c j h =
    let i = c.high-i.ensures j h in
    let k = c.low-k.ensures j h in
    let within = c.sum.ensures j h ∙ ap₂ bit_xor (c.look_up.ensures j h ∙ ap (read INV) i) (c.look_up-over.ensures j h ∙ ap (read OVER) k) in
    c.sum-p.ensures j h ∙ ap₂ bit_xor (c.look_up-2.ensures j h ∙ ap (read INV) within) (c.sum-j.ensures j h ∙ ap₂ bit_xor i k)

pub returns-clause-q : goal.returns-clause-q
unfolding second_half
returns-clause-q c j h =
    let i = c.high-i.ensures j h in
    let k = c.low-k.ensures j h in
    let sum = c.sum-j.ensures j h ∙ ap₂ bit_xor i k in
    let within = c.sum-2.ensures j h ∙ ap₂ bit_xor (c.look_up-3.ensures j h ∙ ap (read INV) sum) (c.look_up-over.ensures j h ∙ ap (read OVER) k) in
    c.sum-q.ensures j h ∙ ap₂ bit_xor (c.look_up-4.ensures j h ∙ ap (read INV) within) i
