use Rattle.std.proofs.Common.{ap, ap₂, ◌∙◌, bit_xor, slice_index}
use Rattle.std.proofs.lemmas.Simd.{get_or-replicate}
use Rattle.aes_lanes.specs.Nibbles.{last_sub}
use Rattle.aes_lanes.proofs.Places.{byte_at, sub_is}
use Rattle.aes_lanes.proofs.nibbles.sub.Goals as goal

pub returns : goal.returns
returns c j h =
    c.sum.ensures j h
    ∙ ap₂ bit_xor (c.last_sub.ensures j h ∙ ap last_sub (c.to_tower.ensures j h)) (get_or-replicate 16 j 0x63 0 h)
    ∙ sub_is (slice_index c.args.x j) (byte_at c.args.x j c.fits-x h)
