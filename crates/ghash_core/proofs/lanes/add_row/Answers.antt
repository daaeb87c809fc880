use Rattle.std.proofs.Common.{ℕ, ◌+◌, ◌*◌, ◌^◌, ◌%◌, ap, ◌∙◌, slice_index, bit_xor}
use Rattle.ghash_core.specs.Number.{when}
use Rattle.ghash_core.proofs.LaneWords.{word_sum, word_at-lt}
use Rattle.ghash_core.proofs.lanes.add_row.Goals as goal

pub returns : goal.returns
returns c j h =
    let b = slice_index c.args.w j % 2 in
    ap (λ (x : ℕ). x * 2 ^ 64 + slice_index c.add_where-2.result j) (c.add_where.ensures j h)
    ∙ ap (λ (x : ℕ). bit_xor (slice_index c.args.z_hi j) (when b (slice_index c.args.v_hi j)) * 2 ^ 64 + x) (c.add_where-2.ensures j h)
    ∙ word_sum (slice_index c.args.z_hi j) (slice_index c.args.z_lo j) (slice_index c.args.v_hi j) (slice_index c.args.v_lo j) b
    (word_at-lt c.args.z_lo j c.fits-z_lo.0 c.fits-z_lo.1) (word_at-lt c.args.v_lo j c.fits-v_lo.0 c.fits-v_lo.1)
