use Rattle.std.proofs.Common.{ℕ, ◌+◌, ◌∙◌, arith}
use Rattle.aes_spec.specs.Aes.{IsState}
use Rattle.aes_lanes.specs.Streams.{with_count}
use Rattle.aes_lanes.proofs.Counts.{with_count_state}
use Rattle.aes_lanes.proofs.stream.group.Goals as goal

pub returns : goal.returns
returns c w b p hb hp keys =
    let s = c.args.start.now in
    let t : IsState s = record { long = c.told-start; small = c.fits-start } in
    let n : ℕ = c.args.count + b in
    c.transposed.ensures b p hb hp
    ∙ c.enciphered.ensures b w (with_count s n) hb (with_count_state s n t) keys (c.counters.ensures b (w 0) hb (keys.states 0 (omega arith)) keys.first) p hp
