use Rattle.std.proofs.Common.{◌+◌, ◌∙◌}
use Rattle.aes_lanes.specs.Streams.{with_count}
use Rattle.aes_lanes.proofs.power_stream.group.Goals as goal

pub returns : goal.returns
returns c b p hb hp =
    c.transposed.ensures b p hb hp ∙ c.enciphered.ensures b (with_count c.args.start.now (c.args.count + b)) hb (c.counters.ensures b hb) p hp
