use Rattle.ghash_core.proofs.Steps.{when_set, when_clear}
use Rattle.std.proofs.Common.{◌^◌, ◌/◌}
use Rattle.ghash_core.proofs.bitwise.add_where.Goals as goal

pub returns-then-x-k-eq1 : goal.returns-then-x-k-eq1
returns-then-x-k-eq1 c = when_set c.args.z c.args.v (c.args.x / 2 ^ c.args.k) c.if-x-k-eq1.true

pub returns-else-x-k-eq1 : goal.returns-else-x-k-eq1
returns-else-x-k-eq1 c = when_clear c.args.z c.args.v (c.args.x / 2 ^ c.args.k) c.if-x-k-eq1.false
