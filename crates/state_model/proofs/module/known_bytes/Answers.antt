use Rattle.std.proofs.Common.{arith}
use Rattle.state_model.proofs.module.known_bytes.Goals as goal

pub returns : goal.returns
returns c n = omega (arith, c.type_inv.bytes n)
