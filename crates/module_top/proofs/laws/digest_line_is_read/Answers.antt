use Rattle.module_top.proofs.DigestLines.{line_is_read}
use Rattle.module_top.proofs.laws.digest_line_is_read.Goals as goal

pub returns : goal.returns
returns g c engine image = line_is_read g.E.Engine.calls g.met.E.Engine.keeps engine image
