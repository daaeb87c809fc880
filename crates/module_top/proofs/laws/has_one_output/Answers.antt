use Rattle.module_top.proofs.OneOutput.{one_output}
use Rattle.module_top.proofs.laws.has_one_output.Goals as goal

pub returns : goal.returns
returns g c = one_output g.E.Engine.calls
