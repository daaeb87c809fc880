use Rattle.information_flow.proofs.Running.{untainted_are_equal}
use Rattle.information_flow.proofs.Stepping.{secrets_stay}
use Rattle.information_flow.proofs.Tainting.{taint_is_public}
use Rattle.information_flow.proofs.laws.secrets_stay_inside.Goals as goal

pub returns-clause-stays : goal.returns-clause-stays
returns-clause-stays g c plain = secrets_stay g.E.Engine.calls plain

pub returns-clause-public : goal.returns-clause-public
returns-clause-public g c = taint_is_public g.E.Engine.calls

pub returns-clause-equal : goal.returns-clause-equal
returns-clause-equal g c = untainted_are_equal
