use Rattle.state_model.proofs.DataInRoles.{data_in_roles}
use Rattle.state_model.proofs.laws.data_needs_a_role.Goals as goal

pub returns : goal.returns
returns g c = data_in_roles g.E.Engine.calls
