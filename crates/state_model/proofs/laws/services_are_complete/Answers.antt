use Rattle.state_model.proofs.Completed.{services_complete}
use Rattle.state_model.proofs.laws.services_are_complete.Goals as goal

pub returns : goal.returns
returns g c = services_complete g.E.Engine.calls
