use Rattle.state_model.proofs.Meanings.{services_mean}
use Rattle.state_model.proofs.laws.services_mean_the_standards.Goals as goal

pub returns : goal.returns
returns g c = services_mean g.E.Engine.calls
