use Rattle.state_model.proofs.Lawfulness.{steps_lawful}
use Rattle.state_model.proofs.laws.steps_are_lawful.Goals as goal

pub returns : goal.returns
returns g c = steps_lawful g.E.Engine.calls g.met.E.Engine.keeps
