use Rattle.state_model.proofs.Answering.{answers_of_table}
use Rattle.state_model.proofs.laws.answers_are_of_the_table.Goals as goal

pub returns : goal.returns
returns g c = answers_of_table g.E.Engine.calls g.met.E.Engine.keeps
