use Rattle.state_model.proofs.Keeping.{begins, keeps}
use Rattle.state_model.proofs.laws.steps_keep_the_rules.Goals as goal

pub returns-clause-begins : goal.returns-clause-begins
returns-clause-begins g c engine image digest = begins engine image digest

pub returns-clause-keeps : goal.returns-clause-keeps
returns-clause-keeps g c = keeps g.E.Engine.calls g.met.E.Engine.keeps
