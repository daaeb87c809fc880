use Rattle.state_model.proofs.Zeroising.{empties_all, empties_one}
use Rattle.state_model.proofs.ZeroisedTrees.{empties_tree}
use Rattle.state_model.proofs.laws.zeroising_empties.Goals as goal

pub returns-clause-all : goal.returns-clause-all
returns-clause-all g c = empties_all g.E.Engine.calls

pub returns-clause-one : goal.returns-clause-one
returns-clause-one g c = empties_one g.E.Engine.calls

pub returns-clause-tree : goal.returns-clause-tree
returns-clause-tree g c = empties_tree g.E.Engine.calls
