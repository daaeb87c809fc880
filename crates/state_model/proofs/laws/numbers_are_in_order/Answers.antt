use Rattle.state_model.proofs.Numbering.{by_the_number, changes_nothing, are_taken}
use Rattle.state_model.proofs.laws.numbers_are_in_order.Goals as goal

pub returns-clause-late : goal.returns-clause-late
returns-clause-late g c = by_the_number g.E.Engine.calls

pub returns-clause-refused : goal.returns-clause-refused
returns-clause-refused g c = changes_nothing g.E.Engine.calls

pub returns-clause-taken : goal.returns-clause-taken
returns-clause-taken g c = are_taken g.E.Engine.calls
