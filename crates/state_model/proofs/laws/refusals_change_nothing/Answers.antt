use Rattle.state_model.proofs.Zeroising.{refusals_unchanged}
use Rattle.state_model.proofs.Refusals.{refusals_stay, failures_stay}
use Rattle.state_model.proofs.SpentUses.{refusals_spend, tags_spend}
use Rattle.state_model.proofs.laws.refusals_change_nothing.Goals as goal

pub returns-clause-at_once : goal.returns-clause-at_once
returns-clause-at_once g c = refusals_unchanged g.E.Engine.calls

pub returns-clause-by_slot : goal.returns-clause-by_slot
returns-clause-by_slot g c = refusals_stay g.E.Engine.calls

pub returns-clause-by_second_slot : goal.returns-clause-by_second_slot
returns-clause-by_second_slot g c = refusals_spend g.E.Engine.calls

pub returns-clause-by_tag : goal.returns-clause-by_tag
returns-clause-by_tag g c = tags_spend g.E.Engine.calls

pub returns-clause-by_failure : goal.returns-clause-by_failure
returns-clause-by_failure g c = failures_stay g.E.Engine.calls
