use Rattle.transcript_check.proofs.Walks.{walk_determined}
use Rattle.transcript_check.proofs.laws.walks_are_determined.Goals as goal

pub returns : goal.returns
returns c = λ before one two transcript other alike first second. walk_determined before one two transcript other alike first second
