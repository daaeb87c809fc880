use Rattle.transcript_pairs.proofs.HeldPairs.{none_held, nothing_taken}
use Rattle.transcript_pairs.proofs.pairs.Pairs.at_boundary.Goals as goal

pub returns-then-self-eq0 : goal.returns-then-self-eq0
returns-then-self-eq0 c = rw (← c.self.view_is) (
  λ is. (nothing_taken c.self.inside c.self.invariant c.if-self-eq0.true, (none_held c.self.inside.fault c.is_none.result c.is_none.ensures).0 is),
  λ both. (none_held c.self.inside.fault c.is_none.result c.is_none.ensures).1 both.1,
)
