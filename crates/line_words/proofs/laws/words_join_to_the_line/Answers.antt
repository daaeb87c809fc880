use Rattle.line_words.proofs.Joining.{joined, free, words_some, only}
use Rattle.line_words.proofs.laws.words_join_to_the_line.Goals as goal

pub returns-clause-joined : goal.returns-clause-joined
returns-clause-joined c = joined

pub returns-clause-free : goal.returns-clause-free
returns-clause-free c = free

pub returns-clause-some : goal.returns-clause-some
returns-clause-some c = words_some

pub returns-clause-only : goal.returns-clause-only
returns-clause-only c = only
