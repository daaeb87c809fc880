use Rattle.std.proofs.Common.{arith}
use Rattle.program_words.proofs.SpelledNumbers.{number_spelled, number_within}
use Rattle.program_words.proofs.words.spelled_number.Goals as goal

pub returns-clause-spelled : goal.returns-clause-spelled
returns-clause-spelled c = number_spelled c.args.most _ c.number_of.result (omega arith) c.number_of.ensures

pub returns-clause-within : goal.returns-clause-within
returns-clause-within c = number_within c.args.most _ c.number_of.result c.number_of.ensures
