use Rattle.line_words.proofs.Cuts.{words_short}
use Rattle.line_words.proofs.reading.Words.of.Goals as goal

pub returns-clause-short : goal.returns-clause-short
returns-clause-short c = words_short c.args.line.now
