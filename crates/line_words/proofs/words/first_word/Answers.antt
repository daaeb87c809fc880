use Rattle.std.proofs.Common.{arith}
use Rattle.line_words.proofs.Cuts.{one_word, rest_words}
use Rattle.line_words.proofs.words.first_word.Goals as goal

pub returns-then-end-line-clause-words : goal.returns-then-end-line-clause-words
returns-then-end-line-clause-words c = one_word c.args.line.now (omega (arith, c.word_length-end.ensures.place))

pub returns-clause-words : goal.returns-clause-words
returns-clause-words c = rest_words c.args.line.now c.word_length-end.result c.word_length-end.ensures.place (omega arith)
