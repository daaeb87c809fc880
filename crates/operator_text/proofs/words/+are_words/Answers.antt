use Rattle.std.proofs.Common.{◌∙◌, ap}
use Rattle.line_words.specs.Words.{words_left}
use Rattle.operator_text.proofs.WordLists.{more_words, first_fails, empty_words}
use Rattle.operator_text.proofs.words.+are_words.Goals as goal

pub returns-in-empty : goal.returns-in-empty
returns-in-empty t c = empty_words c.args.types.now c.args.words c.is_none.result c.in-empty.len_below c.is_none.ensures

pub returns-then-is_word : goal.returns-then-is_word
returns-then-is_word t c =
    more_words c.args.types.now _ _ _ c.are_words.result c.in-len1-up.len_at_least (ap words_left c.in-Some.is ∙ c.first_word-first.ensures.words)
    (c.is_word.ensures.0 c.if-is_word.true) c.are_words.ensures

pub returns-else-is_word : goal.returns-else-is_word
returns-else-is_word t c =
    first_fails c.args.types.now _ _ _ c.is_word.result c.in-len1-up.len_at_least (ap words_left c.in-Some.is ∙ c.first_word-first.ensures.words)
    c.if-is_word.false c.is_word.ensures.1
