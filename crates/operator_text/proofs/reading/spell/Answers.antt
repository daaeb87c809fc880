use Rattle.std.proofs.Common.{◌≡◌, List, ℕ, ◌∷◌, sym, ◌∙◌, ap}
use Rattle.line_words.specs.Words.{words_left}
use Rattle.operator_text.proofs.Readings.{spells_by}
use Rattle.operator_text.proofs.reading.spell.Goals as goal

pub returns-in-Some : goal.returns-in-Some
returns-in-Some c =
    spells_by c.args.line.now c.in-Some.service _ c.fill.result c.fill.new.into c.requires
    (c.first_word-first.ensures.words ∙ ap (λ (name : List ℕ). name ∷ words_left c.first_word-first.result.rest) (sym c.in-Some.ensures.some)) c.fill.ensures
