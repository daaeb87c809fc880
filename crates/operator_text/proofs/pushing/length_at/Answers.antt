use Rattle.std.proofs.Common.{◌≡◌, sym, ◌∙◌, ap, length, ℕ, List}
use Rattle.operator_text.proofs.ValuesOf.{value_there, no_value_type, no_value_text}
use Rattle.operator_text.proofs.pushing.length_at.Goals as goal

pub returns-in-Some-word_at : goal.returns-in-Some-word_at
returns-in-Some-word_at c = λ values h. c.value_length.ensures _ (value_there _ _ values _ _ _ h (sym c.in-Some.ensures) c.in-Some-word_at.ensures)

pub returns-in-None-word_at : goal.returns-in-None-word_at
returns-in-None-word_at c = λ values h. sym (ap (length {A = ℕ}) (no_value_text _ _ values _ h c.in-None-word_at.ensures))

pub returns-in-None : goal.returns-in-None
returns-in-None c = λ values h. sym (ap (length {A = ℕ}) (no_value_type _ _ values _ h (sym c.in-None.ensures)))
