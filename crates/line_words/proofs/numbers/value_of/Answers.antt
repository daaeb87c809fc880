use Rattle.std.proofs.Common.{◌+◌, ◌*◌, ◌^◌, min, ap, ◌∙◌, ℕ}
use Rattle.line_words.proofs.Numerals.{digit_step}
use Rattle.line_words.proofs.numbers.value_of.Goals as goal

pub loop-digit-preserved : goal.loop-digit-preserved
loop-digit-preserved c =
    digit_step c.args.word.now c.loop-digit.digit-index c.loop-digit.value c.min-value.result (2 ^ 64) c.loop-digit-test.true c.requires c.loop-digit.invariant
    (c.min-value.ensures ∙ ap (λ (d : ℕ). min (2 ^ 64) (c.loop-digit.value * 10 + d)) c.from.ensures)
