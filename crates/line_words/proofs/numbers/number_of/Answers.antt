use Rattle.std.proofs.Common.{arith}
use Rattle.line_words.proofs.Numerals.{no_number, too_large, spells}
use Rattle.line_words.proofs.numbers.number_of.Goals as goal

pub returns-then-not-is_canonical : goal.returns-then-not-is_canonical
returns-then-not-is_canonical c = λ n. (
  λ e. cc e,
  λ h. absurd (no_number c.args.most c.args.word.now n (omega arith) (λ is. cc (c.is_canonical.ensures.1 is, c.if-not-is_canonical.true)) h),
)

pub returns-then-value-from : goal.returns-then-value-from
returns-then-value-from c = λ n.
    spells c.args.most c.args.word.now n c.value_of-value.result (omega arith) (c.is_canonical.ensures.0 (cc c.if-not-is_canonical.false)) (omega arith) (omega arith)

pub returns-else-value-from : goal.returns-else-value-from
returns-else-value-from c = λ n. (
  λ e. cc e,
  λ h. absurd (too_large c.args.most c.args.word.now n (omega arith) (omega arith) h),
)
