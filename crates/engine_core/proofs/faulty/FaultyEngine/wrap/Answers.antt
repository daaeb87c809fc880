use Rattle.std.proofs.Common.{take}
use Rattle.engine_core.specs.Standards.{wrapped_in_buffer}
use Rattle.engine_core.proofs.Wrongness.{wrong_answer}
use Rattle.engine_core.proofs.faulty.FaultyEngine.wrap.Goals as goal

pub returns-then-count-clause-buf : goal.returns-then-count-clause-buf
returns-then-count-clause-buf c = λ key is.
    wrong_answer 4 c.args.self.now c.count.new.self (wrapped_in_buffer c.args.pad key (take c.args.length c.args.buf.now)).buf c.wrap-size.new.buf c.turn.new.out
    c.if-count.ensures.wrong c.count.ensures.counted (c.wrap-size.ensures.buf key is) c.turn.ensures
