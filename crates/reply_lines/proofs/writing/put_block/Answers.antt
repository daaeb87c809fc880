use Rattle.std.proofs.Common.{arith}
use Rattle.reply_lines.proofs.Digits.{digits_long}
use Rattle.reply_lines.proofs.writing.put_block.Goals as goal

pub returns-clause-long : goal.returns-clause-long
returns-clause-long c = omega (arith, digits_long c.args.block.now, c.told-block)
