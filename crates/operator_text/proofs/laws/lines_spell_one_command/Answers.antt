use Rattle.operator_text.proofs.OneCommand.{one_command}
use Rattle.operator_text.proofs.laws.lines_spell_one_command.Goals as goal

pub returns : goal.returns
returns c = one_command
