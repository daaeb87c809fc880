use Rattle.command_lines.proofs.Readings.{one_reading}
use Rattle.command_lines.proofs.laws.lines_make_commands_in_one_way.Goals as goal

pub returns : goal.returns
returns c = one_reading
