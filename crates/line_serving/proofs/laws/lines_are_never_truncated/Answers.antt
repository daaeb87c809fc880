use Rattle.line_serving.proofs.LineFaults.{lines_end}
use Rattle.line_serving.proofs.laws.lines_are_never_truncated.Goals as goal

pub returns : goal.returns
returns c = lines_end
