use Rattle.std.proofs.Common.{sym, ◌∙◌}
use Rattle.line_input.proofs.LineFeeds.{one_way}
use Rattle.line_input.proofs.laws.splits_in_one_way.Goals as goal

pub returns : goal.returns
returns c = λ bytes ones others remainder left one other.
    one_way ones others remainder left one.lines_whole other.lines_whole one.unfinished other.unfinished (sym one.ended ∙ other.ended)
