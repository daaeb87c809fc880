use Rattle.std.proofs.Common.{sym, ◌∙◌}
use Rattle.line_words.proofs.Joining.{left_none}
use Rattle.line_words.proofs.reading.Words.is_done.Goals as goal

pub returns : goal.returns
returns c = left_none c.self.inside.rest c.args.self.now c.is_none.result c.self.view_is c.is_none.ensures
