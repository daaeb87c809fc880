use Rattle.operator_text.proofs.OneCommand.{comment_spells_none}
use Rattle.operator_text.proofs.laws.comments_spell_none.Goals as goal

pub returns : goal.returns
returns c = comment_spells_none
