use Rattle.key_wrap.proofs.Checked.{kw_unique}
use Rattle.key_wrap.proofs.laws.kw_plaintext_is_unique.Goals as goal

pub returns : goal.returns
returns c = kw_unique
