use Rattle.key_wrap.proofs.Checked.{kwp_unique}
use Rattle.key_wrap.proofs.laws.kwp_plaintext_is_unique.Goals as goal

pub returns : goal.returns
returns c = kwp_unique
