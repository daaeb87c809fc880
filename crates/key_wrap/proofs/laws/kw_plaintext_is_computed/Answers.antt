use Rattle.key_wrap.proofs.UnwrappedValues.{unkw_some, unkw_none}
use Rattle.key_wrap.proofs.laws.kw_plaintext_is_computed.Goals as goal

pub returns-clause-some : goal.returns-clause-some
returns-clause-some c = unkw_some

pub returns-clause-none : goal.returns-clause-none
returns-clause-none c = λ key w bytes small whole. unkw_none key w bytes small whole
