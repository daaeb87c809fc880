use Rattle.key_wrap.proofs.UnwrappedValues.{unkwp_some, unkwp_none}
use Rattle.key_wrap.proofs.laws.kwp_plaintext_is_computed.Goals as goal

pub returns-clause-some : goal.returns-clause-some
returns-clause-some c = unkwp_some

pub returns-clause-none : goal.returns-clause-none
returns-clause-none c = λ key w bytes small whole. unkwp_none key w bytes small whole
