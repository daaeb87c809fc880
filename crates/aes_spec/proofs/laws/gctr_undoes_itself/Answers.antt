use Rattle.aes_spec.proofs.KeyStream.{gctr-gctr}
use Rattle.aes_spec.proofs.laws.gctr_undoes_itself.Goals as goal

pub returns : goal.returns
returns c = gctr-gctr
