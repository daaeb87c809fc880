use Rattle.aes_spec.proofs.RoundKeys.{aes_inverse-aes}
use Rattle.aes_spec.proofs.laws.decryption_undoes_encryption.Goals as goal

pub returns : goal.returns
returns c = aes_inverse-aes
