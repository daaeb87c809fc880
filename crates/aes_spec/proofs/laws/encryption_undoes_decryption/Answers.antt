use Rattle.aes_spec.proofs.EncryptionUndoes.{aes-aes_inverse}
use Rattle.aes_spec.proofs.laws.encryption_undoes_decryption.Goals as goal

pub returns : goal.returns
returns c = aes-aes_inverse
