use Rattle.aes_spec.proofs.FieldLaws.{power_254}
use Rattle.aes_spec.proofs.laws.power_law.Goals as goal

pub returns : goal.returns
returns c = power_254
