use Rattle.aes_spec.proofs.FieldLaws.{times-inverse}
use Rattle.aes_spec.proofs.laws.inverse_law.Goals as goal

pub returns : goal.returns
returns c = times-inverse
