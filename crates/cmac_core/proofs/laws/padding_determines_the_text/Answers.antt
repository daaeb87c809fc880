use Rattle.cmac_core.proofs.Padding.{padding_determines}
use Rattle.cmac_core.proofs.laws.padding_determines_the_text.Goals as goal

pub returns : goal.returns
returns c = padding_determines
