use Rattle.std.proofs.Common.{refl}
use Rattle.operator_text.proofs.WordTests.{quad_read}
use Rattle.operator_text.proofs.words.is_quad.Goals as goal

pub returns-in-Some : goal.returns-in-Some
returns-in-Some c = (λ h. quad_read _ _ c.in-Some.ensures, λ w. refl)
