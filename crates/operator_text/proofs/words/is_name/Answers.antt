use Rattle.std.proofs.Common.{refl}
use Rattle.operator_text.proofs.WordTests.{name_read}
use Rattle.operator_text.proofs.words.is_name.Goals as goal

pub returns-in-Some : goal.returns-in-Some
returns-in-Some c = (λ h. name_read _ _ _ c.in-Some.ensures.some, λ w. refl)

pub returns-in-None : goal.returns-in-None
returns-in-None c = (λ h. cc h, λ w. absurd (c.in-None.ensures.none w.1.number w.1.spelled))
