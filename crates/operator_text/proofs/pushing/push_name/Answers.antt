use Rattle.operator_text.proofs.pushing.push_name.Goals as goal

pub returns-in-None : goal.returns-in-None
returns-in-None c = λ value w. absurd (c.in-None.ensures.none w.number w.spelled)
