use Rattle.state_model.proofs.Lawfulness.{steps_lawful}
use Rattle.machine_transcripts.proofs.Running.{blanked_lawful}
use Rattle.machine_transcripts.proofs.laws.blanked_bytes_stay_lawful.Goals as goal

pub returns : goal.returns
returns g c =
    blanked_lawful g.E.Engine.calls c.steps_keep_the_rules.ensures.keeps (steps_lawful g.E.Engine.calls g.met.E.Engine.keeps) c.steps_keep_the_rules.ensures.begins c.first_no_tells.ensures.yes
    c.entered_bytes_may_be_blanked.ensures.lawful
