use Rattle.state_model.proofs.Lawfulness.{steps_lawful}
use Rattle.machine_transcripts.proofs.Running.{runs_lawful, streams_lawful}
use Rattle.machine_transcripts.proofs.laws.runs_leave_lawful_transcripts.Goals as goal

pub returns-clause-run : goal.returns-clause-run
returns-clause-run g c =
    runs_lawful g.E.Engine.calls c.steps_keep_the_rules.ensures.keeps (steps_lawful g.E.Engine.calls g.met.E.Engine.keeps) c.steps_keep_the_rules.ensures.begins c.first_no_tells.ensures.yes

pub returns-clause-stream : goal.returns-clause-stream
returns-clause-stream g c = streams_lawful g.E.Engine.calls
    (runs_lawful g.E.Engine.calls c.steps_keep_the_rules.ensures.keeps (steps_lawful g.E.Engine.calls g.met.E.Engine.keeps) c.steps_keep_the_rules.ensures.begins c.first_no_tells.ensures.yes)
