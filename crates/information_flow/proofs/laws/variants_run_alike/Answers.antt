use Rattle.information_flow.proofs.Running.{variants_run}
use Rattle.information_flow.proofs.laws.variants_run_alike.Goals as goal

pub returns : goal.returns
returns g c plain = variants_run g.E.Engine.calls (c.secrets_stay_inside.ensures.stays plain)
