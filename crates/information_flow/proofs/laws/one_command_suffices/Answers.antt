use Rattle.information_flow.proofs.Trees.{one_suffices}
use Rattle.information_flow.proofs.laws.one_command_suffices.Goals as goal

pub returns : goal.returns
returns g c plain = one_suffices g.E.Engine.calls (c.secrets_stay_inside.ensures.stays plain)
