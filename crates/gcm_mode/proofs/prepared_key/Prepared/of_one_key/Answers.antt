use Rattle.gcm_mode.proofs.OneKey.{one_key}
use Rattle.gcm_mode.proofs.prepared_key.Prepared.of_one_key.Goals as goal

pub returns : goal.returns
returns c key other k o = one_key c.args.self.now.schedule key other k.schedule o.schedule
