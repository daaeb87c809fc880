use Rattle.gcm_mode.proofs.Readiness as Readiness
use Rattle.gcm_mode.proofs.prepared_key.Prepared.filled_is_ready.Goals as goal

pub returns : goal.returns
returns c = Readiness.filled_is_ready c.args.self.now
