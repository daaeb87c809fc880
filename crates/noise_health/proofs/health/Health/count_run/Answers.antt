use Rattle.std.proofs.Common.{sym, ◌∙◌}
use Rattle.noise_health.proofs.Runs.{run_more}
use Rattle.noise_health.proofs.health.Health.count_run.Goals as goal

pub returns-then-sample-self-clause-run : goal.returns-then-sample-self-clause-run
returns-then-sample-self-clause-run c samples last run = rw run (sym (run_more samples c.args.sample (c.if-sample-self.true ∙ last)))
