use Rattle.std.proofs.Common.{◌<◌, ◌++◌, ◌∷◌, [], sym, ◌∙◌, arith}
use Rattle.noise_health.specs.Samples.{run_at_end}
use Rattle.noise_health.proofs.Faults.{run_bound, healthy_more, repetition_shows, proportion_shows, nothing_shows_otherwise, nothing_shows_elsewhere}
use Rattle.noise_health.proofs.Runs.{last_more}
use Rattle.noise_health.proofs.health.Health.feed.Goals as goal
use Rattle.noise_health.proofs.health.Health.feed.Goals.{else-self-eq-PROPORTION_CUTOFF-via-then-self-eq-PROPORTION_CUTOFF+else-sample-self, else-self-eq-PROPORTION_CUTOFF-via-else-self-eq-PROPORTION_CUTOFF}

pub count_run-requires : goal.count_run-requires
count_run-requires c = omega (arith, run_bound c.args.self.now c.requires.0 c.requires.1)

pub returns-then-self-ge-REPETITION_CUTOFF-clause-signal :
    goal.returns-then-self-ge-REPETITION_CUTOFF-clause-signal
returns-then-self-ge-REPETITION_CUTOFF-clause-signal c samples counts =
    let longer = samples ++ c.args.sample ∷ [] in
    let run = c.count_window.ensures.run.1 ∙ c.count_run.ensures.run samples counts.last counts.run in
    sym (repetition_shows longer (omega (arith, run, c.if-self-ge-REPETITION_CUTOFF.true)))

pub returns-then-sample-self-clause-signal : goal.returns-then-sample-self-clause-signal
returns-then-sample-self-clause-signal c samples counts =
    let longer = samples ++ c.args.sample ∷ [] in
    let run = c.count_window.ensures.run.1 ∙ c.count_run.ensures.run samples counts.last counts.run in
    let others = c.count_run.ensures.window in
    let window = c.count_window.ensures.window samples (others.0 ∙ counts.first) (others.1 ∙ counts.seen) (others.2 ∙ counts.hits) in
    sym (proportion_shows longer (omega (arith, run, c.if-self-ge-REPETITION_CUTOFF.false))
    (sym window.2 ∙ c.if-self-eq-PROPORTION_CUTOFF.true)
    (last_more samples c.args.sample ∙ c.if-sample-self.true ∙ window.0))

pub returns-else-self-eq-PROPORTION_CUTOFF-clause-signal :
    goal.returns-else-self-eq-PROPORTION_CUTOFF-clause-signal
returns-else-self-eq-PROPORTION_CUTOFF-clause-signal c samples counts =
    let longer = samples ++ c.args.sample ∷ [] in
    let run = c.count_window.ensures.run.1 ∙ c.count_run.ensures.run samples counts.last counts.run in
    let short : run_at_end longer < 31 = omega (arith, run, c.if-self-ge-REPETITION_CUTOFF.false) in
    let others = c.count_run.ensures.window in
    let window = c.count_window.ensures.window samples (others.0 ∙ counts.first) (others.1 ∙ counts.seen) (others.2 ∙ counts.hits) in
    elim c.else-self-eq-PROPORTION_CUTOFF.branch [
      | else-self-eq-PROPORTION_CUTOFF-via-then-self-eq-PROPORTION_CUTOFF+else-sample-self w ↦
          sym (nothing_shows_elsewhere longer short (λ again. w.if-sample-self.false (sym (last_more samples c.args.sample) ∙ again ∙ sym window.0)))
      | else-self-eq-PROPORTION_CUTOFF-via-else-self-eq-PROPORTION_CUTOFF w ↦
          sym (nothing_shows_otherwise longer short (λ often. w.if-self-eq-PROPORTION_CUTOFF.false (window.2 ∙ often)))
    ]

pub returns-else-self-eq-PROPORTION_CUTOFF-clause-counts :
    goal.returns-else-self-eq-PROPORTION_CUTOFF-clause-counts
returns-else-self-eq-PROPORTION_CUTOFF-clause-counts c samples counts none =
    let longer = samples ++ c.args.sample ∷ [] in
    let run = c.count_window.ensures.run.1 ∙ c.count_run.ensures.run samples counts.last counts.run in
    let others = c.count_run.ensures.window in
    let window = c.count_window.ensures.window samples (others.0 ∙ counts.first) (others.1 ∙ counts.seen) (others.2 ∙ counts.hits) in
    record {
      healthy = healthy_more samples c.args.sample counts.healthy (sym (returns-else-self-eq-PROPORTION_CUTOFF-clause-signal c samples counts));
      last = c.count_window.ensures.run.0 ∙ c.count_run.ensures.last ∙ sym (last_more samples c.args.sample);
      run = run;
      first = window.0;
      seen = window.1;
      hits = window.2;
    }
