use Rattle.std.proofs.Common.{◌++◌, ap, ◌∙◌}
use Rattle.std.proofs.lemmas.List.{append-nil}
use Rattle.drbg_core.specs.Generator.{reseed, update}
use Rattle.drbg_core.specs.declared.generator.Drbg.{Drbg}
use Rattle.drbg_core.proofs.Requests.{counter-update}
use Rattle.drbg_core.proofs.generator.Drbg.reseed.Goals as goal

pub returns-clause-state : goal.returns-clause-state
unfolding reseed
returns-clause-state c =
    let g : Drbg = record c.args.self.now { counter = 1 } in
    c.update.ensures ∙ ap (update g) (append-nil (c.args.entropy.now ++ c.args.additional.now))

pub returns-clause-counter : goal.returns-clause-counter
returns-clause-counter c = ap (λ (g : Drbg). g.counter) c.update.ensures ∙ counter-update _ _
