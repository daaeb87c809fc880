use Rattle.std.proofs.lemmas.List.{take_rest}
use Rattle.random_bits.proofs.draws.seed_from.Goals as goal

pub returns-clause-engine : goal.returns-clause-engine
returns-clause-engine g c = rw (take_rest c.args.samples.now 1280) at c.drbg_instantiate.ensures.engine

pub returns-clause-generator : goal.returns-clause-generator
returns-clause-generator g c = rw (take_rest c.args.samples.now 1280) at c.drbg_instantiate.ensures.drbg
