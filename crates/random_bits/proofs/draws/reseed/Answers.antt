use Rattle.drbg_core.specs.declared.generator.Drbg.{Drbg}
use Rattle.std.proofs.Common.{◌≡◌, ◌∙◌, ap, length}
use Rattle.bits_core.specs.ByteList.{zeros}
use Rattle.outside.proofs.Explanations.{explained_by}
use Rattle.random_bits.proofs.Seeds.{reseeded_ok, reseeded_err}
use Rattle.random_bits.proofs.draws.reseed.Goals as goal

pub returns-in-Ok-clause-reseeded : goal.returns-in-Ok-clause-reseeded
returns-in-Ok-clause-reseeded g c =
    explained_by _ _ c.in-Ok.ensures.taken
    (λ events left taken samples counts. reseeded_ok g.E.Engine.calls _ _ _ _ _ _ samples _ events left (c.take_samples.auto.out ∙ c.requires.room) (taken samples counts) (c.in-Ok.ensures.counts samples counts) c.drbg_reseed.ensures.engine c.drbg_reseed.ensures.drbg)

pub returns-in-Err-clause-reseeded : goal.returns-in-Err-clause-reseeded
returns-in-Err-clause-reseeded g c =
    explained_by _ _ c.in-Err.ensures.taken
    (λ events left failed samples counts. reseeded_err g.E.Engine.calls _ _ _ c.in-Err.failure _ samples _ events left (c.take_samples.auto.out ∙ c.requires.room) (failed samples counts))

pub returns-in-Ok-clause-wiped : goal.returns-in-Ok-clause-wiped
returns-in-Ok-clause-wiped g c = c.wipe.ensures ∙ ap zeros (c.take_samples.auto.out ∙ c.requires.room)

pub returns-in-Err-clause-wiped : goal.returns-in-Err-clause-wiped
returns-in-Err-clause-wiped g c = c.wipe-in-Err.ensures ∙ ap zeros (c.take_samples.auto.out ∙ c.requires.room)

pub returns-in-Ok-clause-counter : goal.returns-in-Ok-clause-counter
returns-in-Ok-clause-counter g c = ap (λ (d : Drbg). d.counter) c.drbg_reseed.ensures.drbg ∙ g.met.E.Engine.keeps.reseed_counter _ _ _ _

pub returns-in-Ok-clause-counted : goal.returns-in-Ok-clause-counted
returns-in-Ok-clause-counted g c =
    let (samples, counts) = c.requires.counts in
    (_, c.in-Ok.ensures.counts samples counts)
