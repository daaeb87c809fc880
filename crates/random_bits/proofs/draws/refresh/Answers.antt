use Rattle.std.proofs.Common.{◌≡◌, ◌≤◌, ◌∙◌, arith}
use Rattle.outside.proofs.Explanations.{explained_none, explained_by}
use Rattle.random_bits.proofs.Seeds.{refreshed_due, refreshed_still, seeded_once}
use Rattle.random_bits.proofs.draws.refresh.Goals as goal

pub returns-then-drbg-gt-RESEED_INTERVAL-clause-refreshed : goal.returns-then-drbg-gt-RESEED_INTERVAL-clause-refreshed
returns-then-drbg-gt-RESEED_INTERVAL-clause-refreshed g c =
    explained_by _ _ c.reseed.ensures.reseeded
    (λ events left reseeded samples counts. refreshed_due g.E.Engine.calls _ _ _ _ _ _ samples events left c.if-drbg-gt-RESEED_INTERVAL.true (reseeded samples counts))

pub returns-clause-refreshed : goal.returns-clause-refreshed
returns-clause-refreshed g c =
    explained_none _ _ (λ events samples counts. refreshed_still g.E.Engine.calls _ _ _ samples events c.if-drbg-gt-RESEED_INTERVAL.false counts)

pub returns-then-drbg-gt-RESEED_INTERVAL-clause-counter : goal.returns-then-drbg-gt-RESEED_INTERVAL-clause-counter
returns-then-drbg-gt-RESEED_INTERVAL-clause-counter g c = seeded_once c.reseed.result c.reseed.new.drbg.counter c.reseed.ensures.counter
