use Rattle.std.proofs.Common.{◌++◌, ◌∙◌, List, ℕ, ap}
use Rattle.bits_core.specs.OutboxContents.{OutboxContents}
use Rattle.outside.proofs.Explanations.{explained_by}
use Rattle.crypto_services.proofs.draws.put_draw.Goals as goal

pub returns-in-Ok-clause-drawn : goal.returns-in-Ok-clause-drawn
returns-in-Ok-clause-drawn g c =
    explained_by _ _ c.in-Ok.ensures.drawn
    (λ events left drawn samples counts.
    let one = drawn samples counts in (
      one.0,
      ap (λ (contents : OutboxContents). contents.bytes) c.put.ensures.put ∙ ap (λ (xs : List ℕ). xs ++ c.draw_into.new.out) c.requires.empty ∙ one.1,
    ))
