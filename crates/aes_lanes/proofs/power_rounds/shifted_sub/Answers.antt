use Rattle.std.proofs.Common.{◌≡◌, ℕ, refl, ap, ◌∙◌, slice_index}
use Rattle.aes_spec.specs.Field.{sub_byte}
use Rattle.aes_spec.specs.Aes.{sub_bytes}
use Rattle.aes_lanes.proofs.Tower.{below_16}
use Rattle.aes_lanes.proofs.power_rounds.shifted_sub.Goals as goal

pub returns : goal.returns
returns c j s h es =
    c.shifted.ensures j (sub_bytes s) h
    (λ r hr.
    c.substituted.ensures r j hr h
    ∙ ap sub_byte (es r hr)
    ∙ below_16 (λ (r : ℕ). sub_byte (slice_index s r) ≡ slice_index (sub_bytes s) r) refl refl refl refl refl refl refl refl refl refl refl refl refl refl refl refl r hr)
