-- What a service leaves that draws before it does anything else.
use Rattle.std.proofs.Common.{◌≡◌, ◌∙◌, ℕ, List, [], Option, Some, Ok, Err, false, refl, sym, subst, ap}
use Rattle.noise_health.specs.Counts.{Counts}
use Rattle.outside.specs.declared.traits.Sample.{Sample}
use Rattle.random_bits.specs.Draws.{Drawn, IsDrawn}
use Rattle.service_table.specs.declared.failure.Failure.{Failure}
use Rattle.service_table.specs.declared.status.Status.TheVariants as status
use Rattle.ssp_slots.specs.declared.slot.Slot.{Slot}
use Rattle.ssp_slots.specs.Slots.{Contents}
use Rattle.noise_health.specs.declared.health.Health.{Health}
use Rattle.crypto_services.specs.declared.outcome.Outcome.{Outcome}
use Rattle.crypto_services.specs.declared.parts.Parts.{Parts}
use Rattle.crypto_services.specs.AtSlots.{SlotsResult}
use Rattle.crypto_services.specs.Drawing.{after_draw_by, after_draw, ServesDrawn}
use Rattle.crypto_services.specs.Indicator.{ServiceUse, indicator}
use Rattle.crypto_services.specs.Serves.{Serves}

-- the outcome where the noise failed
abbrev pub failed_outcome : Option Failure → Outcome
failed_outcome failure = record { status = status.NoiseFault; failure = failure; approved = false }

-- where the noise failed, nothing is done at the slots
pub draw_failed : {V : Type 0} (use' : ServiceUse) (drawn : Drawn V) (service : V → List ℕ → List Slot → SlotsResult V) (old new : Parts V) (failure : Failure) (outcome : Outcome) (payload : List ℕ) (left : List Sample)
    → IsDrawn drawn new.engine new.drbg new.health (Err failure) left → new.vault ≡ old.vault → outcome ≡ failed_outcome (Some failure) → payload ≡ []
    → ServesDrawn use' drawn (after_draw drawn old.vault.slots service) old new outcome payload left
draw_failed {V} use' drawn service old new failure outcome payload left is vault outcome' payload' =
    subst (λ (result : SlotsResult V). ServesDrawn use' drawn result old new outcome payload left)
    (sym (ap (λ (failed : Option Failure). after_draw_by drawn failed old.vault.slots service) is.same_answer))
    (record {
      engine = is.same_engine;
      vault = vault;
      generator = is.same_generator;
      counts = is.counts;
      same_outcome = outcome' ∙ ap failed_outcome (sym is.same_answer);
      same_payload = payload';
      events_left = is.events_left;
    })

-- and else the service follows, on the parts that the draw left
pub draw_served : {V : Type 0} (use' : ServiceUse) (drawn : Drawn V) (service : V → List ℕ → List Slot → SlotsResult V) (old middle new : Parts V) (bytes : List ℕ) (outcome : Outcome) (payload : List ℕ) (left : List Sample)
    → IsDrawn drawn middle.engine middle.drbg middle.health (Ok tt) left → bytes ≡ drawn.bytes → middle.vault ≡ old.vault
    → Serves use' (service middle.engine bytes middle.vault.slots) middle new outcome payload
    → ServesDrawn use' drawn (after_draw drawn old.vault.slots service) old new outcome payload left
draw_served {V} use' drawn service old middle new bytes outcome payload left is bytes' vault serves =
    let result : SlotsResult V = service middle.engine bytes middle.vault.slots in
    let same : after_draw drawn old.vault.slots service ≡ service middle.engine bytes middle.vault.slots =
    ap (λ (failed : Option Failure). after_draw_by drawn failed old.vault.slots service) is.same_answer
    ∙ ap (λ (engine : V). service engine drawn.bytes old.vault.slots) (sym is.same_engine)
    ∙ ap (λ (drawn' : List ℕ). service middle.engine drawn' old.vault.slots) (sym bytes')
    ∙ ap (λ (vault' : Contents). service middle.engine bytes vault'.slots) (sym vault) in
    let with_failure : Option Failure → Outcome = λ failure. record { status = result.answer.status; failure = failure; approved = indicator use' result.answer.status result.slots } in
    let laid : Contents → Contents = λ vault'. record vault' { slots = result.slots } in
    subst (λ (result' : SlotsResult V). ServesDrawn use' drawn result' old new outcome payload left) (sym same)
    (record {
      engine = serves.leaves.engine;
      vault = serves.leaves.vault ∙ ap laid vault;
      generator = serves.leaves.generator ∙ is.same_generator;
      counts = λ none. subst (λ (health : Health). Counts health drawn.samples) (sym serves.leaves.health) (is.counts none);
      same_outcome = serves.same_outcome ∙ ap with_failure (sym is.same_answer);
      same_payload = serves.same_payload;
      events_left = is.events_left;
    })

-- where the engine isn't used behind the draw, the parts before the service are those after it with the old vault
pub draw_settled : {V : Type 0} (use' : ServiceUse) (drawn : Drawn V) (service : V → List ℕ → List Slot → SlotsResult V) (old new : Parts V) (bytes : List ℕ) (outcome : Outcome) (payload : List ℕ) (left : List Sample)
    → IsDrawn drawn new.engine new.drbg new.health (Ok tt) left → bytes ≡ drawn.bytes
    → Serves use' (service new.engine bytes old.vault.slots) (record new { vault = old.vault }) new outcome payload
    → ServesDrawn use' drawn (after_draw drawn old.vault.slots service) old new outcome payload left
draw_settled use' drawn service old new bytes outcome payload left is bytes' serves =
    draw_served use' drawn service old (record new { vault = old.vault }) new bytes outcome payload left is bytes' refl serves
