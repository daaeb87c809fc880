-- Services that draw from the generator: the draw comes first, before any slot is looked at, and the slots are looked at only where the
-- noise didn't fail. That order is this project's own.
use Rattle.std.specs.Prelude.{◌≡◌, ℕ, List, [], Option, Some, None}
use Rattle.bits_core.specs.declared.parameter.Header.{Header}
use Rattle.noise_health.specs.Counts.{Counts}
use Rattle.outside.specs.declared.traits.Sample.{Sample}
use Rattle.random_bits.specs.Draws.{Drawn}
use Rattle.service_table.specs.declared.failure.Failure.{Failure}
use Rattle.service_table.specs.declared.status.Status.TheVariants as status
use Rattle.ssp_slots.specs.declared.slot.Slot.{Slot}
use Rattle.ssp_slots.specs.Refusals.{vacancy_fault}
use Rattle.crypto_services.specs.declared.outcome.Outcome.{Outcome}
use Rattle.crypto_services.specs.declared.parts.Parts.{Parts}
use Rattle.crypto_services.specs.AtSlots.{SlotResult, SlotsResult, refusal, success, on_no_slot, on_slot, unless_fault, filled_at}
use Rattle.crypto_services.specs.Indicator.{ServiceUse, indicator}

-- what a service does after its draw, with the engine and the bytes of it, unless the noise failed
abbrev pub after_draw_by : {V : Type 0} → Drawn V → Option Failure → List Slot → (V → List ℕ → List Slot → SlotsResult V) → SlotsResult V
after_draw_by drawn None slots service = service drawn.engine drawn.bytes slots
after_draw_by drawn (Some failure) slots service = on_no_slot drawn.engine slots (refusal status.NoiseFault)

abbrev pub after_draw : {V : Type 0} → Drawn V → List Slot → (V → List ℕ → List Slot → SlotsResult V) → SlotsResult V
after_draw drawn slots service = after_draw_by drawn drawn.failure slots service

-- the drawn bytes are given out; no slot is used
abbrev pub random_result : {V : Type 0} → V → List ℕ → List Slot → SlotsResult V
random_result engine bytes slots = on_no_slot engine slots (success bytes)

-- the generator is new; no slot is used, and nothing given out
abbrev pub reseed_result : {V : Type 0} → V → List ℕ → List Slot → SlotsResult V
reseed_result engine bytes slots = on_no_slot engine slots (success [])

-- an empty slot is filled with the drawn bytes
abbrev pub generate_at : {V : Type 0} → V → Header → List ℕ → Slot → SlotResult V
generate_at engine header bytes slot = unless_fault engine slot (vacancy_fault slot.header) (filled_at engine header bytes)

abbrev pub generate_result : {V : Type 0} → (target : ℕ) → Header → V → List ℕ → List Slot → SlotsResult V
generate_result target header engine bytes slots = on_slot slots target (generate_at engine header bytes)

-- Parts, outcome and payload are those of a draw and of a result at the slots, and these events are left. Where the noise failed, the
-- outcome tells what did, and the counters count nothing.
pub record ServesDrawn {V : Type 0} (use' : ServiceUse) (drawn : Drawn V) (result : SlotsResult V) (old new : Parts V) (outcome : Outcome) (payload : List ℕ) (left : List Sample) : Type 0 where
  pub engine : new.engine ≡ result.engine
  pub vault : new.vault ≡ record old.vault { slots = result.slots }
  pub generator : new.drbg ≡ drawn.generator
  pub counts : drawn.failure ≡ None → Counts new.health drawn.samples
  pub same_outcome : outcome ≡ record { status = result.answer.status; failure = drawn.failure; approved = indicator use' result.answer.status result.slots }
  pub same_payload : payload ≡ result.answer.payload
  pub events_left : drawn.left ≡ left
