-- The bridge between the parts of a module and the services.
use Rattle.std.specs.Prelude.{◌≡◌, ℕ, List, None}
use Rattle.service_table.specs.declared.status.Status.{Status}
use Rattle.crypto_services.specs.declared.parts.Parts.{Parts}
use Rattle.crypto_services.specs.declared.outcome.Outcome.{Outcome}
use Rattle.crypto_services.specs.AtSlots.{SlotsResult}
use Rattle.crypto_services.specs.Indicator.{ServiceUse, indicator}

-- The parts are those of the result: engine and slots are, and all else is as it was.
pub record Leaves {V : Type 0} (result : SlotsResult V) (old new : Parts V) : Type 0 where
  pub engine : new.engine ≡ result.engine
  pub vault : new.vault ≡ record old.vault { slots = result.slots }
  pub generator : new.drbg ≡ old.drbg
  pub health : new.health ≡ old.health

-- the outcome of a service that nothing failed in
abbrev pub outcome_of : {V : Type 0} → ServiceUse → SlotsResult V → Outcome
outcome_of use' result = record { status = result.answer.status; failure = None; approved = indicator use' result.answer.status result.slots }

-- the parts, the outcome and the payload are those of the result
pub record Serves {V : Type 0} (use' : ServiceUse) (result : SlotsResult V) (old new : Parts V) (outcome : Outcome) (payload : List ℕ) : Type 0 where
  pub leaves : Leaves result old new
  pub same_outcome : outcome ≡ outcome_of use' result
  pub same_payload : payload ≡ result.answer.payload

-- The same of a part of a service, which tells its status and no indicator.
pub record ServesInPart {V : Type 0} (result : SlotsResult V) (old new : Parts V) (outcome : Status) (payload : List ℕ) : Type 0 where
  pub leaves : Leaves result old new
  pub same_status : outcome ≡ result.answer.status
  pub same_payload : payload ≡ result.answer.payload
