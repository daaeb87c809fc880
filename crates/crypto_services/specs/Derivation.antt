-- Key derivation by an engine, from the key of a slot into another (SP 800-108 Rev. 1, 4.1).
use Rattle.std.specs.Prelude.{ℕ, Bool, List}
use Rattle.bits_core.specs.declared.parameter.Domain.{Domain}
use Rattle.bits_core.specs.declared.parameter.Kind.{Kind}
use Rattle.bits_core.specs.declared.parameter.Kind.TheVariants as kinds
use Rattle.engine_core.specs.Calls.{Calls}
use Rattle.service_table.specs.declared.service.Service.TheVariants as service
use Rattle.service_table.specs.Services.{is_approved}
use Rattle.ssp_slots.specs.declared.slot.Slot.{Slot}
use Rattle.ssp_slots.specs.Refusals.{vacancy_fault}
use Rattle.crypto_services.specs.AtSlots.{Source, SlotResult, SlotsResult, source, unless_fault, filled_at, on_two_slots}
use Rattle.crypto_services.specs.Wrapping.{header_under}

-- the target is filled with as many bytes of key material as are asked for
abbrev pub derive_at : {V : Type 0} → Calls V → V → (kind : Kind) → (export : Bool) → (uses n : ℕ) → (label context key : List ℕ) → Domain → Slot → SlotResult V
derive_at calls engine kind export uses n label context key domain slot =
    unless_fault engine slot (vacancy_fault slot.header)
    (filled_at (calls.derive_after engine key label context n) (header_under kind export uses domain) (calls.derive engine key label context n))

-- the key from which is derived
abbrev pub derivation_source : Slot → Source
derivation_source slot = source kinds.Kdf (is_approved service.Derive 0) slot

abbrev pub derive_result : {V : Type 0} → Calls V → V → (from target : ℕ) → (kind : Kind) → (export : Bool) → (uses n : ℕ) → (label context : List ℕ) → List Slot → SlotsResult V
derive_result calls engine from target kind export uses n label context slots =
    on_two_slots engine slots from target derivation_source (derive_at calls engine kind export uses n label context)
