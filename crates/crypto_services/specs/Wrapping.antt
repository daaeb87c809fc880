-- Parameters that leave and enter the module wrapped by the key of a slot (SP 800-38F): what it does at the two slots.
use Rattle.std.specs.Prelude.{ℕ, ◌%◌, ◌==◌, nat_le, ◌&&◌, ◌||◌, Bool, List, length, take, Option, Some, None, if◌then◌else◌}
use Rattle.bits_core.specs.declared.parameter.Domain.{Domain}
use Rattle.bits_core.specs.declared.parameter.Header.{Header}
use Rattle.bits_core.specs.declared.parameter.Kind.{Kind}
use Rattle.bits_core.specs.declared.parameter.Kind.TheVariants as kinds
use Rattle.bits_core.specs.Parameters.{length_fits}
use Rattle.engine_core.specs.Calls.{Calls}
use Rattle.engine_core.specs.Results.{Wrapped}
use Rattle.service_table.specs.declared.status.Status.TheVariants as status
use Rattle.service_table.specs.Services.{is_approved, wrapping_service, unwrapping_service}
use Rattle.ssp_slots.specs.declared.slot.Slot.{Slot}
use Rattle.ssp_slots.specs.Refusals.{export_fault, vacancy_fault}
use Rattle.ssp_slots.specs.Slots.{parameter}
use Rattle.crypto_services.specs.AtSlots.{Source, SlotResult, SlotsResult, success, source, refused_at, unless_fault, filled_at, on_two_slots}

-- without padding, whole semiblocks of eight bytes are wrapped, and at least two of them (SP 800-38F, 5.3.1)
abbrev pub is_wrappable : Bool → ℕ → Bool
is_wrappable pad n = pad || (nat_le 16 n && n % 8 == 0)

-- the wrapped bytes
abbrev pub wrapping_in : Wrapped → List ℕ
wrapping_in wrapped = take wrapped.size wrapped.buf

-- the second slot's parameter is wrapped, where it may leave under a key of this domain
abbrev pub wrap_at : {V : Type 0} → Calls V → V → (pad : Bool) → (key : List ℕ) → Domain → Slot → SlotResult V
wrap_at calls engine pad key domain slot =
    unless_fault engine slot (export_fault slot.header domain)
    (
    if is_wrappable pad slot.length
    then record {
      engine = calls.wrap_after engine pad key (parameter slot);
      slot = slot;
      answer = success (wrapping_in (calls.wrap engine pad key (parameter slot)));
    }
    else refused_at engine slot status.BadLength
    )

-- the slot is filled where the length fits its header
abbrev pub filled_if_fits : {V : Type 0} → V → Slot → Header → List ℕ → SlotResult V
filled_if_fits engine slot header bytes =
    if length_fits header.kind header.domain (length bytes) then filled_at engine header bytes else refused_at engine slot status.BadLength

-- the slot is filled with the plaintext, where there is one
abbrev pub filled_by_unwrapping : {V : Type 0} → V → Slot → Header → List ℕ → Option ℕ → SlotResult V
filled_by_unwrapping engine slot header buf None = refused_at engine slot status.UnwrapFailed
filled_by_unwrapping engine slot header buf (Some size) = filled_if_fits engine slot header (take size buf)

-- what a command says of a parameter that it makes under a key: the domain is that of the key
abbrev pub header_under : Kind → Bool → ℕ → Domain → Header
header_under kind export uses domain = record { kind = kind; domain = domain; export = export; uses = uses }

-- the target is filled with what the wrapped bytes hold
abbrev pub unwrap_at : {V : Type 0} → Calls V → V → (pad : Bool) → (kind : Kind) → (export : Bool) → (uses : ℕ) → (wrapped key : List ℕ) → Domain → Slot → SlotResult V
unwrap_at calls engine pad kind export uses wrapped key domain slot =
    let result = calls.unwrap engine pad key wrapped in
    unless_fault engine slot (vacancy_fault slot.header)
    (filled_by_unwrapping (calls.unwrap_after engine pad key wrapped) slot (header_under kind export uses domain) result.buf result.size)

-- the key that wraps
abbrev pub wrapping_source : Bool → Slot → Source
wrapping_source pad slot = source kinds.Kek (is_approved (wrapping_service pad) 0) slot

-- the key that unwraps
abbrev pub unwrapping_source : Bool → Slot → Source
unwrapping_source pad slot = source kinds.Kek (is_approved (unwrapping_service pad) 0) slot

abbrev pub wrap_result : {V : Type 0} → Calls V → V → (pad : Bool) → (kek second : ℕ) → List Slot → SlotsResult V
wrap_result calls engine pad kek second slots = on_two_slots engine slots kek second (wrapping_source pad) (wrap_at calls engine pad)

abbrev pub unwrap_result : {V : Type 0} → Calls V → V → (pad : Bool) → (kek target : ℕ) → (kind : Kind) → (export : Bool) → (uses : ℕ) → (wrapped : List ℕ) → List Slot → SlotsResult V
unwrap_result calls engine pad kek target kind export uses wrapped slots =
    on_two_slots engine slots kek target (unwrapping_source pad) (unwrap_at calls engine pad kind export uses wrapped)
