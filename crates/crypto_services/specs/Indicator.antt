-- The indicator of approved services. ISO/IEC 19790:2012, 7.2.4.2, asks for one; its rule, by the named slots, is this project's own.
use Rattle.std.specs.Prelude.{ℕ, ◌==◌, ◌&&◌, Bool, false, List}
use Rattle.std.specs.List.{list_all}
use Rattle.std.specs.Option.{option_map_or}
use Rattle.bits_core.specs.declared.parameter.Domain.TheVariants.{Approved}
use Rattle.service_table.specs.declared.service.Service.{Service}
use Rattle.service_table.specs.declared.status.Status.{Status}
use Rattle.service_table.specs.declared.status.Status.TheVariants as status
use Rattle.service_table.specs.Numbers.{status_number}
use Rattle.service_table.specs.Services.{is_approved}
use Rattle.ssp_slots.specs.declared.slot.Slot.{Slot}
use Rattle.ssp_slots.specs.Refusals.{is_domain}
use Rattle.crypto_services.specs.AtSlots.{slot_at}

-- a use of a service: with a MAC of this length where it has one, and the slots that the command names
pub record ServiceUse : Type 0 where
  pub service : Service
  pub mac_length : ℕ
  pub named : List ℕ

-- a slot holds a parameter of the approved domain
abbrev pub is_in_approved : Slot → Bool
is_in_approved slot = option_map_or (λ header. is_domain header.domain Approved) slot.header false

abbrev pub is_ok : Status → Bool
is_ok outcome = status_number outcome == status_number status.Ok

-- It was done, it is an approved use, and each slot that the command names holds a parameter of the approved domain after it.
abbrev pub indicator : ServiceUse → Status → List Slot → Bool
indicator use' outcome slots = is_ok outcome && (is_approved use'.service use'.mac_length && list_all (λ id. is_in_approved (slot_at slots id)) use'.named)
