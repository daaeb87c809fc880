-- The commit of an entry (ISO/IEC 19790:2012, 7.9.5, asks that entered parameters are checked; how is this project's own): it is whole,
-- its slot is empty, and it checks.
use Rattle.std.specs.Prelude.{ℕ, ◌==◌, not, Bool, true, false, List, [], ◌∷◌, ◌++◌, length, take, if◌then◌else◌}
use Rattle.std.specs.Int.{to_be_bytes, w32}
use Rattle.std.specs.Str.{bytes_eq}
use Rattle.bits_core.specs.declared.algorithm.Alg.TheVariants.{Sha256}
use Rattle.bits_core.specs.Parameters.{kind_number, domain_number}
use Rattle.service_table.specs.declared.status.Status.{Status}
use Rattle.service_table.specs.declared.status.Status.TheVariants as status
use Rattle.ssp_slots.specs.declared.slot.Slot.{Slot}
use Rattle.ssp_slots.specs.Refusals.{vacancy_fault}
use Rattle.engine_core.specs.Calls.{Calls}
use Rattle.crypto_services.specs.AtSlots.{SlotResult, refused_at, unless_fault, filled_at}
use Rattle.state_model.specs.declared.entry.Entry.{Entry}
use Rattle.state_model.specs.declared.entry.Target.{Target}

-- what a target is in the body that began its entry: slot, kind, domain, export flag, uses in four bytes, length
abbrev pub target_bytes : Target → List ℕ
target_bytes target =
    target.slot ∷ kind_number target.header.kind ∷ domain_number target.header.domain ∷ (if target.header.export then 1 else 0)
    ∷ (to_be_bytes w32 target.header.uses ++ (target.length ∷ []))

-- the bytes that were entered
abbrev pub entered : Entry → List ℕ
entered entry = take entry.filled entry.bytes

-- the check value: the leftmost 8 bytes of the engine's HMAC-SHA-256 of the target under the entered bytes
abbrev pub check_value : {V : Type 0} → Calls V → V → Target → List ℕ → List ℕ
check_value calls engine target bytes = take 8 (calls.mac engine Sha256 bytes (target_bytes target))

-- the engine has made the MAC of a check
abbrev pub after_check : {V : Type 0} → Calls V → V → Target → List ℕ → V
after_check calls engine target bytes = calls.mac_after engine Sha256 bytes (target_bytes target)

-- refused for a reason that applies, and else served
abbrev pub unless : {V : Type 0} → V → Slot → Bool → Status → SlotResult V → SlotResult V
unless engine slot true reason served = refused_at engine slot reason
unless engine slot false reason served = served

-- A commit at the target's slot. Looked at in this order: as many bytes were entered as the parameter has, the slot is empty, and the
-- check value is right. Then the slot holds the parameter.
abbrev pub commit_at : {V : Type 0} → Calls V → V → Target → List ℕ → List ℕ → Slot → SlotResult V
commit_at calls engine target bytes check slot =
    let after = after_check calls engine target bytes in
    unless engine slot (not (length bytes == target.length)) status.BadLength
    (unless_fault engine slot (vacancy_fault slot.header)
    (unless after slot (not (bytes_eq check (check_value calls engine target bytes))) status.CheckFailed
    (filled_at after target.header bytes)))
