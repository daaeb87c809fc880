-- The cryptographic services, for any engine: what each does at its slots.
use Rattle.std.specs.Prelude.{ℕ, Bool, List, [], length, take, if◌then◌else◌}
use Rattle.std.specs.Str.{bytes_eq}
use Rattle.bits_core.specs.Algorithms.{alg_size}
use Rattle.bits_core.specs.declared.algorithm.Alg.{Alg}
use Rattle.bits_core.specs.declared.parameter.Kind.TheVariants as kind
use Rattle.engine_core.specs.Calls.{Calls}
use Rattle.service_table.specs.declared.service.Service.TheVariants as service
use Rattle.service_table.specs.declared.status.Status.TheVariants as status
use Rattle.service_table.specs.Services.{is_approved}
use Rattle.ssp_slots.specs.declared.slot.Slot.{Slot}
use Rattle.crypto_services.specs.AtSlots.{Answer, SlotResult, SlotsResult, refusal, success, on_no_slot, source, on_source}

-- a digest; no slot is used
abbrev pub hash_result : {V : Type 0} → Calls V → V → Alg → List ℕ → List Slot → SlotsResult V
hash_result calls engine alg text slots = on_no_slot (calls.hash_after engine alg text) slots (success (take (alg_size alg) (calls.hash engine alg text)))

-- a MAC of a length, under the key of a slot
abbrev pub mac_at : {V : Type 0} → Calls V → V → Alg → ℕ → List ℕ → Slot → SlotResult V
mac_at calls engine alg mac_length text slot =
    on_source engine (source kind.Mac (is_approved service.Mac mac_length) slot)
    (λ key. calls.mac_after engine alg key text) (λ key. success (take mac_length (calls.mac engine alg key text)))

-- whether a tag is the leftmost part of a MAC
abbrev pub is_leftmost : List ℕ → List ℕ → Bool
is_leftmost tag mac = bytes_eq tag (take (length tag) mac)

abbrev pub verified : List ℕ → List ℕ → Answer
verified tag mac = if is_leftmost tag mac then success [] else refusal status.AuthFailed

-- a check of a tag, under the key of a slot
abbrev pub mac_verify_at : {V : Type 0} → Calls V → V → Alg → List ℕ → List ℕ → Slot → SlotResult V
mac_verify_at calls engine alg tag text slot =
    on_source engine (source kind.Mac (is_approved service.MacVerify (length tag)) slot)
    (λ key. calls.mac_after engine alg key text) (λ key. verified tag (calls.mac engine alg key text))
