-- Authenticated encryption by an engine, under the key of a slot (SP 800-38D): what it does at the slot.
use Rattle.std.specs.Prelude.{ℕ, List, ◌++◌, take, if◌then◌else◌}
use Rattle.bits_core.specs.declared.parameter.Kind.TheVariants as kind
use Rattle.engine_core.specs.Calls.{Calls}
use Rattle.engine_core.specs.Results.{Opened}
use Rattle.gcm_mode.specs.Gcm.{Sealed}
use Rattle.service_table.specs.declared.service.Service.TheVariants as service
use Rattle.service_table.specs.declared.status.Status.TheVariants as status
use Rattle.service_table.specs.Services.{is_approved}
use Rattle.ssp_slots.specs.declared.slot.Slot.{Slot}
use Rattle.crypto_services.specs.AtSlots.{Answer, SlotResult, SlotsResult, refusal, success, source, on_source, on_slot}

-- the ciphertext, and behind it the leftmost bytes of the tag, as many as were asked for
abbrev pub with_tag : ℕ → Sealed → List ℕ
with_tag tag_length sealed = sealed.ciphertext ++ take tag_length sealed.tag

-- encryption with an IV of the caller's: never an approved use
abbrev pub seal_iv_at : {V : Type 0} → Calls V → V → (tag_length : ℕ) → (iv aad text : List ℕ) → Slot → SlotResult V
seal_iv_at calls engine tag_length iv aad text slot =
    on_source engine (source kind.Aes (is_approved service.SealIv 0) slot)
    (λ key. calls.seal_after engine key iv aad text) (λ key. success (with_tag tag_length (calls.seal engine key iv aad text)))

-- encryption with an IV that was drawn, which stands before the ciphertext
abbrev pub seal_at : {V : Type 0} → Calls V → V → (tag_length : ℕ) → (iv aad text : List ℕ) → Slot → SlotResult V
seal_at calls engine tag_length iv aad text slot =
    on_source engine (source kind.Aes (is_approved service.Seal 0) slot)
    (λ key. calls.seal_after engine key iv aad text) (λ key. success (iv ++ with_tag tag_length (calls.seal engine key iv aad text)))

-- the same at the slot with a number, after a draw of the IV
abbrev pub seal_result : {V : Type 0} → Calls V → (slot tag_length : ℕ) → (aad text : List ℕ) → V → (iv : List ℕ) → List Slot → SlotsResult V
seal_result calls slot tag_length aad text engine iv slots = on_slot slots slot (seal_at calls engine tag_length iv aad text)

-- the plaintext where the tag is right, and else nothing of it
abbrev pub opened : Opened → Answer
opened result = if result.authentic then success result.text else refusal status.AuthFailed

-- decryption
abbrev pub open_at : {V : Type 0} → Calls V → V → (iv aad text tag : List ℕ) → Slot → SlotResult V
open_at calls engine iv aad text tag slot =
    on_source engine (source kind.Aes (is_approved service.Open 0) slot)
    (λ key. calls.open_after engine key iv aad text tag) (λ key. opened (calls.open engine key iv aad text tag))
