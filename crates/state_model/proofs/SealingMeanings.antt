-- What the services under one key give where the engine is standard: MACs, and texts sealed and opened.
use Rattle.std.proofs.Common.{◌≡◌, ◌≢◌, ◌≤◌, ℕ, List, [], Bool, true, false, Option, Some, None, length, take, refl, ap, subst, ◌∙◌, arith, if◌then◌else◌}
use Rattle.std.specs.Bool.{Decides}
use Rattle.std.specs.Prelude.{bytes_eq}
use Rattle.std.proofs.lemmas.Bool.{false≢true}
use Rattle.std.proofs.lemmas.List.{take-append-le}
use Rattle.std.proofs.lemmas.Slice.Eq.{bytes_eq-Decides}
use Rattle.bits_core.specs.declared.algorithm.Alg.{Alg}
use Rattle.bits_core.specs.Algorithms.{alg_size}
use Rattle.bits_core.specs.ByteList.{zeros, zero_padded}
use Rattle.gcm_mode.specs.Gcm.{gcm_tag, gcm_text}
use Rattle.hmac_core.specs.Hmac.{hmac}
use Rattle.hmac_core.proofs.Lengths.{length-hmac}
use Rattle.service_table.specs.declared.status.Status.TheVariants as status
use Rattle.ssp_slots.specs.declared.slot.Slot.{Slot}
use Rattle.ssp_slots.specs.declared.slot_fault.SlotFault.{SlotFault}
use Rattle.ssp_slots.specs.Slots.{parameter}
use Rattle.engine_core.specs.Calls.{Calls, IsStandard}
use Rattle.engine_core.specs.Results.{Opened}
use Rattle.engine_core.specs.Standards.{gcm_decrypt}
use Rattle.crypto_services.specs.AtSlots.{Answer, fault_status, source_by, on_source, success, refusal}
use Rattle.crypto_services.specs.Services.{is_leftmost}
use Rattle.crypto_services.specs.Sealing.{opened}

-- the front of a MAC is that of the padded one
take-padded_hmac : (alg : Alg) (n : ℕ) (key text : List ℕ) → n ≤ alg_size alg → take n (zero_padded 64 (hmac alg key text)) ≡ take n (hmac alg key text)
take-padded_hmac alg n key text within = take-append-le n (hmac alg key text) _ (omega (arith, length-hmac alg key text, within))

pub standard_mac : {V : Type 0} (calls : Calls V) → IsStandard calls → (engine : V) (alg : Alg) (n : ℕ) (key text : List ℕ) → n ≤ alg_size alg
    → take n (calls.mac engine alg key text) ≡ take n (hmac alg key text)
standard_mac calls standard engine alg n key text within = ap (take n) (standard.mac engine alg key text) ∙ take-padded_hmac alg n key text within

-- what holds of a refusal and of what is done with the key holds of what a source answers
pub by_source : {V : Type 0} (P : Answer → Type 0) (engine : V) (slot : Slot) (fault : Option SlotFault) (after : List ℕ → V) (answer : List ℕ → Answer)
    → ((reason : SlotFault) → P (refusal (fault_status reason))) → P (answer (parameter slot)) → P (on_source engine (source_by slot fault) after answer).answer
by_source P engine slot None after answer refused served = served
by_source P engine slot (Some reason) after answer refused served = refused reason

-- whether a given MAC is the leftmost part of the right one
pub decided : {V : Type 0} (calls : Calls V) → IsStandard calls → (engine : V) (alg : Alg) (tag key text : List ℕ) → length tag ≤ alg_size alg
    → Decides (is_leftmost tag (calls.mac engine alg key text)) (tag ≡ take (length tag) (hmac alg key text))
decided calls standard engine alg tag key text within =
    let Decided : List ℕ → Type 0 = λ front. Decides (is_leftmost tag (calls.mac engine alg key text)) (tag ≡ front) in
    subst Decided (standard_mac calls standard engine alg (length tag) key text within) (bytes_eq-Decides tag (take (length tag) (calls.mac engine alg key text)))

-- a MAC is told right or wrong as it is
pub verified_means : (tag mac : List ℕ) (same : Bool) → Decides same (tag ≡ mac)
    → (let answer : Answer = if same then success [] else refusal status.AuthFailed in (answer.status ≡ status.Ok → tag ≡ mac) × (answer.status ≡ status.AuthFailed → tag ≢ mac))
verified_means tag mac true decides = (λ ok. decides.0 refl, λ failed. cc)
verified_means tag mac false decides = (λ ok. cc, λ failed right. absurd (false≢true (decides.1 right)))

-- a text that is given out is that of the ciphertext, and a tag is told right or wrong as it is
pub opened_means : (key iv aad text tag : List ℕ)
    → (let answer : Answer = opened (gcm_decrypt key iv aad text tag) in
    (answer.status ≡ status.Ok → (answer.payload ≡ gcm_text key iv text) × (tag ≡ take (length tag) (gcm_tag key iv aad text)))
    × (answer.status ≡ status.AuthFailed → tag ≢ take (length tag) (gcm_tag key iv aad text)))
opened_means key iv aad text tag = by_tag (bytes_eq tag (take (length tag) (gcm_tag key iv aad text))) (bytes_eq-Decides tag (take (length tag) (gcm_tag key iv aad text)))
  where
    by_tag : (same : Bool) → Decides same (tag ≡ take (length tag) (gcm_tag key iv aad text))
        → (let result : Opened = if same then record { authentic = true; text = gcm_text key iv text } else record { authentic = false; text = zeros (length text) } in
        let answer : Answer = opened result in
        (answer.status ≡ status.Ok → (answer.payload ≡ gcm_text key iv text) × (tag ≡ take (length tag) (gcm_tag key iv aad text)))
        × (answer.status ≡ status.AuthFailed → tag ≢ take (length tag) (gcm_tag key iv aad text)))
    by_tag true decides = (λ ok. (refl, decides.0 refl), λ failed. cc)
    by_tag false decides = (λ ok. cc, λ failed right. absurd (false≢true (decides.1 right)))
