-- What the cryptographic services mean where the engine answers as the standards say.
use Rattle.std.specs.Prelude.{◌≡◌, ◌≢◌, ◌<◌, ◌≤◌, ℕ, List, [], ◌++◌, length, take, Some, None}
use Rattle.bits_core.specs.declared.algorithm.Alg.{Alg}
use Rattle.bits_core.specs.declared.parameter.Domain.{Domain}
use Rattle.drbg_core.specs.declared.generator.Drbg.{Drbg}
use Rattle.drbg_core.specs.Generator.{generate, reseed}
use Rattle.gcm_mode.specs.Gcm.{gcm_encrypt, gcm_tag, gcm_text}
use Rattle.hmac_core.specs.Hash.{hash}
use Rattle.hmac_core.specs.Hmac.{hmac}
use Rattle.kbkdf_core.specs.CounterMode.{kbkdf_counter}
use Rattle.service_table.specs.declared.status.Status.TheVariants as status
use Rattle.service_table.specs.Numbers.{service_numbered}
use Rattle.ssp_slots.specs.declared.slot.Slot.{Slot}
use Rattle.ssp_slots.specs.Slots.{parameter, filled_slot}
use Rattle.outside.specs.declared.traits.Sample.{Sample}
use Rattle.module_frames.specs.CommandFrames.{CommandFrame}
use Rattle.module_frames.specs.Requests.{CryptographicRequest}
use Rattle.module_frames.specs.Requests as request
use Rattle.engine_core.specs.Calls.{Calls, IsStandard}
use Rattle.engine_core.specs.Standards.{wrapping, unwrapping}
use Rattle.crypto_services.specs.AtSlots.{Answer, slot_at, domain_at}
use Rattle.crypto_services.specs.Sealing.{with_tag}
use Rattle.crypto_services.specs.Wrapping.{header_under}
use Rattle.state_model.specs.MachineState.{MachineState, IsWellFormed}
use Rattle.state_model.specs.Management.{Stepped}
use Rattle.state_model.specs.ModuleView.{ModuleView}
use Rattle.state_model.specs.Step.{step, request_at}

-- what is held of keys and of random bits: the slots, and the generator
pub record Held : Type 0 where
  pub slots : List Slot
  pub generator : Drbg

abbrev pub held_in : {V : Type 0} → ModuleView V → Held
held_in m = record { slots = m.vault.slots; generator = m.generator }

abbrev pub held_by : {V : Type 0} → MachineState V → Held
held_by s = record { slots = s.slots; generator = s.shared.generator }

-- the bytes of the parameter that a slot holds
abbrev pub key_at : List Slot → ℕ → List ℕ
key_at slots id = parameter (slot_at slots id)

-- the domain of that parameter
abbrev pub key_domain_at : List Slot → ℕ → Domain
key_domain_at slots id = domain_at (slot_at slots id).header

-- the leftmost bytes of the HMAC (FIPS 198-1) of a text under the parameter that a slot holds
abbrev pub mac_under : List Slot → ℕ → Alg → ℕ → List ℕ → List ℕ
mac_under slots id alg mac_length text = take mac_length (hmac alg (key_at slots id) text)

-- the leftmost bytes of the tag (SP 800-38D, 7.2, step 7) of a ciphertext under the parameter that a slot holds
abbrev pub tag_under : List Slot → ℕ → (iv aad ciphertext : List ℕ) → ℕ → List ℕ
tag_under slots id iv aad ciphertext tag_length = take tag_length (gcm_tag (key_at slots id) iv aad ciphertext)

-- the ciphertext of a text (SP 800-38D, 7.1) under the parameter that a slot holds, and behind it the leftmost bytes of the tag
abbrev pub sealed_under : List Slot → ℕ → (tag_length : ℕ) → (iv aad text : List ℕ) → List ℕ
sealed_under slots id tag_length iv aad text = with_tag tag_length (gcm_encrypt (key_at slots id) iv aad text)

-- The generator that answers a request: the one found, or where that has answered as many as one seed allows, it reseeded with 256
-- samples (SP 800-90A Rev. 1, 9.3.1, step 7). That the request's additional input isn't the reseed's is this project's own.
pub record IsReady (found ready : Drbg) : Type 0 where
  pub same : found.counter ≤ 1024 → ready ≡ found
  pub reseeded : 1024 < found.counter → (samples : List ℕ) × (length samples ≡ 256) × (ready ≡ reseed found samples [])

-- so many bytes that the generator found gave for this additional input, which left the generator after (10.1.2.5)
pub record AreDrawn (found after : Drbg) (additional : List ℕ) (n : ℕ) (bytes : List ℕ) : Type 0 where
  pub ready : Drbg
  pub is_ready : IsReady found ready
  pub same_bytes : bytes ≡ (generate ready additional n).bytes
  pub same_after : after ≡ (generate ready additional n).after
  pub long : length bytes ≡ n

-- What the answer to a request means, by what is held before and after it.
-- Hash gives the digest (FIPS 180-4). Mac gives the leftmost bytes of the HMAC; MacVerify was done only where the given MAC is these
-- bytes, and is told AuthFailed only where it isn't.
-- Seal gives an IV of 12 bytes that was drawn, and the text sealed with it (SP 800-38D, 7.1 and 8.2.2); SealIv the text sealed with the
-- given IV. Open gives the text of a ciphertext whose tag is right, and is told AuthFailed only where it isn't (7.2).
-- Wrap gives the second slot's parameter wrapped by the first's (SP 800-38F, 6.2, or with padding 6.3). Unwrap has filled the target with
-- what was wrapped, in the domain of the key that unwrapped it, and is told UnwrapFailed only where nothing was.
-- Derive has filled the target with the key material (SP 800-108 Rev. 1, 4.1), in the domain of the key that it is derived from.
-- Random gives drawn bytes, Generate has filled the target with them, and Reseed has reseeded the generator (SP 800-90A Rev. 1, 9.2).
abbrev pub MeansTheStandard : CryptographicRequest → (before after : Held) → Answer → Type 0
MeansTheStandard (request.Hash alg text) before after answer = answer.status ≡ status.Ok → answer.payload ≡ hash alg text
MeansTheStandard (request.Mac slot alg mac_length text) before after answer =
    answer.status ≡ status.Ok → answer.payload ≡ mac_under before.slots slot alg mac_length text
MeansTheStandard (request.MacVerify slot alg tag text) before after answer =
    (answer.status ≡ status.Ok → tag ≡ mac_under before.slots slot alg (length tag) text)
    × (answer.status ≡ status.AuthFailed → tag ≢ mac_under before.slots slot alg (length tag) text)
MeansTheStandard (request.Seal slot tag_length aad text) before after answer =
    answer.status ≡ status.Ok → (iv : List ℕ) × AreDrawn before.generator after.generator [] 12 iv
    × (answer.payload ≡ iv ++ sealed_under before.slots slot tag_length iv aad text)
MeansTheStandard (request.SealIv slot tag_length iv aad text) before after answer =
    answer.status ≡ status.Ok → answer.payload ≡ sealed_under before.slots slot tag_length iv aad text
MeansTheStandard (request.Open slot iv aad text tag) before after answer =
    (answer.status ≡ status.Ok → (answer.payload ≡ gcm_text (key_at before.slots slot) iv text) × (tag ≡ tag_under before.slots slot iv aad text (length tag)))
    × (answer.status ≡ status.AuthFailed → tag ≢ tag_under before.slots slot iv aad text (length tag))
MeansTheStandard (request.Wrap pad kek second) before after answer =
    answer.status ≡ status.Ok → answer.payload ≡ wrapping pad (key_at before.slots kek) (key_at before.slots second)
MeansTheStandard (request.Unwrap pad kek target kind export uses wrapped) before after answer =
    (answer.status ≡ status.Ok → (bytes : List ℕ) × (unwrapping pad (key_at before.slots kek) wrapped ≡ Some bytes)
    × (slot_at after.slots target ≡ filled_slot (header_under kind export uses (key_domain_at before.slots kek)) bytes))
    × (answer.status ≡ status.UnwrapFailed → unwrapping pad (key_at before.slots kek) wrapped ≡ None)
MeansTheStandard (request.Derive source target kind export uses long label context) before after answer =
    answer.status ≡ status.Ok → slot_at after.slots target
    ≡ filled_slot (header_under kind export uses (key_domain_at before.slots source)) (kbkdf_counter (key_at before.slots source) label context long)
MeansTheStandard (request.Random long additional) before after answer =
    answer.status ≡ status.Ok → AreDrawn before.generator after.generator additional long answer.payload
MeansTheStandard (request.Generate target header long) before after answer =
    answer.status ≡ status.Ok → (bytes : List ℕ) × AreDrawn before.generator after.generator [] long bytes × (slot_at after.slots target ≡ filled_slot header bytes)
MeansTheStandard (request.Reseed additional) before after answer =
    answer.status ≡ status.Ok → (samples : List ℕ) × (length samples ≡ 256) × (after.generator ≡ reseed before.generator samples additional)

-- an answer to a command means this, where the command asks for a cryptographic service
abbrev pub AnswersByTheStandards : CommandFrame → (before after : Held) → Answer → Type 0
AnswersByTheStandards command before after answer = (what : CryptographicRequest) → request_at (service_numbered command.service) command.body ≡ Some (request.Cryptographic what)
    → MeansTheStandard what before after answer

-- what a step answers
abbrev pub answer_of : {V : Type 0} → Stepped V → Answer
answer_of after = record { status = after.status; payload = after.payload }

-- each step in a state that keeps the rules answers by the standards, where the engine does
abbrev pub ServicesMeanTheStandards : {V : Type 0} → Calls V → Type 0
ServicesMeanTheStandards {V} calls = IsStandard calls → (s : MachineState V) (events : List Sample) (command : CommandFrame) → IsWellFormed s
    → (let after = step calls s events command in AnswersByTheStandards command (held_by s) (held_by after.machine) (answer_of after))
