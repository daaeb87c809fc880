-- When the cryptographic services are done, where the engine answers as the standards say.
use Rattle.std.specs.Prelude.{◌≡◌, ◌↔◌, Bool, ℕ, List, length, Some, None, IfSome, IsTrue, true}
use Rattle.bits_core.specs.declared.parameter.Kind.{Kind}
use Rattle.bits_core.specs.declared.parameter.Kind.TheVariants as kinds
use Rattle.bits_core.specs.Parameters.{length_fits}
use Rattle.service_table.specs.declared.service.Service.TheVariants as service
use Rattle.service_table.specs.declared.status.Status.TheVariants as status
use Rattle.service_table.specs.Numbers.{service_numbered}
use Rattle.service_table.specs.Services.{is_approved, wrapping_service, unwrapping_service}
use Rattle.self_tests.specs.KnownAnswers.{answers_right}
use Rattle.ssp_slots.specs.declared.slot.Slot.{Slot}
use Rattle.ssp_slots.specs.Refusals.{source_fault, export_fault, vacancy_fault}
use Rattle.outside.specs.declared.traits.Sample.{Sample}
use Rattle.module_frames.specs.CommandFrames.{CommandFrame}
use Rattle.module_frames.specs.Requests.{CryptographicRequest}
use Rattle.module_frames.specs.Requests as request
use Rattle.engine_core.specs.Calls.{Calls, IsStandard}
use Rattle.engine_core.specs.Standards.{unwrapping}
use Rattle.crypto_services.specs.AtSlots.{slot_at}
use Rattle.crypto_services.specs.Wrapping.{is_wrappable}
use Rattle.state_model.specs.MachineState.{MachineState, Shared, state_of}
use Rattle.state_model.specs.SelfTesting.{test_for, due_at_first_use}
use Rattle.state_model.specs.Cryptographic.{drawn_for}
use Rattle.state_model.specs.Permission.{IsPermittedIn}
use Rattle.state_model.specs.Meaning.{key_at, key_domain_at, mac_under, tag_under}
use Rattle.state_model.specs.Step.{step, request_at, is_in_order}

-- the test that is due before a request is done, where one is, is answered right
abbrev pub IsTestedRight : {V : Type 0} → Calls V → Shared V → CryptographicRequest → Type 0
IsTestedRight calls shared what = IfSome (due_at_first_use shared.tests_passed (test_for what)) (λ test. answers_right calls shared.engine test ≡ true)

-- the noise that a request takes is there, and shows no fault
abbrev pub IsDrawnWell : {V : Type 0} → Calls V → Shared V → List Sample → CryptographicRequest → Type 0
IsDrawnWell calls shared events what = (drawn_for calls shared.engine shared.generator shared.samples events what).failure ≡ None

-- the slot may be used as a key of this kind, by a use that is approved or isn't
abbrev pub IsUsable : List Slot → ℕ → Kind → Bool → Type 0
IsUsable slots id kind approved = source_fault (slot_at slots id).header kind approved ≡ None

-- the slot may be filled
abbrev pub IsVacant : List Slot → ℕ → Type 0
IsVacant slots id = vacancy_fault (slot_at slots id).header ≡ None

-- the slot's parameter may leave under a key of the other slot's domain, and has a length that is wrapped
abbrev pub IsExportable : List Slot → (pad : Bool) → (kek second : ℕ) → Type 0
IsExportable slots pad kek second =
    (export_fault (slot_at slots second).header (key_domain_at slots kek) ≡ None) × IsTrue (is_wrappable pad (slot_at slots second).length)

-- something was wrapped by the slot's key, and has a length that fits the kind in the key's domain
abbrev pub IsUnwrapped : List Slot → (pad : Bool) → ℕ → Kind → List ℕ → Type 0
IsUnwrapped slots pad kek kind wrapped =
    (bytes : List ℕ) × (unwrapping pad (key_at slots kek) wrapped ≡ Some bytes) × IsTrue (length_fits kind (key_domain_at slots kek) (length bytes))

-- nothing at the slots refuses a request: the named slots may be used for it, a given MAC or tag is right, and lengths fit
abbrev pub IsServable : CryptographicRequest → List Slot → Type 0
IsServable (request.Hash alg text) slots = Unit {0}
IsServable (request.Mac slot alg mac_length text) slots = IsUsable slots slot kinds.Mac (is_approved service.Mac mac_length)
IsServable (request.MacVerify slot alg tag text) slots =
    IsUsable slots slot kinds.Mac (is_approved service.MacVerify (length tag)) × (tag ≡ mac_under slots slot alg (length tag) text)
IsServable (request.Seal slot tag_length aad text) slots = IsUsable slots slot kinds.Aes (is_approved service.Seal 0)
IsServable (request.SealIv slot tag_length iv aad text) slots = IsUsable slots slot kinds.Aes (is_approved service.SealIv 0)
IsServable (request.Open slot iv aad text tag) slots =
    IsUsable slots slot kinds.Aes (is_approved service.Open 0) × (tag ≡ tag_under slots slot iv aad text (length tag))
IsServable (request.Wrap pad kek second) slots =
    IsUsable slots kek kinds.Kek (is_approved (wrapping_service pad) 0) × IsExportable slots pad kek second
IsServable (request.Unwrap pad kek target kind export uses wrapped) slots =
    IsUsable slots kek kinds.Kek (is_approved (unwrapping_service pad) 0) × IsVacant slots target × IsUnwrapped slots pad kek kind wrapped
IsServable (request.Derive source target kind export uses long label context) slots =
    IsUsable slots source kinds.Kdf (is_approved service.Derive 0) × IsVacant slots target
IsServable (request.Random long additional) slots = Unit {0}
IsServable (request.Generate target header long) slots = IsVacant slots target
IsServable (request.Reseed additional) slots = Unit {0}

-- A command that comes in its order, asks for a cryptographic service that is permitted, and whose test is answered right, is done exactly
-- where the noise that it takes is good and nothing at the slots refuses it.
abbrev pub ServicesAreComplete : {V : Type 0} → Calls V → Type 0
ServicesAreComplete {V} calls = IsStandard calls → (s : MachineState V) (events : List Sample) (command : CommandFrame) (what : CryptographicRequest)
    → is_in_order command.sequence s.shared.public.next_sequence ≡ true → request_at (service_numbered command.service) command.body ≡ Some (request.Cryptographic what)
    → IsPermittedIn (request.Cryptographic what) (state_of s) → IsTestedRight calls s.shared what
    → ((step calls s events command).status ≡ status.Ok) ↔ (IsDrawnWell calls s.shared events what × IsServable what s.slots)
