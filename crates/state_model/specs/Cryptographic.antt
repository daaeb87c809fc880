-- How a cryptographic service is done, in three parts that their types keep apart: what comes before the slots, what is done at them,
-- and what comes after. The first and the last see no slot and no entry.
use Rattle.std.specs.Prelude.{ℕ, Bool, List, [], ◌∷◌, Option, Some, None, if◌then◌else◌}
use Rattle.bits_core.specs.declared.parameter.Kind.{Kind}
use Rattle.bits_core.specs.declared.parameter.Kind.TheVariants as kinds
use Rattle.drbg_core.specs.declared.generator.Drbg.{Drbg}
use Rattle.service_table.specs.declared.failure.Failure.{Failure}
use Rattle.service_table.specs.declared.status.Status.{Status}
use Rattle.service_table.specs.declared.status.Status.TheVariants as status
use Rattle.outside.specs.declared.traits.Sample.{Sample}
use Rattle.service_table.specs.Services.{is_approved}
use Rattle.ssp_slots.specs.declared.slot.Slot.{Slot}
use Rattle.ssp_slots.specs.declared.slot_fault.SlotFault.{SlotFault}
use Rattle.ssp_slots.specs.Refusals.{source_fault}
use Rattle.ssp_slots.specs.Ancestry.{linked}
use Rattle.module_frames.specs.declared.public_state.PublicState.{PublicState}
use Rattle.module_frames.specs.PublicState.{no_block}
use Rattle.module_frames.specs.PublicEffects.{use_counted, is_period_over, sent_to_tests, has_failed}
use Rattle.module_frames.specs.Requests.{CryptographicRequest, cryptographic_service_for}
use Rattle.module_frames.specs.Requests as request
pub use Rattle.module_frames.specs.LawfulSteps.{mac_length_of}
use Rattle.engine_core.specs.Calls.{Calls}
use Rattle.random_bits.specs.Draws.{Drawn, drawn, reseeded}
use Rattle.crypto_services.specs.AtSlots.{SlotsResult, on_no_slot, on_slot, refusal}
use Rattle.crypto_services.specs.Services.{hash_result, mac_at, mac_verify_at}
use Rattle.crypto_services.specs.Sealing.{seal_at, seal_iv_at, open_at}
use Rattle.crypto_services.specs.Wrapping.{wrap_result, unwrap_result}
use Rattle.crypto_services.specs.Derivation.{derive_result}
use Rattle.crypto_services.specs.Drawing.{random_result, reseed_result, generate_result}
use Rattle.crypto_services.specs.Indicator.{ServiceUse}
use Rattle.state_model.specs.MachineState.{Shared, MachineState}
use Rattle.state_model.specs.Management.{Stepped, tests_forgotten, with_tested}
use Rattle.state_model.specs.SelfTesting.{tested, test_for, due_at_first_use}

-- what is there when the slots are looked at: all that no key reaches, the events left, the bytes that were drawn, and the reason
-- where the command is refused already
pub record Ready (V : Type 0) : Type 0 where
  pub shared : Shared V
  pub left : List Sample
  pub drawn : List ℕ
  pub refused : Option Status

-- nothing is drawn
abbrev pub undrawn : {V : Type 0} → V → Drbg → List ℕ → List Sample → Drawn V
undrawn engine generator samples events = record { engine = engine; generator = generator; samples = samples; left = events; bytes = []; failure = None }

-- what each service draws: Seal an IV of twelve bytes, Random and Generate the bytes that are asked for, and Reseed a new seed
abbrev pub drawn_for : {V : Type 0} → Calls V → V → Drbg → List ℕ → List Sample → CryptographicRequest → Drawn V
drawn_for calls engine generator samples events (request.Hash alg text) = undrawn engine generator samples events
drawn_for calls engine generator samples events (request.Mac slot alg mac_length text) = undrawn engine generator samples events
drawn_for calls engine generator samples events (request.MacVerify slot alg tag text) = undrawn engine generator samples events
drawn_for calls engine generator samples events (request.Seal slot tag_length aad text) = drawn calls engine generator [] 12 samples events
drawn_for calls engine generator samples events (request.SealIv slot tag_length iv aad text) = undrawn engine generator samples events
drawn_for calls engine generator samples events (request.Open slot iv aad text tag) = undrawn engine generator samples events
drawn_for calls engine generator samples events (request.Wrap pad kek second) = undrawn engine generator samples events
drawn_for calls engine generator samples events (request.Unwrap pad kek target kind export uses wrapped) = undrawn engine generator samples events
drawn_for calls engine generator samples events (request.Derive source target kind export uses long label context) = undrawn engine generator samples events
drawn_for calls engine generator samples events (request.Random long additional) = drawn calls engine generator additional long samples events
drawn_for calls engine generator samples events (request.Generate target header long) = drawn calls engine generator [] long samples events
drawn_for calls engine generator samples events (request.Reseed additional) = reseeded calls engine generator additional samples events

-- a source and a target, whose parameter is made from the source's
pub record Link : Type 0 where
  pub source : ℕ
  pub target : ℕ

-- the services that make a parameter from a key of the module
abbrev pub link_of : CryptographicRequest → Option Link
link_of (request.Hash alg text) = None
link_of (request.Mac slot alg mac_length text) = None
link_of (request.MacVerify slot alg tag text) = None
link_of (request.Seal slot tag_length aad text) = None
link_of (request.SealIv slot tag_length iv aad text) = None
link_of (request.Open slot iv aad text tag) = None
link_of (request.Wrap pad kek second) = None
link_of (request.Unwrap pad kek target kind export uses wrapped) = Some (record { source = kek; target = target })
link_of (request.Derive source target kind export uses long label context) = Some (record { source = source; target = target })
link_of (request.Random long additional) = None
link_of (request.Generate target header long) = None
link_of (request.Reseed additional) = None

-- the rows, where a link was noted
abbrev pub with_link : List ℕ → Option Link → List ℕ
with_link rows None = rows
with_link rows (Some link) = linked rows link.source link.target

-- engine, generator and samples are those after a draw
abbrev pub with_drawn : {V : Type 0} → Shared V → Drawn V → Shared V
with_drawn shared drawn = record shared { engine = drawn.engine; generator = drawn.generator; samples = drawn.samples }

-- the state is Error where something failed
abbrev pub failed_by : Option Failure → PublicState → PublicState
failed_by None public = public
failed_by (Some failure) public = has_failed failure public

-- after a draw it is noted what is made from which slot, whatever the two hold; where the noise failed the state is Error, and the
-- command is refused
abbrev pub ready_drawn : {V : Type 0} → Shared V → Drawn V → Option Failure → CryptographicRequest → Ready V
ready_drawn shared drawn None what =
    record { shared = record shared { ancestry = with_link shared.ancestry (link_of what) }; left = drawn.left; drawn = drawn.bytes; refused = None }
ready_drawn shared drawn (Some failure) what =
    record { shared = record shared { public = has_failed failure shared.public }; left = drawn.left; drawn = []; refused = Some status.NoiseFault }

-- a service draws unless its test failed
abbrev pub ready_tested : {V : Type 0} → Calls V → Shared V → Option Status → List Sample → CryptographicRequest → Ready V
ready_tested calls shared None events what =
    let drawn = drawn_for calls shared.engine shared.generator shared.samples events what in ready_drawn (with_drawn shared drawn) drawn drawn.failure what
ready_tested calls shared (Some reason) events what = record { shared = shared; left = events; drawn = []; refused = Some reason }

-- Before the slots: the use is counted; what is used for the first time since tests were due is tested; then comes the draw, and then
-- the ancestry.
abbrev pub before_slots : {V : Type 0} → Calls V → Shared V → List Sample → CryptographicRequest → Ready V
before_slots calls shared events what =
    let tests = tested calls shared.engine (use_counted shared.public) shared.tests_passed (due_at_first_use shared.tests_passed (test_for what)) in
    ready_tested calls (with_tested shared tests) tests.judgement.refused events what

-- At the slots: what each service does, with the engine and the bytes drawn.
abbrev pub service_at : {V : Type 0} → Calls V → V → List ℕ → List Slot → CryptographicRequest → SlotsResult V
service_at calls engine drawn slots (request.Hash alg text) = hash_result calls engine alg text slots
service_at calls engine drawn slots (request.Mac slot alg mac_length text) = on_slot slots slot (mac_at calls engine alg mac_length text)
service_at calls engine drawn slots (request.MacVerify slot alg tag text) = on_slot slots slot (mac_verify_at calls engine alg tag text)
service_at calls engine drawn slots (request.Seal slot tag_length aad text) = on_slot slots slot (seal_at calls engine tag_length drawn aad text)
service_at calls engine drawn slots (request.SealIv slot tag_length iv aad text) = on_slot slots slot (seal_iv_at calls engine tag_length iv aad text)
service_at calls engine drawn slots (request.Open slot iv aad text tag) = on_slot slots slot (open_at calls engine iv aad text tag)
service_at calls engine drawn slots (request.Wrap pad kek second) = wrap_result calls engine pad kek second slots
service_at calls engine drawn slots (request.Unwrap pad kek target kind export uses wrapped) = unwrap_result calls engine pad kek target kind export uses wrapped slots
service_at calls engine drawn slots (request.Derive source target kind export uses long label context) =
    derive_result calls engine source target kind export uses long label context slots
service_at calls engine drawn slots (request.Random long additional) = random_result engine drawn slots
service_at calls engine drawn slots (request.Generate target header long) = generate_result target header engine drawn slots
service_at calls engine drawn slots (request.Reseed additional) = reseed_result engine drawn slots

-- unless the command was refused already
abbrev pub at_slots : {V : Type 0} → Calls V → Ready V → Option Status → List Slot → CryptographicRequest → SlotsResult V
at_slots calls ready None slots what = service_at calls ready.shared.engine ready.drawn slots what
at_slots calls ready (Some reason) slots what = on_no_slot ready.shared.engine slots (refusal reason)

-- After the slots: where the period is over, the tests are due and none that passed counts.
abbrev pub after_slots : {V : Type 0} → Shared V → Shared V
after_slots shared = if is_period_over shared.public then tests_forgotten shared (sent_to_tests shared.public) else shared

-- a cryptographic service, whatever its status
abbrev pub served : {V : Type 0} → Calls V → MachineState V → Ready V → CryptographicRequest → Stepped V
served calls s ready what =
    let result = at_slots calls ready ready.refused s.slots what in
    record {
      machine = record s { shared = after_slots (record ready.shared { engine = result.engine }); slots = result.slots };
      status = result.answer.status;
      block = no_block;
      payload = result.answer.payload;
      left = ready.left;
    }

abbrev pub cryptographic_step : {V : Type 0} → Calls V → MachineState V → List Sample → CryptographicRequest → Stepped V
cryptographic_step calls s events what = served calls s (before_slots calls s.shared events what) what

-- the slots that a request names
abbrev pub slots_named : CryptographicRequest → List ℕ
slots_named (request.Hash alg text) = []
slots_named (request.Mac slot alg mac_length text) = slot ∷ []
slots_named (request.MacVerify slot alg tag text) = slot ∷ []
slots_named (request.Seal slot tag_length aad text) = slot ∷ []
slots_named (request.SealIv slot tag_length iv aad text) = slot ∷ []
slots_named (request.Open slot iv aad text tag) = slot ∷ []
slots_named (request.Wrap pad kek second) = kek ∷ second ∷ []
slots_named (request.Unwrap pad kek target kind export uses wrapped) = kek ∷ target ∷ []
slots_named (request.Derive source target kind export uses long label context) = source ∷ target ∷ []
slots_named (request.Random long additional) = []
slots_named (request.Generate target header long) = target ∷ []
slots_named (request.Reseed additional) = []

-- the kind of key that a request uses, where it uses one
abbrev pub key_kind : CryptographicRequest → Option Kind
key_kind (request.Hash alg text) = None
key_kind (request.Mac slot alg mac_length text) = Some kinds.Mac
key_kind (request.MacVerify slot alg tag text) = Some kinds.Mac
key_kind (request.Seal slot tag_length aad text) = Some kinds.Aes
key_kind (request.SealIv slot tag_length iv aad text) = Some kinds.Aes
key_kind (request.Open slot iv aad text tag) = Some kinds.Aes
key_kind (request.Wrap pad kek second) = Some kinds.Kek
key_kind (request.Unwrap pad kek target kind export uses wrapped) = Some kinds.Kek
key_kind (request.Derive source target kind export uses long label context) = Some kinds.Kdf
key_kind (request.Random long additional) = None
key_kind (request.Generate target header long) = None
key_kind (request.Reseed additional) = None

-- the fault of a slot as a key of this kind, where one is used
abbrev pub fault_as_key : Option Kind → Bool → Slot → Option SlotFault
fault_as_key None approved slot = None
fault_as_key (Some kind) approved slot = source_fault slot.header kind approved

-- and as the key of a request
abbrev pub key_fault : CryptographicRequest → Slot → Option SlotFault
key_fault what slot = fault_as_key (key_kind what) (is_approved (cryptographic_service_for what) (mac_length_of what)) slot

-- the use of a service that a request makes
abbrev pub use_of : CryptographicRequest → ServiceUse
use_of what = record { service = cryptographic_service_for what; mac_length = mac_length_of what; named = slots_named what }
