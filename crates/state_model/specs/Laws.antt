-- What holds of every step, with any engine.
use Rattle.std.specs.Prelude.{◌≡◌, ◌≢◌, ◌≤◌, ◌↔◌, ◌⊎◌, ℕ, [], ◌∷◌, List, length, Option, Some, None, true, false}
use Rattle.bits_core.specs.ByteList.{IsBytes}
use Rattle.service_table.specs.declared.class.Class.TheVariants as class
use Rattle.service_table.specs.declared.service.Service.{Service}
use Rattle.service_table.specs.declared.service.Service.TheVariants as service
use Rattle.service_table.specs.declared.state.State.TheVariants as state
use Rattle.service_table.specs.declared.status.Status.{Status}
use Rattle.service_table.specs.declared.status.Status.TheVariants as status
use Rattle.service_table.specs.Numbers.{service_numbered}
use Rattle.service_table.specs.Services.{class_of}
use Rattle.service_table.specs.Answers.{is_status_among, may_answer}
use Rattle.ssp_slots.specs.declared.slot.Slot.{Slot}
use Rattle.ssp_slots.specs.declared.slot_fault.SlotFault.{SlotFault}
use Rattle.ssp_slots.specs.Slots.{Contents, empty_slot, spent_slot, slot_in, row_in, OthersStay}
use Rattle.ssp_slots.specs.Ancestry.{descendants}
use Rattle.outside.specs.declared.traits.Sample.{Sample}
use Rattle.module_frames.specs.CommandFrames.{CommandFrame}
use Rattle.module_frames.specs.LawfulSteps.{IsLawfulStep}
use Rattle.module_frames.specs.PublicState.{sequence_block}
use Rattle.module_frames.specs.ReplyFrames.{head_of}
use Rattle.module_frames.specs.Requests.{RequestValue, CryptographicRequest}
use Rattle.module_frames.specs.Requests as request
use Rattle.engine_core.specs.Calls.{Calls}
use Rattle.crypto_services.specs.AtSlots.{slot_at, with_slot_at}
use Rattle.state_model.specs.MachineState.{MachineState, IsWellFormed, state_of, vault_of}
use Rattle.state_model.specs.Cryptographic.{slots_named, key_fault}
use Rattle.state_model.specs.Step.{step, request_at, is_in_order, number_taken, reply_to}

-- a step for a command whose body is bytes keeps the rules
abbrev pub StepsKeepTheRules : {V : Type 0} → Calls V → Type 0
StepsKeepTheRules {V} calls = (s : MachineState V) (events : List Sample) (command : CommandFrame) → IsBytes command.body → IsWellFormed s → IsWellFormed (step calls s events command).machine

-- data is given in a role alone, by a service of class data alone, and only where it was done
abbrev pub DataNeedsARole : {V : Type 0} → Calls V → Type 0
DataNeedsARole {V} calls = (s : MachineState V) (events : List Sample) (command : CommandFrame) → (step calls s events command).payload ≢ []
    → ((step calls s events command).status ≡ status.Ok) × ((state_of s ≡ state.Officer) ⊎ (state_of s ≡ state.User))
    × ((found : Service) × (service_numbered command.service ≡ Some found) × (class_of found ≡ class.Payload))

-- ZeroiseAll or Reset that was done leaves all sixteen slots empty, which is zero in each field and byte, and all rows
abbrev pub ZeroisingEmptiesAll : {V : Type 0} → Calls V → Type 0
ZeroisingEmptiesAll {V} calls = (s : MachineState V) (events : List Sample) (command : CommandFrame)
    → (service_numbered command.service ≡ Some service.ZeroiseAll) ⊎ (service_numbered command.service ≡ Some service.Reset)
    → (step calls s events command).status ≡ status.Ok → (id : ℕ)
    → (let after = vault_of (step calls s events command).machine in (slot_in after id ≡ empty_slot) × (row_in after id ≡ 0))

-- Zeroise that was done leaves its slot and its row empty, and no other changed
abbrev pub ZeroisingEmptiesOne : {V : Type 0} → Calls V → Type 0
ZeroisingEmptiesOne {V} calls = (s : MachineState V) (events : List Sample) (command : CommandFrame) (slot : ℕ)
    → request_at (service_numbered command.service) command.body ≡ Some (request.Zeroise slot) → (step calls s events command).status ≡ status.Ok
    → (let after = vault_of (step calls s events command).machine in (slot_in after slot ≡ empty_slot) × (row_in after slot ≡ 0) × OthersStay (vault_of s) after slot)

-- each slot of a slot's tree is empty, and its row, and no other slot or row has changed
abbrev pub IsTreeEmptied : Contents → Contents → ℕ → Type 0
IsTreeEmptied before after id = (other : ℕ)
    → (descendants before.rows id other ≡ true → (slot_in after other ≡ empty_slot) × (row_in after other ≡ 0))
    × (descendants before.rows id other ≡ false → (slot_in after other ≡ slot_in before other) × (row_in after other ≡ row_in before other))

-- ZeroiseTree that was done leaves the slot's tree empty, and all else as it was
abbrev pub ZeroisingEmptiesTree : {V : Type 0} → Calls V → Type 0
ZeroisingEmptiesTree {V} calls = (s : MachineState V) (events : List Sample) (command : CommandFrame) (slot : ℕ)
    → request_at (service_numbered command.service) command.body ≡ Some (request.ZeroiseTree slot) → (step calls s events command).status ≡ status.Ok
    → IsTreeEmptied (vault_of s) (vault_of (step calls s events command).machine) slot

-- the refusals of a command in its order that come before anything is done
abbrev pub IsRefusedAtOnce : Status → Type 0
IsRefusedAtOnce outcome = (outcome ≡ status.UnknownService) ⊎ ((outcome ≡ status.NotInState) ⊎ (outcome ≡ status.BadBody))

-- such a refusal changes nothing but that the command's sequence number is taken, takes no event of noise, and tells nothing
abbrev pub RefusalsChangeNothing : {V : Type 0} → Calls V → Type 0
RefusalsChangeNothing {V} calls = (s : MachineState V) (events : List Sample) (command : CommandFrame) → IsRefusedAtOnce (step calls s events command).status
    → ((step calls s events command).machine ≡ number_taken s command.sequence) × ((step calls s events command).left ≡ events) × ((step calls s events command).payload ≡ [])

-- a command is out of order exactly where it has a sequence number that isn't the expected one
abbrev pub OutOfOrderByTheNumber : {V : Type 0} → Calls V → Type 0
OutOfOrderByTheNumber {V} calls = (s : MachineState V) (events : List Sample) (command : CommandFrame)
    → ((step calls s events command).status ≡ status.OutOfOrder) ↔ (is_in_order command.sequence s.shared.public.next_sequence ≡ false)

-- it changes nothing at all then, takes no event of noise, and tells the expected number alone
abbrev pub OutOfOrderChangesNothing : {V : Type 0} → Calls V → Type 0
OutOfOrderChangesNothing {V} calls = (s : MachineState V) (events : List Sample) (command : CommandFrame) → (step calls s events command).status ≡ status.OutOfOrder
    → ((step calls s events command).machine ≡ s) × ((step calls s events command).left ≡ events) × ((step calls s events command).payload ≡ [])
    × ((step calls s events command).block ≡ sequence_block s.shared.public)

-- the sequence number that is expected after a command in its order: another only after a numbered one, whatever became of it
abbrev pub NumbersAreTaken : {V : Type 0} → Calls V → Type 0
NumbersAreTaken {V} calls = (s : MachineState V) (events : List Sample) (command : CommandFrame) → (step calls s events command).status ≢ status.OutOfOrder
    → (step calls s events command).machine.shared.public.next_sequence ≡ (number_taken s command.sequence).shared.public.next_sequence

-- the command makes no request that names two slots
abbrev pub NamesNoTwoSlots : Option RequestValue → Type 0
NamesNoTwoSlots read = (what : CryptographicRequest) → read ≡ Some (request.Cryptographic what) → length (slots_named what) ≤ 1

-- Such a command changes no slot unless it is done, or a tag is wrong.
abbrev pub RefusalsChangeNoSlot : {V : Type 0} → Calls V → Type 0
RefusalsChangeNoSlot {V} calls = (s : MachineState V) (events : List Sample) (command : CommandFrame)
    → NamesNoTwoSlots (request_at (service_numbered command.service) command.body)
    → (step calls s events command).status ≢ status.Ok → (step calls s events command).status ≢ status.AuthFailed → (step calls s events command).machine.slots ≡ s.slots

-- the slots with one use of a key spent, unless the key's slot was refused
abbrev pub spent_unless : Option SlotFault → List Slot → ℕ → List Slot
spent_unless None slots id = with_slot_at slots id (spent_slot (slot_at slots id))
spent_unless (Some reason) slots id = slots

-- the refusals at the slots: by a slot, for a length that doesn't fit, and for bytes that the key didn't wrap
abbrev pub slot_refusals : List Status
slot_refusals = status.EmptySlot ∷ status.WrongKind ∷ status.WrongDomain ∷ status.Spent ∷ status.OccupiedSlot ∷ status.NotExportable ∷ status.BadLength ∷ status.UnwrapFailed ∷ []

abbrev pub IsRefusedAtSlots : Status → Type 0
IsRefusedAtSlots reason = is_status_among slot_refusals reason ≡ true

-- A request that names two slots and is refused at them changes no slot where the first, whose key it uses, is refused; and else it
-- changes none but that one use of the first is spent.
abbrev pub RefusalsSpendOneUse : {V : Type 0} → Calls V → Type 0
RefusalsSpendOneUse {V} calls = (s : MachineState V) (events : List Sample) (command : CommandFrame) (what : CryptographicRequest) (first second : ℕ)
    → request_at (service_numbered command.service) command.body ≡ Some (request.Cryptographic what) → slots_named what ≡ first ∷ second ∷ []
    → IsRefusedAtSlots (step calls s events command).status → (step calls s events command).machine.slots ≡ spent_unless (key_fault what (slot_at s.slots first)) s.slots first

-- a tag that is wrong spends one use of the slot, and changes no other
abbrev pub WrongTagsSpendOneUse : {V : Type 0} → Calls V → Type 0
WrongTagsSpendOneUse {V} calls = (s : MachineState V) (events : List Sample) (command : CommandFrame) (what : CryptographicRequest) (slot : ℕ)
    → request_at (service_numbered command.service) command.body ≡ Some (request.Cryptographic what) → slots_named what ≡ slot ∷ []
    → (step calls s events command).status ≡ status.AuthFailed
    → (step calls s events command).machine.slots ≡ with_slot_at s.slots slot (spent_slot (slot_at s.slots slot))

-- a test or a noise that fails changes no slot
abbrev pub FailuresChangeNoSlot : {V : Type 0} → Calls V → Type 0
FailuresChangeNoSlot {V} calls = (s : MachineState V) (events : List Sample) (command : CommandFrame)
    → ((step calls s events command).status ≡ status.TestFailed) ⊎ ((step calls s events command).status ≡ status.NoiseFault)
    → (step calls s events command).machine.slots ≡ s.slots

-- the status of each command for a service, in its order and with a body of bytes, is one that the table of answers gives the service
abbrev pub AnswersAreOfTheTable : {V : Type 0} → Calls V → Type 0
AnswersAreOfTheTable {V} calls = (s : MachineState V) (events : List Sample) (command : CommandFrame) (found : Service) → IsBytes command.body → IsWellFormed s
    → service_numbered command.service ≡ Some found → (step calls s events command).status ≢ status.OutOfOrder
    → may_answer found (step calls s events command).status ≡ true

-- each step for a command whose body is bytes is lawful: the public states before and after it, with the reply's head, keep the rules
abbrev pub StepsAreLawful : {V : Type 0} → Calls V → Type 0
StepsAreLawful {V} calls = (s : MachineState V) (events : List Sample) (command : CommandFrame) → IsBytes command.body → IsWellFormed s
    → (let after = step calls s events command in IsLawfulStep s.shared.public command (head_of (reply_to command after)) after.machine.shared.public)
