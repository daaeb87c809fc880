-- What is tainted after a command, where two worlds send commands that differ in secrets alone; and which commands observe it.
use Rattle.std.specs.Prelude.{ℕ, ◌+◌, ◌==◌, ◌&&◌, ◌||◌, not, nat_le, is_some, length, Bool, false, List, Option, Some, None, if◌then◌else◌}
use Rattle.std.specs.List.{list_any}
use Rattle.std.specs.Option.{option_map_or}
use Rattle.std.specs.Str.{bytes_eq}
use Rattle.service_table.specs.declared.service.Service.{Service}
use Rattle.service_table.specs.declared.state.State.{State}
use Rattle.service_table.specs.declared.status.Status.{Status}
use Rattle.service_table.specs.Numbers.{service_numbered}
use Rattle.service_table.specs.Services.{is_permitted}
use Rattle.ssp_slots.specs.declared.slot.Slot.{Slot}
use Rattle.ssp_slots.specs.Ancestry.{descendants}
use Rattle.outside.specs.declared.traits.Sample.{Sample}
use Rattle.module_frames.specs.CommandFrames.{CommandFrame}
use Rattle.module_frames.specs.Requests.{RequestValue, request_of}
use Rattle.module_frames.specs.Requests as request
use Rattle.module_frames.specs.Sequencing.{is_in_order}
use Rattle.engine_core.specs.Calls.{Calls}
use Rattle.crypto_services.specs.AtSlots.{slot_at}
use Rattle.state_model.specs.declared.entry.Entry.{Entry}
use Rattle.state_model.specs.Commit.{entered}
use Rattle.state_model.specs.Cryptographic.{Link, link_of, before_slots, slots_named}
use Rattle.state_model.specs.Entries.{entry_length}
use Rattle.state_model.specs.MachineState.{MachineState, state_of}
use Rattle.state_model.specs.Step.{number_taken, request_at}
use Rattle.information_flow.specs.Tainted.{Tainted, untainted}

abbrev pub is_empty : Slot → Bool
is_empty slot = not (is_some slot.header)

-- a piece fits what is being entered
abbrev pub is_taken : {V : Type 0} → MachineState V → List ℕ → Bool
is_taken s piece = nat_le (s.entry.filled + length piece) (entry_length s.entry)

-- a commit may fill this slot: it is the entry's, it is empty, and as many bytes were entered as the parameter has
abbrev pub may_fill : {V : Type 0} → MachineState V → ℕ → Bool
may_fill s id =
    option_map_or (λ target. (length (entered s.entry) == target.length) && (is_empty (slot_at s.slots target.slot) && (id == target.slot))) s.entry.target false

-- what is made from a tainted slot taints its target, where that is empty
abbrev pub taint_linked : List Slot → (ℕ → Bool) → Option Link → ℕ → Bool
taint_linked slots tainted None id = tainted id
taint_linked slots tainted (Some link) id = tainted id || (tainted link.source && (is_empty (slot_at slots link.target) && (id == link.target)))

-- unless a test or the noise failed, so that no slot is looked at
abbrev pub taint_ready : List Slot → (ℕ → Bool) → Option Status → Option Link → ℕ → Bool
taint_ready slots tainted None link id = taint_linked slots tainted link id
taint_ready slots tainted (Some reason) link id = tainted id

-- What a request leaves tainted, which the other world makes with other bytes where `differ` is true.
abbrev pub taint_for : {V : Type 0} → Calls V → MachineState V → List Sample → Tainted → Bool → RequestValue → Tainted
taint_for calls s events T differ (request.PowerOn period) = T
taint_for calls s events T differ request.TestStep = T
taint_for calls s events T differ request.RequestTests = T
taint_for calls s events T differ request.ShowStatus = T
taint_for calls s events T differ request.ShowVersion = T
taint_for calls s events T differ (request.SelectRole role) = T
taint_for calls s events T differ request.Reset = untainted
taint_for calls s events T differ (request.EntryBegin slot header long) = T
taint_for calls s events T differ (request.EntryBytes piece) = record { entry = T.entry || (is_taken s piece && differ); slot = T.slot }
taint_for calls s events T differ (request.EntryCommit check) = record { entry = false; slot = λ id. T.slot id || (T.entry && may_fill s id) }
taint_for calls s events T differ request.EntryAbort = record { entry = false; slot = T.slot }
taint_for calls s events T differ (request.Zeroise slot) = record { entry = T.entry; slot = λ id. T.slot id && not (id == slot) }
taint_for calls s events T differ (request.ZeroiseTree slot) = record { entry = T.entry; slot = λ id. T.slot id && not (descendants s.shared.ancestry slot id) }
taint_for calls s events T differ request.ZeroiseAll = record { entry = T.entry; slot = λ id. false }
taint_for calls s events T differ (request.ShowSlot slot) = T
taint_for calls s events T differ (request.Cryptographic what) =
    record { entry = T.entry; slot = taint_ready s.slots T.slot (before_slots calls s.shared events what).refused (link_of what) }

abbrev pub taint_requested : {V : Type 0} → Calls V → MachineState V → List Sample → Tainted → Bool → Option RequestValue → Tainted
taint_requested calls s events T differ None = T
taint_requested calls s events T differ (Some what) = taint_for calls s events T differ what

-- the request that a command makes of the machine: where it comes in its order, is known, permitted and of its form
abbrev pub admitted_for : State → Option Service → List ℕ → Option RequestValue
admitted_for state None body = None
admitted_for state (Some found) body = if is_permitted found state then request_of found body else None

abbrev pub admitted : {V : Type 0} → MachineState V → CommandFrame → Option RequestValue
admitted s command =
    if is_in_order command.sequence s.shared.public.next_sequence then admitted_for (state_of s) (service_numbered command.service) command.body else None

-- What is tainted after a command, of which the other world sends another.
unfoldable pub taint_after : {V : Type 0} → Calls V → MachineState V → List Sample → Tainted → CommandFrame → CommandFrame → Tainted
taint_after calls s events T one other = taint_requested calls (number_taken s one.sequence) events T (not (bytes_eq one.body other.body)) (admitted s one)

-- Whether a request observes what is tainted: a commit of a tainted entry or into a tainted slot, and a request that shows or names a
-- tainted slot.
abbrev pub observes_for : Entry → Tainted → RequestValue → Bool
observes_for entry T (request.PowerOn period) = false
observes_for entry T request.TestStep = false
observes_for entry T request.RequestTests = false
observes_for entry T request.ShowStatus = false
observes_for entry T request.ShowVersion = false
observes_for entry T (request.SelectRole role) = false
observes_for entry T request.Reset = false
observes_for entry T (request.EntryBegin slot header long) = false
observes_for entry T (request.EntryBytes piece) = false
observes_for entry T (request.EntryCommit check) = T.entry || option_map_or (λ target. T.slot target.slot) entry.target false
observes_for entry T request.EntryAbort = false
observes_for entry T (request.Zeroise slot) = false
observes_for entry T (request.ZeroiseTree slot) = false
observes_for entry T request.ZeroiseAll = false
observes_for entry T (request.ShowSlot slot) = T.slot slot
observes_for entry T (request.Cryptographic what) = list_any T.slot (slots_named what)

abbrev pub observes_requested : Entry → Tainted → Option RequestValue → Bool
observes_requested entry T None = false
observes_requested entry T (Some what) = observes_for entry T what

unfoldable pub observes : {V : Type 0} → MachineState V → Tainted → CommandFrame → Bool
observes s T command = observes_requested s.entry T (request_at (service_numbered command.service) command.body)
