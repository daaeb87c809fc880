-- What zeroising leaves, and what refusals leave as it was.
use Rattle.std.proofs.Common.{◌≡◌, ◌≢◌, ◌⊎◌, ℕ, List, [], Bool, true, false, Option, Some, None, length, inl, inr, refl, sym, ap, subst, ◌∙◌, if◌then◌else◌}
use Rattle.std.specs.Prelude.{◌==◌, slice_index_or, slice_set}
use Rattle.std.proofs.lemmas.Bool.{cases_lt}
use Rattle.std.proofs.lemmas.List.{get_or-replicate, get_or_past, get_or-set_same, get_or-set_other, set_past}
use Rattle.service_table.specs.declared.service.Service.{Service}
use Rattle.service_table.specs.declared.service.Service.TheVariants as service
use Rattle.service_table.specs.declared.status.Status.{Status}
use Rattle.service_table.specs.declared.status.Status.TheVariants as status
use Rattle.service_table.specs.Numbers.{service_numbered}
use Rattle.service_table.specs.Services.{is_permitted}
use Rattle.ssp_slots.specs.declared.slot_fault.SlotFault.{SlotFault}
use Rattle.ssp_slots.specs.declared.slot_fault.SlotFault.TheVariants as fault
use Rattle.ssp_slots.specs.Slots.{Contents, empty_slot, empty_vault, slot_in, row_in, zeroised_in, OthersStay}
use Rattle.ssp_slots.proofs.WellFormedSlots.{empty_row}
use Rattle.outside.specs.declared.traits.Sample.{Sample}
use Rattle.module_frames.specs.PublicEffects.{sequence_taken}
use Rattle.module_frames.specs.Requests.{RequestValue, CryptographicRequest, request_of}
use Rattle.module_frames.specs.Requests as request
use Rattle.engine_core.specs.Calls.{Calls}
use Rattle.crypto_services.specs.AtSlots.{fault_status}
use Rattle.state_model.specs.MachineState.{MachineState, state_of, vault_of, no_slots}
use Rattle.state_model.specs.Management.{Stepped, refused, with_public}
use Rattle.state_model.specs.Step.{dispatch, dispatch_request, perform, request_at, number_taken}
use Rattle.state_model.specs.Laws.{ZeroisingEmptiesAll, ZeroisingEmptiesOne, IsRefusedAtOnce, RefusalsChangeNothing}
use Rattle.state_model.proofs.Sequences.{by_order}
use Rattle.state_model.proofs.Statuses.{OfServices, performed_status}

-- slot and row with a number are empty
abbrev IsEmptyAt : Contents → ℕ → Type 0
IsEmptyAt vault id = (slot_in vault id ≡ empty_slot) × (row_in vault id ≡ 0)

-- each slot and row of an empty vault is empty
each_empty : (id : ℕ) → IsEmptyAt empty_vault id
each_empty id = (
  elim (cases_lt id 16) [
    | inl within ↦ get_or-replicate 16 id empty_slot empty_slot within
    | inr past ↦ get_or_past no_slots id empty_slot past
  ],
  empty_row id,
)

-- done, or refused where it isn't permitted or not of its form
emptied_by : {V : Type 0} (calls : Calls V) (s : MachineState V) (events : List Sample) (what : RequestValue) → vault_of (perform calls s events what).machine ≡ empty_vault → (allowed whole : Bool)
    → (let after : Stepped V = if allowed then dispatch_request calls s events (if whole then Some what else None) else refused s status.NotInState events in
    after.status ≡ status.Ok → (id : ℕ) → IsEmptyAt (vault_of after.machine) id)
emptied_by calls s events what none true true ok id = let Empty : Contents → Type 0 = λ vault. IsEmptyAt vault id in subst Empty (sym none) (each_empty id)
emptied_by calls s events what none true false ok id = cc
emptied_by calls s events what none false whole ok id = cc

all_emptied : {V : Type 0} (calls : Calls V) (s : MachineState V) (events : List Sample) (body : List ℕ) (numbered : Option Service)
    → (numbered ≡ Some service.ZeroiseAll) ⊎ (numbered ≡ Some service.Reset) → (dispatch calls s events numbered body).status ≡ status.Ok
    → (id : ℕ) → IsEmptyAt (vault_of (dispatch calls s events numbered body).machine) id
all_emptied {V} calls s events body numbered which =
    let Empties : Option Service → Type 0 = λ found. (dispatch calls s events found body).status ≡ status.Ok
    → (id : ℕ) → IsEmptyAt (vault_of (dispatch calls s events found body).machine) id in
    elim which [
      | inl all ↦ subst Empties (sym all) (emptied_by calls s events request.ZeroiseAll refl (is_permitted service.ZeroiseAll (state_of s)) (length body == 0))
      | inr reset ↦ subst Empties (sym reset) (emptied_by calls s events request.Reset refl (is_permitted service.Reset (state_of s)) (length body == 0))
    ]

pub empties_all : {V : Type 0} (calls : Calls V) → ZeroisingEmptiesAll calls
empties_all {V} calls s events command which =
    let Empties : Stepped V → Type 0 = λ after. after.status ≡ status.Ok → (id : ℕ) → IsEmptyAt (vault_of after.machine) id in
    by_order calls s events command Empties (λ _. all_emptied calls s events command.body (service_numbered command.service) which)
    (λ number _ _. all_emptied calls (with_public s (sequence_taken s.shared.public)) events command.body (service_numbered command.service) which)
    (λ number _ _ ok. cc)

-- what is laid at a number is found there, and so is what stands past the end
laid_empty : {A : Type 0} (xs : List A) (id : ℕ) (x : A) → slice_index_or (slice_set xs id x) id x ≡ x
laid_empty {A} xs id x =
    elim (cases_lt id (length xs)) [
      | inl within ↦ get_or-set_same xs id x x within
      | inr past ↦ ap (λ (ys : List A). slice_index_or ys id x) (set_past xs id x past) ∙ get_or_past xs id x past
    ]

-- slot and row with a number are empty, and all others are as they were
abbrev IsEmptiedAt : Contents → Contents → ℕ → Type 0
IsEmptiedAt before after slot = (slot_in after slot ≡ empty_slot) × (row_in after slot ≡ 0) × OthersStay before after slot

emptied_at : (vault : Contents) (slot : ℕ) → IsEmptiedAt vault (zeroised_in vault slot) slot
emptied_at vault slot = (
  laid_empty vault.slots slot empty_slot,
  laid_empty vault.rows slot 0,
  λ other apart. (get_or-set_other vault.slots slot other empty_slot empty_slot apart, get_or-set_other vault.rows slot other 0 0 apart),
)

one_emptied : {V : Type 0} (calls : Calls V) (s : MachineState V) (events : List Sample) (slot : ℕ) (read : Option RequestValue) → read ≡ Some (request.Zeroise slot) → (allowed : Bool)
    → (let after : Stepped V = if allowed then dispatch_request calls s events read else refused s status.NotInState events in
    after.status ≡ status.Ok → IsEmptiedAt (vault_of s) (vault_of after.machine) slot)
one_emptied calls s events slot read is true ok = rw is (emptied_at (vault_of s) slot)
one_emptied calls s events slot read is false ok = cc

service_emptied : {V : Type 0} (calls : Calls V) (s : MachineState V) (events : List Sample) (body : List ℕ) (slot : ℕ) (found : Option Service) → request_at found body ≡ Some (request.Zeroise slot)
    → (dispatch calls s events found body).status ≡ status.Ok
    → IsEmptiedAt (vault_of s) (vault_of (dispatch calls s events found body).machine) slot
service_emptied calls s events body slot None is = cc
service_emptied calls s events body slot (Some found) is = one_emptied calls s events slot (request_of found body) is (is_permitted found (state_of s))

pub empties_one : {V : Type 0} (calls : Calls V) → ZeroisingEmptiesOne calls
empties_one {V} calls s events command slot is =
    let Empties : Stepped V → Type 0 = λ after. after.status ≡ status.Ok → IsEmptiedAt (vault_of s) (vault_of after.machine) slot in
    by_order calls s events command Empties (λ _. service_emptied calls s events command.body slot (service_numbered command.service) is)
    (λ number _ _. service_emptied calls (with_public s (sequence_taken s.shared.public)) events command.body slot (service_numbered command.service) is)
    (λ number _ _ ok. cc)

-- no status of a service is one of a refusal at once
not_at_once : (why : Status) → why ≢ status.UnknownService → why ≢ status.NotInState → why ≢ status.BadBody → IsRefusedAtOnce why → ⊥
not_at_once why a b c which = elim which [ inl x ↦ a x | inr y ↦ (elim y [ inl z ↦ b z | inr w ↦ c w ]) ]

slot_not_at_once : (why : SlotFault) → IsRefusedAtOnce (fault_status why) → ⊥
slot_not_at_once fault.EmptySlot = not_at_once status.EmptySlot (λ e. cc) (λ e. cc) (λ e. cc)
slot_not_at_once fault.WrongKind = not_at_once status.WrongKind (λ e. cc) (λ e. cc) (λ e. cc)
slot_not_at_once fault.WrongDomain = not_at_once status.WrongDomain (λ e. cc) (λ e. cc) (λ e. cc)
slot_not_at_once fault.Spent = not_at_once status.Spent (λ e. cc) (λ e. cc) (λ e. cc)
slot_not_at_once fault.OccupiedSlot = not_at_once status.OccupiedSlot (λ e. cc) (λ e. cc) (λ e. cc)
slot_not_at_once fault.NotExportable = not_at_once status.NotExportable (λ e. cc) (λ e. cc) (λ e. cc)

never_at_once : OfServices (λ why. IsRefusedAtOnce why → ⊥)
never_at_once = record {
  ok = not_at_once status.Ok (λ e. cc) (λ e. cc) (λ e. cc);
  test_failed = not_at_once status.TestFailed (λ e. cc) (λ e. cc) (λ e. cc);
  bad_length = not_at_once status.BadLength (λ e. cc) (λ e. cc) (λ e. cc);
  check_failed = not_at_once status.CheckFailed (λ e. cc) (λ e. cc) (λ e. cc);
  auth_failed = not_at_once status.AuthFailed (λ e. cc) (λ e. cc) (λ e. cc);
  unwrap_failed = not_at_once status.UnwrapFailed (λ e. cc) (λ e. cc) (λ e. cc);
  by_slot = slot_not_at_once;
}

-- nothing has changed
abbrev Unchanged : {V : Type 0} → MachineState V → List Sample → Stepped V → Type 0
Unchanged s events after = (after.machine ≡ s) × (after.left ≡ events) × (after.payload ≡ [])

requested_unchanged : {V : Type 0} (calls : Calls V) (s : MachineState V) (events : List Sample) (read : Option RequestValue) → IsRefusedAtOnce (dispatch_request calls s events read).status
    → Unchanged s events (dispatch_request calls s events read)
requested_unchanged calls s events None which = (refl, refl, refl)
requested_unchanged calls s events (Some what) which = absurd (performed_status (λ why. IsRefusedAtOnce why → ⊥) never_at_once calls s events what (λ is. not_at_once status.NoiseFault (λ e. cc) (λ e. cc) (λ e. cc)) which)

choice_unchanged : {V : Type 0} (calls : Calls V) (s : MachineState V) (events : List Sample) (allowed : Bool) (read : Option RequestValue)
    → (let after : Stepped V = if allowed then dispatch_request calls s events read else refused s status.NotInState events in IsRefusedAtOnce after.status → Unchanged s events after)
choice_unchanged calls s events true read which = requested_unchanged calls s events read which
choice_unchanged calls s events false read which = (refl, refl, refl)

dispatched_unchanged : {V : Type 0} (calls : Calls V) (s : MachineState V) (events : List Sample) (found : Option Service) (body : List ℕ) → IsRefusedAtOnce (dispatch calls s events found body).status
    → Unchanged s events (dispatch calls s events found body)
dispatched_unchanged calls s events None body which = (refl, refl, refl)
dispatched_unchanged calls s events (Some found) body which = choice_unchanged calls s events (is_permitted found (state_of s)) (request_of found body) which

pub refusals_unchanged : {V : Type 0} (calls : Calls V) → RefusalsChangeNothing calls
refusals_unchanged {V} calls s events command =
    let Stays : Stepped V → Type 0 = λ after. IsRefusedAtOnce after.status → Unchanged (number_taken s command.sequence) events after in
    by_order calls s events command Stays
    (λ none which. rw none (dispatched_unchanged calls s events (service_numbered command.service) command.body which))
    (λ number some _ which. rw some (dispatched_unchanged calls (with_public s (sequence_taken s.shared.public)) events (service_numbered command.service) command.body which))
    (λ number some _ which. absurd (not_at_once status.OutOfOrder (λ e. cc) (λ e. cc) (λ e. cc) which))
