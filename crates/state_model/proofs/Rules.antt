-- What each service does keeps the rules.
use Rattle.std.proofs.Common.{◌≡◌, ◌≢◌, ◌≤◌, ◌<◌, ◌^◌, ◌+◌, ℕ, zero, suc, List, [], Bool, true, false, Option, Some, None, length, refl, subst, arith, if◌then◌else◌}
use Rattle.std.specs.Prelude.{◌==◌, not, nat_le, IsTrue, IfSome, bytes_eq}
use Rattle.std.proofs.lemmas.Bool.Decides.{nat_tests}
use Rattle.bits_core.specs.ByteList.{IsBytes}
use Rattle.bits_core.specs.Parameters.{length_fits}
use Rattle.bits_core.specs.declared.parameter.Kind.{Kind}
use Rattle.bits_core.proofs.Bytes.{IsBytes-take}
use Rattle.service_table.specs.declared.service.Service.TheVariants as service
use Rattle.service_table.specs.declared.state.State.TheVariants as state
use Rattle.service_table.specs.declared.status.Status.{Status}
use Rattle.service_table.specs.declared.status.Status.TheVariants as status
use Rattle.service_table.specs.Services.{is_permitted}
use Rattle.outside.specs.declared.traits.Sample.{Sample}
use Rattle.module_frames.specs.declared.public_state.PublicState.{PublicState}
use Rattle.module_frames.specs.PublicState.{no_block}
use Rattle.module_frames.specs.PublicEffects.{sequence_taken, use_counted, is_period_over, sent_to_tests, has_failed, role_state}
use Rattle.drbg_core.specs.declared.generator.Drbg.{Drbg}
use Rattle.service_table.specs.declared.failure.Failure.{Failure}
use Rattle.state_model.proofs.Testing.{Includes, passed_more, passed_in_use, use_of_passed, none_done}
use Rattle.state_model.proofs.Vaults.{AreWellFormed-tree_zeroised}
use Rattle.ssp_slots.specs.declared.slot.Slot.{Slot}
use Rattle.ssp_slots.specs.declared.slot_fault.SlotFault.{SlotFault}
use Rattle.ssp_slots.specs.Refusals.{source_fault, vacancy_fault}
use Rattle.ssp_slots.specs.Slots.{Contents, AreWellFormed, slot_in, zeroised_in, zeroised_all}
use Rattle.ssp_slots.specs.Slots.{IsWellFormed as IsWellFormedSlot}
use Rattle.ssp_slots.specs.Ancestry.{tree_zeroised}
use Rattle.ssp_slots.proofs.WellFormedSlots.{AreWellFormed-with_slot, AreWellFormed-zeroised, AreWellFormed-empty, IsWellFormed-spent, IsWellFormed-filled}
use Rattle.engine_core.specs.Calls.{Calls}
use Rattle.crypto_services.specs.AtSlots.{Answer, SlotResult, slot_at, on_slot, on_source, source, source_by, under_key, unless_fault}
use Rattle.state_model.specs.declared.entry.Target.{Target}
use Rattle.state_model.specs.Entries.{with_piece, entry_length, IsEntered}
use Rattle.state_model.specs.Commit.{commit_at, unless, entered, after_check, check_value}
use Rattle.state_model.specs.MachineState.{MachineState, Shared, IsReturn, IsPublicState, HavePassed, ArePassed, AreHealthy, IsFailure, state_of, vault_of, with_vault}
use Rattle.state_model.specs.MachineState.{IsWellFormed as IsMachine}
use Rattle.state_model.specs.Management.{refused, done, with_public, power_on, request_tests, select_role, reset, entry_begin, entry_bytes, entry_over, entry_commit, committed, with_slots, zeroise, zeroise_tree, zeroise_all}
use Rattle.state_model.specs.Cryptographic.{after_slots}
use Rattle.state_model.proofs.Permitted.{not_entering_for_request_tests, not_failed_for_request_tests, return_for_select_role, return_is_not_entry, return_is_faultless, return_for_hash}
use Rattle.state_model.proofs.PublicRules.{sequence_taken_kept, powered_on_kept, tests_requested_kept, failed_use_kept, failed_is_not_over, role_selected_kept, role_is_of_use, was_reset_kept, entry_begun_kept, entry_ended_kept, used_kept}
use Rattle.state_model.proofs.EntryRules.{underway_begun, underway_with_piece, underway_target}

-- another public state, from a state in which nothing failed and nothing is entered to such a one
quiet_kept : {V : Type 0} (s : MachineState V) (public : PublicState) (tests : ℕ) → IsMachine s → IsPublicState public → ArePassed public.state public.tests_done tests s.shared.generator → state_of s ≢ state.Error
    → state_of s ≢ state.Entry → public.state ≢ state.Entry → (let t : MachineState V = record s { shared = record s.shared { public = public; tests_passed = tests } } in IsMachine t)
quiet_kept s public tests rules kept passed healthy quiet still = record {
  public = kept;
  passed = passed;
  healthy = λ _. rules.healthy healthy;
  slots = rules.slots;
  entering = λ e. absurd (still e);
  wiped = λ _. rules.wiped quiet;
}

pub number_taken_kept : {V : Type 0} (s : MachineState V) → IsMachine s → IsMachine (with_public s (sequence_taken s.shared.public))
number_taken_kept s rules =
    record { public = sequence_taken_kept s.shared.public rules.public; passed = rules.passed; healthy = rules.healthy; slots = rules.slots; entering = rules.entering; wiped = rules.wiped }

pub power_on_kept : {V : Type 0} (s : MachineState V) (period : ℕ) → IsMachine s → state_of s ≡ state.Off → period ≤ 1000000 → IsMachine (power_on s period)
power_on_kept s period rules off small =
    quiet_kept s _ s.shared.tests_passed rules (powered_on_kept s.shared.public period rules.public off small) tt (λ e. cc) (λ e. cc) (λ e. cc)

pub request_tests_kept : {V : Type 0} (s : MachineState V) → IsMachine s → is_permitted service.RequestTests (state_of s) ≡ true → IsMachine (request_tests s)
request_tests_kept s rules allowed =
    quiet_kept s _ 0 rules (tests_requested_kept s.shared.public rules.public allowed) (none_done 0 s.shared.generator) (not_failed_for_request_tests (state_of s) allowed)
    (not_entering_for_request_tests (state_of s) allowed) (λ e. cc)

pub select_role_kept : {V : Type 0} (s : MachineState V) (role : ℕ) → IsMachine s → is_permitted service.SelectRole (state_of s) ≡ true → IsMachine (select_role s role)
select_role_kept s role rules allowed =
    let use' = return_for_select_role (state_of s) allowed in
    quiet_kept s _ s.shared.tests_passed rules (role_selected_kept s.shared.public role rules.public use')
    (use_of_passed (role_state role) s.shared.public.tests_done s.shared.tests_passed s.shared.generator (role_is_of_use role)
    (passed_in_use (state_of s) s.shared.public.tests_done s.shared.tests_passed s.shared.generator use' rules.passed)) (return_is_faultless (state_of s) use')
    (return_is_not_entry (state_of s) use') (return_is_not_entry _ (role_is_of_use role))

-- no sample shows no fault
no_samples : AreHealthy []
no_samples zero = refl
no_samples (suc n) = refl

pub reset_kept : {V : Type 0} (s : MachineState V) → IsMachine s → IsMachine (reset s)
reset_kept s rules = record {
  public = was_reset_kept s.shared.public rules.public;
  passed = tt;
  healthy = λ _. no_samples;
  slots = AreWellFormed-empty;
  entering = λ e. cc;
  wiped = λ _. refl;
}

-- other slots and rows, and another engine
pub vault_kept : {V : Type 0} (s : MachineState V) (engine : V) (vault : Contents) → IsMachine s → AreWellFormed vault → IsMachine (with_vault (with_slots s engine s.slots) vault)
vault_kept s engine vault rules are =
    record { public = rules.public; passed = rules.passed; healthy = rules.healthy; slots = are; entering = rules.entering; wiped = rules.wiped }

pub slots_kept : {V : Type 0} (s : MachineState V) (engine : V) (slots : List Slot) → IsMachine s → AreWellFormed (record (vault_of s) { slots = slots }) → IsMachine (with_slots s engine slots)
slots_kept s engine slots rules are = vault_kept s engine (record (vault_of s) { slots = slots }) rules are

pub zeroise_kept : {V : Type 0} (s : MachineState V) (slot : ℕ) → IsMachine s → IsMachine (zeroise s slot)
zeroise_kept s slot rules = vault_kept s s.shared.engine (zeroised_in (vault_of s) slot) rules (AreWellFormed-zeroised (vault_of s) slot rules.slots)

pub zeroise_all_kept : {V : Type 0} (s : MachineState V) → IsMachine s → IsMachine (zeroise_all s)
zeroise_all_kept s rules = vault_kept s s.shared.engine zeroised_all rules AreWellFormed-empty

pub entry_begin_kept : {V : Type 0} (s : MachineState V) (target : Target) → IsMachine s → state_of s ≡ state.Officer → target.slot < 16
    → 1 ≤ target.header.uses → target.header.uses < 2 ^ 32 → IsTrue (length_fits target.header.kind target.header.domain target.length) → IsMachine (entry_begin s target)
entry_begin_kept s target rules officer slot uses width fits = record {
  public = entry_begun_kept s.shared.public rules.public officer;
  passed = rw officer at rules.passed;
  healthy = λ _. rules.healthy (λ e. cc);
  slots = rules.slots;
  entering = λ _. underway_begun target slot uses width fits;
  wiped = λ other. absurd (other refl);
}

pub entry_bytes_kept : {V : Type 0} (s : MachineState V) (piece : List ℕ) → IsBytes piece → IsMachine s → state_of s ≡ state.Entry → s.entry.filled + length piece ≤ entry_length s.entry
    → IsMachine (record s { entry = with_piece s.entry piece })
entry_bytes_kept s piece are_bytes rules entering fits = record {
  public = rules.public;
  passed = rules.passed;
  healthy = rules.healthy;
  slots = rules.slots;
  entering = λ _. underway_with_piece s.entry piece are_bytes (rules.entering entering) fits;
  wiped = λ other. absurd (other entering);
}

-- a piece is appended or refused
pub entry_bytes_rules : {V : Type 0} (s : MachineState V) (piece : List ℕ) (events : List Sample) → IsBytes piece → IsMachine s → state_of s ≡ state.Entry → IsMachine (entry_bytes s piece events).machine
entry_bytes_rules s piece events are_bytes rules entering = chosen (nat_le (s.entry.filled + length piece) (entry_length s.entry)) refl
  where
    chosen : (fits : Bool) → nat_le (s.entry.filled + length piece) (entry_length s.entry) ≡ fits
        → IsMachine (if fits then done (record s { entry = with_piece s.entry piece }) no_block events else refused s status.BadLength events).machine
    chosen true h = entry_bytes_kept s piece are_bytes rules entering (grind (arith, nat_tests, h))
    chosen false h = rules

-- an entry ends: it is wiped, and the officer goes on
pub entry_over_kept : {V : Type 0} (s : MachineState V) → IsMachine s → state_of s ≡ state.Entry → IsMachine (entry_over s)
entry_over_kept s rules entering = record {
  public = entry_ended_kept s.shared.public rules.public entering;
  passed = rw entering at rules.passed;
  healthy = λ _. rules.healthy (λ e. cc);
  slots = rules.slots;
  entering = λ e. cc;
  wiped = λ _. refl;
}

-- the slot after a commit
unless_kept : {V : Type 0} (engine : V) (slot : Slot) (applies : Bool) (why : Status) (served : SlotResult V) → IsWellFormedSlot slot → (applies ≡ false → IsWellFormedSlot served.slot)
    → IsWellFormedSlot (unless engine slot applies why served).slot
unless_kept engine slot true why served well next = well
unless_kept engine slot false why served well next = next refl

pub fault_kept : {V : Type 0} (engine : V) (slot : Slot) (fault : Option SlotFault) (served : SlotResult V) → IsWellFormedSlot slot → IsWellFormedSlot served.slot
    → IsWellFormedSlot (unless_fault engine slot fault served).slot
fault_kept engine slot None served well next = next
fault_kept engine slot (Some why) served well next = well

commit_kept : {V : Type 0} (calls : Calls V) (engine : V) (target : Target) (bytes check : List ℕ) (slot : Slot) → IsWellFormedSlot slot → IsBytes bytes
    → IsTrue (length_fits target.header.kind target.header.domain target.length) → target.header.uses < 2 ^ 32 → IsWellFormedSlot (commit_at calls engine target bytes check slot).slot
commit_kept calls engine target bytes check slot well are_bytes fits width =
    unless_kept engine slot (not (length bytes == target.length)) status.BadLength _ well (λ same.
    let long : target.length ≡ length bytes = grind (arith, nat_tests, same) in
    fault_kept engine slot (vacancy_fault slot.header) _ well
    (unless_kept (after_check calls engine target bytes) slot (not (bytes_eq check (check_value calls engine target bytes))) status.CheckFailed _ well (λ _.
    IsWellFormed-filled target.header bytes (subst (λ n. IsTrue (length_fits target.header.kind target.header.domain n)) long fits) width are_bytes)))

-- what a service on one slot leaves of all
pub on_slot_kept : {V : Type 0} (vault : Contents) (id : ℕ) (service : Slot → SlotResult V) → AreWellFormed vault
    → IsWellFormedSlot (service (slot_in vault id)).slot → AreWellFormed (record vault { slots = (on_slot vault.slots id service).slots })
on_slot_kept vault id service are well = AreWellFormed-with_slot vault id (service (slot_in vault id)).slot are well

pub committed_kept : {V : Type 0} (calls : Calls V) (s : MachineState V) (target : Option Target) (check : List ℕ) → AreWellFormed (vault_of s) → IfSome target (λ t. IsEntered t s.entry)
    → AreWellFormed (record (vault_of s) { slots = (committed calls s target check).slots })
committed_kept calls s None check are underway = are
committed_kept calls s (Some target) check are underway =
    on_slot_kept (vault_of s) target.slot (commit_at calls s.shared.engine target (entered s.entry) check) are
    (commit_kept calls s.shared.engine target (entered s.entry) check (slot_at s.slots target.slot) (are.each target.slot underway.slot)
    (IsBytes-take s.entry.filled s.entry.bytes underway.byte_values) underway.fits underway.uses_width)

pub entry_commit_kept : {V : Type 0} (calls : Calls V) (s : MachineState V) (check : List ℕ) (events : List Sample) → IsMachine s → state_of s ≡ state.Entry
    → IsMachine (entry_commit calls s check events).machine
entry_commit_kept calls s check events rules entering =
    let result = committed calls s s.entry.target check in
    entry_over_kept (with_slots s result.engine result.slots)
    (slots_kept s result.engine result.slots rules (committed_kept calls s s.entry.target check rules.slots (underway_target s.entry (rules.entering entering)))) entering

-- a source slot, spent or refused
source_kept : (slot : Slot) (fault : Option SlotFault) → IsWellFormedSlot slot → IsWellFormedSlot (source_by slot fault).slot
source_kept slot None well = IsWellFormed-spent slot well
source_kept slot (Some why) well = well

under_key_kept : {V : Type 0} (engine : V) (slot : Slot) (key : List ℕ) (refused' : Option Status) (after : List ℕ → V) (answer : List ℕ → Answer) → IsWellFormedSlot slot
    → IsWellFormedSlot (under_key engine slot key refused' after answer).slot
under_key_kept engine slot key None after answer well = well
under_key_kept engine slot key (Some why) after answer well = well

pub on_source_kept : {V : Type 0} (engine : V) (slot : Slot) (kind : Kind) (approved : Bool) (after : List ℕ → V) (answer : List ℕ → Answer) → IsWellFormedSlot slot
    → IsWellFormedSlot (on_source engine (source kind approved slot) after answer).slot
on_source_kept engine slot kind approved after answer well =
    under_key_kept engine _ _ _ after answer (source_kept slot (source_fault slot.header kind approved) well)

-- what comes before and after the slots
after_kept : {V : Type 0} (s : MachineState V) (more : ℕ) (engine : V) (generator : Drbg) (samples rows : List ℕ) (slots : List Slot) (over : Bool) → IsMachine s → IsReturn (state_of s)
    → HavePassed more generator → AreHealthy samples → AreWellFormed (record { slots = slots; rows = rows })
    → IsPublicState (if over then sent_to_tests (use_counted s.shared.public) else use_counted s.shared.public)
    → (let counted : Shared V = record s.shared { public = use_counted s.shared.public; tests_passed = more; engine = engine; generator = generator; samples = samples; ancestry = rows } in
    let after : Shared V = if over then record counted { public = sent_to_tests counted.public; tests_passed = 0 } else counted in
    let t : MachineState V = record s { shared = after; slots = slots } in IsMachine t)
after_kept s more engine generator samples rows slots true rules use' have healthy are kept = record {
  public = kept;
  passed = none_done 0 generator;
  healthy = λ _. healthy;
  slots = are;
  entering = λ e. cc;
  wiped = λ _. rules.wiped (return_is_not_entry (state_of s) use');
}
after_kept s more engine generator samples rows slots false rules use' have healthy are kept = record {
  public = kept;
  passed = use_of_passed (state_of s) s.shared.public.tests_done more generator use' have;
  healthy = λ _. healthy;
  slots = are;
  entering = rules.entering;
  wiped = rules.wiped;
}

-- a cryptographic service in a role, whatever it made of engine, generator, noise, rows and slots
pub cryptographic_kept : {V : Type 0} (s : MachineState V) (more : ℕ) (engine : V) (generator : Drbg) (samples rows : List ℕ) (slots : List Slot) → IsMachine s → is_permitted service.Hash (state_of s) ≡ true
    → Includes more s.shared.tests_passed → AreHealthy samples → 1 ≤ generator.counter → generator.counter ≤ 1025 → AreWellFormed (record { slots = slots; rows = rows })
    → (let counted : Shared V = record s.shared { public = use_counted s.shared.public; tests_passed = more; engine = engine; generator = generator; samples = samples; ancestry = rows } in
    let t : MachineState V = record s { shared = after_slots counted; slots = slots } in IsMachine t)
cryptographic_kept s more engine generator samples rows slots rules allowed includes healthy seeded requests are =
    let use' = return_for_hash (state_of s) allowed in
    let have = passed_more more s.shared.tests_passed s.shared.generator includes (passed_in_use (state_of s) s.shared.public.tests_done s.shared.tests_passed s.shared.generator use' rules.passed) in
    after_kept s more engine generator samples rows slots (is_period_over (use_counted s.shared.public)) rules use'
    (record { mac_passed = have.mac_passed; generator_passed = have.generator_passed; seeded = seeded; requests = requests }) healthy are (used_kept s.shared.public rules.public use')

-- the generator of a machine in a role
pub generator_in_use : {V : Type 0} (s : MachineState V) → IsMachine s → is_permitted service.Hash (state_of s) ≡ true → HavePassed s.shared.tests_passed s.shared.generator
generator_in_use s rules allowed =
    passed_in_use (state_of s) s.shared.public.tests_done s.shared.tests_passed s.shared.generator (return_for_hash (state_of s) allowed) rules.passed

-- and its noise is healthy
pub healthy_in_use : {V : Type 0} (s : MachineState V) → IsMachine s → is_permitted service.Hash (state_of s) ≡ true → AreHealthy s.shared.samples
healthy_in_use s rules allowed = rules.healthy (return_is_faultless (state_of s) (return_for_hash (state_of s) allowed))

-- one in which something failed before the slots
pub failed_use_is_kept : {V : Type 0} (s : MachineState V) (fault : Failure) (more : ℕ) (engine : V) (generator : Drbg) (samples : List ℕ) → IsFailure fault → IsMachine s
    → is_permitted service.Hash (state_of s) ≡ true
    → (let failed : Shared V = record s.shared { public = has_failed fault (use_counted s.shared.public); tests_passed = more; engine = engine; generator = generator; samples = samples } in
    let u : MachineState V = record s { shared = after_slots failed } in IsMachine u)
failed_use_is_kept {V} s fault more engine generator samples is rules allowed = rw (failed_is_not_over (use_counted s.shared.public) fault) (record {
  public = failed_use_kept s.shared.public fault rules.public is;
  passed = tt;
  healthy = λ other. absurd (other refl);
  slots = rules.slots;
  entering = λ e. cc;
  wiped = λ _. rules.wiped (return_is_not_entry (state_of s) (return_for_hash (state_of s) allowed));
})

-- the tree of a slot is empty
pub zeroise_tree_kept : {V : Type 0} (s : MachineState V) (slot : ℕ) → IsMachine s → IsMachine (zeroise_tree s slot)
zeroise_tree_kept s slot rules = vault_kept s s.shared.engine (tree_zeroised (vault_of s) slot) rules (AreWellFormed-tree_zeroised (vault_of s) slot rules.slots)
