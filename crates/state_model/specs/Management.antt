-- What the services do that are no cryptographic ones. These rules are this project's own; ISO/IEC 19790:2012, 7.4.3 and 7.9.7, ask for
-- such services.
use Rattle.std.specs.Prelude.{ℕ, ◌+◌, nat_le, List, [], Option, Some, None, length, if◌then◌else◌}
use Rattle.drbg_core.specs.Generator as drbg
use Rattle.service_table.specs.declared.status.Status.{Status}
use Rattle.service_table.specs.declared.status.Status.TheVariants as status
use Rattle.module_frames.specs.declared.public_state.PublicState.{PublicState}
use Rattle.module_frames.specs.PublicState.{no_block}
use Rattle.module_frames.specs.PublicEffects.{powered_on, tests_requested, test_done, role_selected, was_reset, entry_begun, entry_ended}
use Rattle.ssp_slots.specs.declared.slot.Slot.{Slot}
use Rattle.ssp_slots.specs.Slots.{zeroised_in, zeroised_all}
use Rattle.ssp_slots.specs.Ancestry.{tree_zeroised}
use Rattle.outside.specs.declared.traits.Sample.{Sample}
use Rattle.engine_core.specs.Calls.{Calls}
use Rattle.random_bits.specs.Draws.{Drawn}
use Rattle.crypto_services.specs.AtSlots.{SlotsResult, on_slot, on_no_slot, refusal}
use Rattle.state_model.specs.declared.entry.Target.{Target}
use Rattle.state_model.specs.Entries.{no_entry, begun_entry, with_piece, entry_length}
use Rattle.state_model.specs.Commit.{commit_at, entered}
use Rattle.state_model.specs.declared.self_testing.Judgement.{Judgement}
use Rattle.state_model.specs.SelfTesting.{Tested, step_tested, is_seed_due, seeded_when, noise_judgement}
use Rattle.state_model.specs.MachineState.{Shared, MachineState, no_slots, no_ancestry, vault_of, with_vault}

-- what a step leaves, the events of noise that are left among it, and what it answers
pub record Stepped (V : Type 0) : Type 0 where
  pub machine : MachineState V
  pub status : Status
  pub block : List ℕ
  pub payload : List ℕ
  pub left : List Sample

-- an answer without a payload
abbrev pub answered : {V : Type 0} → MachineState V → Status → List ℕ → List Sample → Stepped V
answered after outcome block events = record { machine = after; status = outcome; block = block; payload = []; left = events }

-- a refusal changes nothing and tells nothing but its reason
abbrev pub refused : {V : Type 0} → MachineState V → Status → List Sample → Stepped V
refused s reason events = answered s reason no_block events

-- it was done
abbrev pub done : {V : Type 0} → MachineState V → List ℕ → List Sample → Stepped V
done after block events = answered after status.Ok block events

abbrev pub with_public : {V : Type 0} → MachineState V → PublicState → MachineState V
with_public s public = record s { shared = record s.shared { public = public } }

-- tests are due anew: none of those that passed counts
abbrev pub tests_forgotten : {V : Type 0} → Shared V → PublicState → Shared V
tests_forgotten shared public = record shared { public = public; tests_passed = 0 }

-- PowerOn
abbrev pub power_on : {V : Type 0} → MachineState V → ℕ → MachineState V
power_on s period = with_public s (powered_on period s.shared.public)

-- RequestTests
abbrev pub request_tests : {V : Type 0} → MachineState V → MachineState V
request_tests s = record s { shared = tests_forgotten s.shared (tests_requested s.shared.public) }

-- what tests, their judgement and a seed leave of all that no key reaches
abbrev pub with_seeded : {V : Type 0} → Shared V → Judgement → Drawn V → Shared V
with_seeded shared judged seed =
    record shared { public = judged.public; tests_passed = judged.tests_passed; engine = seed.engine; generator = seed.generator; samples = seed.samples }

-- what tests and their judgement leave of all that no key reaches
abbrev pub with_tested : {V : Type 0} → Shared V → Tested V → Shared V
with_tested shared tests = record shared { public = tests.judgement.public; tests_passed = tests.judgement.tests_passed; engine = tests.engine }

-- after a test that passed the next is due, and after the last one it is back where tests return
abbrev pub after_test : {V : Type 0} → MachineState V → Shared V → Option Status → List Sample → Stepped V
after_test s shared None events = done (record s { shared = record shared { public = test_done shared.public } }) no_block events
after_test s shared (Some reason) events = answered (record s { shared = shared }) reason no_block events

-- TestStep: the test that is due is made, and after the last one the generator is seeded
abbrev pub test_step : {V : Type 0} → Calls V → MachineState V → List Sample → Stepped V
test_step calls s events =
    let tests = step_tested calls s.shared.engine s.shared.public s.shared.tests_passed s.shared.image s.shared.digest in
    let seed = seeded_when calls tests.engine s.shared.generator s.shared.samples events (is_seed_due tests.judgement.public tests.judgement.refused) in
    let judged = noise_judgement tests.judgement seed.failure in
    after_test s (with_seeded s.shared judged seed) judged.refused seed.left

-- SelectRole
abbrev pub select_role : {V : Type 0} → MachineState V → ℕ → MachineState V
select_role s role = with_public s (role_selected role s.shared.public)

-- Reset: all slots and rows are empty, nothing is entered, the generator has no seed, and no test or sample counts any more; period, engine,
-- image and digest stay
abbrev pub reset : {V : Type 0} → MachineState V → MachineState V
reset s = record { shared = record (tests_forgotten s.shared (was_reset s.shared.public)) { samples = []; generator = drbg.empty; ancestry = no_ancestry }; slots = no_slots; entry = no_entry }

-- EntryBegin: a parameter is entered for this target. The slot isn't looked at.
abbrev pub entry_begin : {V : Type 0} → MachineState V → Target → MachineState V
entry_begin s target = record (with_public s (entry_begun s.shared.public)) { entry = begun_entry target }

-- EntryBytes: the piece is appended. Where it would pass the parameter's length, nothing changes.
abbrev pub entry_bytes : {V : Type 0} → MachineState V → List ℕ → List Sample → Stepped V
entry_bytes s piece events =
    if nat_le (s.entry.filled + length piece) (entry_length s.entry)
    then done (record s { entry = with_piece s.entry piece }) no_block events
    else refused s status.BadLength events

-- An entry ends: it is wiped, and the officer goes on.
abbrev pub entry_over : {V : Type 0} → MachineState V → MachineState V
entry_over s = record (with_public s (entry_ended s.shared.public)) { entry = no_entry }

-- what a commit makes of engine and slots; an entry without a target, which there is none of, has no length that is right
abbrev pub committed : {V : Type 0} → Calls V → MachineState V → Option Target → List ℕ → SlotsResult V
committed calls s None check = on_no_slot s.shared.engine s.slots (refusal status.BadLength)
committed calls s (Some target) check = on_slot s.slots target.slot (commit_at calls s.shared.engine target (entered s.entry) check)

-- engine and slots are those that a service made
abbrev pub with_slots : {V : Type 0} → MachineState V → V → List Slot → MachineState V
with_slots s engine slots = record s { shared = record s.shared { engine = engine }; slots = slots }

-- EntryCommit: whatever becomes of it, the entry is over
abbrev pub entry_commit : {V : Type 0} → Calls V → MachineState V → List ℕ → List Sample → Stepped V
entry_commit calls s check events =
    let result = committed calls s s.entry.target check in
    answered (entry_over (with_slots s result.engine result.slots)) result.answer.status no_block events

-- Zeroise: the slot and its row are empty, and no other changes
abbrev pub zeroise : {V : Type 0} → MachineState V → ℕ → MachineState V
zeroise s slot = with_vault s (zeroised_in (vault_of s) slot)

-- ZeroiseTree: the slot, each slot whose row holds it, and the rows of all these are empty, and no other changes
abbrev pub zeroise_tree : {V : Type 0} → MachineState V → ℕ → MachineState V
zeroise_tree s slot = with_vault s (tree_zeroised (vault_of s) slot)

-- ZeroiseAll: all slots and rows are empty
abbrev pub zeroise_all : {V : Type 0} → MachineState V → MachineState V
zeroise_all s = with_vault s zeroised_all
