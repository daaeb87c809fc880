-- What the machine keeps, by who may ever depend on a key; and the rules of it, which are this project's own.
use Rattle.std.specs.Prelude.{◌≡◌, ◌≢◌, ◌≤◌, ◌<◌, ◌^◌, ℕ, List, [], replicate, take, None, true}
use Rattle.bits_core.specs.ByteList.{zeros}
use Rattle.drbg_core.specs.declared.generator.Drbg.{Drbg}
use Rattle.drbg_core.specs.Generator as drbg
use Rattle.noise_health.specs.Signals.{health_signal}
use Rattle.self_tests.specs.declared.numbers.Test.TheVariants as test
use Rattle.self_tests.specs.TestSet.{has_test}
use Rattle.service_table.specs.declared.failure.Failure.{Failure}
use Rattle.service_table.specs.declared.failure.Failure.TheVariants as failure
use Rattle.service_table.specs.Failures.{failure_code}
use Rattle.service_table.specs.declared.state.State.{State}
use Rattle.service_table.specs.declared.state.State.TheVariants as state
use Rattle.ssp_slots.specs.declared.slot.Slot.{Slot}
use Rattle.ssp_slots.specs.Slots.{Contents, empty_slot, AreWellFormed}
use Rattle.module_frames.specs.declared.public_state.PublicState.{PublicState}
use Rattle.module_frames.specs.PublicState.{unpowered}
use Rattle.state_model.specs.declared.entry.Entry.{Entry}
use Rattle.state_model.specs.Entries.{no_entry, IsUnderway}

-- All that no key ever reaches where the engine is standard: what everyone may see, the tests that passed (test i is the bit of value
-- 2^i), the engine, the samples of noise since power came or since the last Reset, the generator of random bits, the program's image and
-- its digest, and the rows, which say from which slots the parameter of each slot was made.
pub record Shared (V : Type 0) : Type 0 where
  pub public : PublicState
  pub tests_passed : ℕ
  pub engine : V
  pub samples : List ℕ
  pub generator : Drbg
  pub image : List ℕ
  pub digest : List ℕ
  pub ancestry : List ℕ

-- beside it the slots, and the parameter that is being entered
pub record MachineState (V : Type 0) : Type 0 where
  pub shared : Shared V
  pub slots : List Slot
  pub entry : Entry

-- sixteen empty slots
abbrev pub no_slots : List Slot
no_slots = replicate 16 empty_slot

-- sixteen empty rows
abbrev pub no_ancestry : List ℕ
no_ancestry = zeros 16

-- with this engine, image and digest: not powered, the sequence number 1 expected, and all else zero or empty
abbrev pub initial_state : {V : Type 0} → V → (image digest : List ℕ) → MachineState V
initial_state engine image digest = record {
  shared = record {
    public = unpowered;
    tests_passed = 0;
    engine = engine;
    samples = [];
    generator = drbg.empty;
    image = image;
    digest = digest;
    ancestry = no_ancestry;
  };
  slots = no_slots;
  entry = no_entry;
}

abbrev pub state_of : {V : Type 0} → MachineState V → State
state_of s = s.shared.public.state

-- slots and rows as a vault keeps them
abbrev pub vault_of : {V : Type 0} → MachineState V → Contents
vault_of s = record { slots = s.slots; rows = s.shared.ancestry }

-- the machine with the slots and rows of a vault
abbrev pub with_vault : {V : Type 0} → MachineState V → Contents → MachineState V
with_vault s vault = record s { shared = record s.shared { ancestry = vault.rows }; slots = vault.slots }

-- a state to which self-tests return
abbrev pub IsReturn : State → Type 0
IsReturn state.Off = ⊥
IsReturn state.Init = ⊥
IsReturn state.SelfTest = ⊥
IsReturn state.Approved = Unit {0}
IsReturn state.Officer = Unit {0}
IsReturn state.User = Unit {0}
IsReturn state.Entry = ⊥
IsReturn state.Error = ⊥

-- no first samples show a fault (SP 800-90B, 4.4)
abbrev pub AreHealthy : List ℕ → Type 0
AreHealthy samples = (n : ℕ) → health_signal (take n samples) ≡ None

-- what a failure is: of a known-answer test by its number, or one of the others
abbrev pub IsFailure : Failure → Type 0
IsFailure (failure.KnownAnswer test) = (1 ≤ test) × (test ≤ 14)
IsFailure failure.Integrity = Unit {0}
IsFailure failure.NoiseEnded = Unit {0}
IsFailure failure.NoiseFailed = Unit {0}
IsFailure failure.Repetition = Unit {0}
IsFailure failure.Proportion = Unit {0}

-- the error code is that of a failure
abbrev pub IsFailureCode : ℕ → Type 0
IsFailureCode code = (reason : Failure) × IsFailure reason × (code ≡ failure_code reason)

-- HMAC-SHA-256 has passed its test, and so has the generator; and that was seeded, and has answered no more requests than one seed allows
pub record HavePassed (tests_passed : ℕ) (generator : Drbg) : Type 0 where
  pub mac_passed : has_test tests_passed test.HmacSha256 ≡ true
  pub generator_passed : has_test tests_passed test.Generator ≡ true
  pub seeded : 1 ≤ generator.counter
  pub requests : generator.counter ≤ 1025

-- the tests that have passed in each state: while tests are due, the first once it was done; in every state of use both, and the seed
abbrev pub ArePassed : State → ℕ → ℕ → Drbg → Type 0
ArePassed state.Off tests_done tests_passed generator = Unit {0}
ArePassed state.Init tests_done tests_passed generator = Unit {0}
ArePassed state.SelfTest tests_done tests_passed generator = 1 ≤ tests_done → has_test tests_passed test.HmacSha256 ≡ true
ArePassed state.Approved tests_done tests_passed generator = HavePassed tests_passed generator
ArePassed state.Officer tests_done tests_passed generator = HavePassed tests_passed generator
ArePassed state.User tests_done tests_passed generator = HavePassed tests_passed generator
ArePassed state.Entry tests_done tests_passed generator = HavePassed tests_passed generator
ArePassed state.Error tests_done tests_passed generator = Unit {0}

-- the rules of what everyone may see
pub record IsPublicState (public : PublicState) : Type 0 where
  pub period : public.period ≤ 1000000
  -- uses are counted up to the period, and with a period of 0 or before power none is; what failed may have failed in the last one
  pub counting : public.state ≢ state.Error → 0 < public.period → public.uses_since_tests < public.period
  pub uncounted : public.period ≡ 0 → public.uses_since_tests ≡ 0
  pub unpowered : public.state ≡ state.Off → public.uses_since_tests ≡ 0
  -- while tests are due, they return to a state of use, and at most two of the three were done
  pub testing : public.state ≡ state.SelfTest → IsReturn public.return_state × (public.tests_done ≤ 2)
  -- else both are zero
  pub settled : public.state ≢ state.SelfTest → (public.return_state ≡ state.Off) × (public.tests_done ≡ 0)
  -- nothing has failed but in Error
  pub faultless : public.state ≢ state.Error → public.error_code ≡ 0
  -- and there the code tells what has
  pub failed : public.state ≡ state.Error → IsFailureCode public.error_code
  -- the sequence number that is expected is one of 32 bits
  pub sequence : public.next_sequence < 2 ^ 32

-- the rules
pub record IsWellFormed {V : Type 0} (s : MachineState V) : Type 0 where
  pub public : IsPublicState s.shared.public
  -- no state of use without the tests and the seed that lead to it
  pub passed : ArePassed (state_of s) s.shared.public.tests_done s.shared.tests_passed s.shared.generator
  -- the noise was healthy, but where that failed
  pub healthy : state_of s ≢ state.Error → AreHealthy s.shared.samples
  -- each slot is empty, and zero then, or holds a parameter that fits; and there are sixteen rows, each a set of slots
  pub slots : AreWellFormed (vault_of s)
  -- in Entry a parameter is being entered, and else none
  pub entering : state_of s ≡ state.Entry → IsUnderway s.entry
  pub wiped : state_of s ≢ state.Entry → s.entry ≡ no_entry
