-- Two machines that are equal outside what is tainted, which is what of them may depend on secret bytes.
use Rattle.std.specs.Prelude.{◌≡◌, ℕ, Bool, false, List, length}
use Rattle.ssp_slots.specs.declared.slot.Slot.{Slot}
use Rattle.crypto_services.specs.AtSlots.{slot_at}
use Rattle.state_model.specs.declared.entry.Entry.{Entry}
use Rattle.state_model.specs.MachineState.{MachineState}

-- what may differ: the bytes that were entered, and slots, those for which the test is true
pub record Tainted : Type 0 where
  pub entry : Bool
  pub slot : ℕ → Bool

-- nothing may differ
abbrev pub untainted : Tainted
untainted = record { entry = false; slot = λ id. false }

pub record IsUntainted (T : Tainted) : Type 0 where
  pub entry : T.entry ≡ false
  pub slot : (id : ℕ) → T.slot id ≡ false

-- as many slots, and each that isn't tainted is the same
pub record SlotsAgree (tainted : ℕ → Bool) (a b : List Slot) : Type 0 where
  pub many : length a ≡ length b
  pub each : (id : ℕ) → tainted id ≡ false → slot_at a id ≡ slot_at b id

-- the same entry, but for its bytes where these are tainted
pub record EntriesAgree (tainted : Bool) (a b : Entry) : Type 0 where
  pub target : a.target ≡ b.target
  pub filled : a.filled ≡ b.filled
  pub room : length a.bytes ≡ length b.bytes
  pub bytes : tainted ≡ false → a.bytes ≡ b.bytes

-- Equal in all but tainted slots and a tainted entry's bytes: so the public state, the tests, the noise, the generator and all rows of
-- ancestry are equal, those of tainted slots too.
pub record EqualOutside {V : Type 0} (T : Tainted) (s t : MachineState V) : Type 0 where
  pub shared : s.shared ≡ t.shared
  pub slots : SlotsAgree T.slot s.slots t.slots
  pub entry : EntriesAgree T.entry s.entry t.entry

-- as much is tainted in both
pub record SameTaint (T U : Tainted) : Type 0 where
  pub entry : T.entry ≡ U.entry
  pub slot : (id : ℕ) → T.slot id ≡ U.slot id
