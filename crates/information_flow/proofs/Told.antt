-- What a step tells, and two steps that are alike.
use Rattle.std.proofs.Common.{◌≡◌, ℕ, Bool, false, List, [], Option, Some, None, refl, sym, ap, ◌∙◌}
use Rattle.service_table.specs.declared.status.Status.{Status}
use Rattle.ssp_slots.specs.declared.slot.Slot.{Slot}
use Rattle.outside.specs.declared.traits.Sample.{Sample}
use Rattle.module_frames.specs.PublicState.{no_block}
use Rattle.module_frames.specs.Requests.{RequestValue}
use Rattle.module_frames.specs.Requests as request
use Rattle.crypto_services.specs.Indicator.{is_ok}
use Rattle.state_model.specs.declared.entry.Entry.{Entry}
use Rattle.state_model.specs.MachineState.{Shared, MachineState}
use Rattle.state_model.specs.Management.{Stepped, answered, refused}
use Rattle.state_model.specs.Step.{indicated}
use Rattle.information_flow.specs.Tainted.{Tainted, SlotsAgree, EntriesAgree, EqualOutside}

-- what a step for a request tells, but for the state after it
pub record Told : Type 0 where
  pub status : Status
  pub approved : Bool
  pub block : List ℕ
  pub payload : List ℕ

abbrev pub told_of : {V : Type 0} → Option RequestValue → Stepped V → Told
told_of read after = record { status = after.status; approved = indicated read after.status after.machine.slots; block = after.block; payload = after.payload }

-- both steps leave machines that are equal outside what is tainted, and tell the same unless that was observed
pub record Alike {V : Type 0} (T : Tainted) (observed : Bool) (read instead : Option RequestValue) (a b : Stepped V) : Type 0 where
  pub outside : EqualOutside T a.machine b.machine
  pub left : a.left ≡ b.left
  pub same : observed ≡ false → told_of read a ≡ told_of instead b

-- a machine, by what no key reaches, its slots and its entry
abbrev pub machine : {V : Type 0} → Shared V → List Slot → Entry → MachineState V
machine shared slots entry = record { shared = shared; slots = slots; entry = entry }

pub outside : {V : Type 0} (T : Tainted) (shared : Shared V) (a b : List Slot) (e f : Entry) → SlotsAgree T.slot a b → EntriesAgree T.entry e f → EqualOutside T (machine shared a e) (machine shared b f)
outside T shared a b e f slots entry = record { shared = refl; slots = slots; entry = entry }

pub same_entry : (tainted : Bool) (entry : Entry) → EntriesAgree tainted entry entry
same_entry tainted entry = record { target = refl; filled = refl; room = refl; bytes = λ _. refl }

-- nothing is indicated where a command was refused
pub not_indicated : (read : Option RequestValue) (outcome : Status) (slots : List Slot) → is_ok outcome ≡ false → indicated read outcome slots ≡ false
not_indicated None outcome slots h = refl
not_indicated (Some (request.PowerOn period)) outcome slots h = refl
not_indicated (Some request.TestStep) outcome slots h = refl
not_indicated (Some request.RequestTests) outcome slots h = refl
not_indicated (Some request.ShowStatus) outcome slots h = refl
not_indicated (Some request.ShowVersion) outcome slots h = refl
not_indicated (Some (request.SelectRole role)) outcome slots h = refl
not_indicated (Some request.Reset) outcome slots h = refl
not_indicated (Some (request.EntryBegin slot header long)) outcome slots h = refl
not_indicated (Some (request.EntryBytes piece)) outcome slots h = refl
not_indicated (Some (request.EntryCommit check)) outcome slots h = refl
not_indicated (Some request.EntryAbort) outcome slots h = refl
not_indicated (Some (request.Zeroise slot)) outcome slots h = refl
not_indicated (Some (request.ZeroiseTree slot)) outcome slots h = refl
not_indicated (Some request.ZeroiseAll) outcome slots h = refl
not_indicated (Some (request.ShowSlot slot)) outcome slots h = refl
not_indicated (Some (request.Cryptographic what)) outcome slots h = rw h refl

-- both are refused for one reason, and told one block
pub answered_alike : {V : Type 0} (T : Tainted) (observed : Bool) (read instead : Option RequestValue) (s t : MachineState V) (reason : Status) (block : List ℕ) (events : List Sample) → is_ok reason ≡ false
    → EqualOutside T s t → Alike T observed read instead (answered s reason block events) (answered t reason block events)
answered_alike T observed read instead s t reason block events h equal = record {
  outside = equal;
  left = refl;
  same = λ _. ap told (not_indicated read reason s.slots h) ∙ sym (ap told (not_indicated instead reason t.slots h));
}
  where
    told : Bool → Told
    told approved = record { status = reason; approved = approved; block = block; payload = [] }

pub refused_alike : {V : Type 0} (T : Tainted) (observed : Bool) (read instead : Option RequestValue) (s t : MachineState V) (reason : Status) (events : List Sample) → is_ok reason ≡ false
    → EqualOutside T s t → Alike T observed read instead (refused s reason events) (refused t reason events)
refused_alike T observed read instead s t reason events h equal = answered_alike T observed read instead s t reason no_block events h equal
