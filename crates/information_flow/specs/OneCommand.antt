-- One command erases a key with all that was made from it: ZeroiseTree of the slot into which secret bytes were entered.
use Rattle.std.specs.Prelude.{◌≡◌, ℕ, true, List, [], ◌∷◌, length, Some, IfSome}
use Rattle.ssp_slots.specs.Ancestry.{descendants}
use Rattle.outside.specs.declared.traits.Sample.{Sample}
use Rattle.module_frames.specs.CommandFrames.{CommandFrame}
use Rattle.module_frames.specs.Requests as request
use Rattle.engine_core.specs.Calls.{Calls}
use Rattle.state_model.specs.MachineState.{MachineState}
use Rattle.state_model.specs.Step.{step}
use Rattle.information_flow.specs.Tainted.{Tainted, untainted}
use Rattle.information_flow.specs.Taint.{admitted, taint_after}
use Rattle.information_flow.specs.Variants.{CommandPair, AreSecretVariants}

-- where the command commits a tainted entry, that is one for slot k
abbrev pub CommitsInto : {V : Type 0} → ℕ → Tainted → MachineState V → CommandFrame → Type 0
CommitsInto k T s command = (check : List ℕ) → admitted s command ≡ Some (request.EntryCommit check) → T.entry ≡ true → IfSome s.entry.target (λ target. target.slot ≡ k)

-- so does each command of a run
abbrev pub AllCommitInto : {V : Type 0} → Calls V → ℕ → Tainted → MachineState V → List Sample → List CommandPair → Type 0
AllCommitInto calls k T s events [] = Unit {0}
AllCommitInto calls k T s events (pair ∷ pairs) =
    CommitsInto k T s pair.one
    × (let after = step calls s events pair.one in AllCommitInto calls k (taint_after calls s events T pair.one pair.other) after.machine after.left pairs)

-- each tainted slot is in the tree of slot k: it is k, or its row holds k
abbrev pub IsTaintInTree : {V : Type 0} → ℕ → Tainted → MachineState V → Type 0
IsTaintInTree k T s = (id : ℕ) → T.slot id ≡ true → descendants s.shared.ancestry k id ≡ true

-- all along two runs that is so, and after each ZeroiseTree of slot k that was done the two machines are equal
abbrev pub TreeHoldsTaint : {V : Type 0} → Calls V → ℕ → Tainted → MachineState V → MachineState V → List Sample → List CommandPair → Type 0
TreeHoldsTaint calls k T s t events [] = IsTaintInTree k T s
TreeHoldsTaint calls k T s t events (pair ∷ pairs) =
    let a = step calls s events pair.one in
    let b = step calls t events pair.other in
    IsTaintInTree k T s × (admitted s pair.one ≡ Some (request.ZeroiseTree k) → a.machine ≡ b.machine)
    × TreeHoldsTaint calls k (taint_after calls s events T pair.one pair.other) a.machine b.machine a.left pairs

-- So it is of commands that differ in secrets alone, from any state in which nothing is tainted and there are sixteen rows, where all
-- tainted entries are for slot k.
abbrev pub OneCommandSuffices : {V : Type 0} → Calls V → Type 0
OneCommandSuffices {V} calls = (k : ℕ) (s : MachineState V) (events : List Sample) (pairs : List CommandPair) → length s.shared.ancestry ≡ 16
    → AreSecretVariants calls untainted s events pairs → AllCommitInto calls k untainted s events pairs → TreeHoldsTaint calls k untainted s s events pairs
