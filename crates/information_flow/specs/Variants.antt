-- Streams of commands that differ in secrets alone.
use Rattle.std.specs.Prelude.{◌≡◌, ◌⊎◌, true, List, [], ◌∷◌, length, map, Some}
use Rattle.service_table.specs.declared.service.Service.TheVariants as service
use Rattle.service_table.specs.Numbers.{service_numbered}
use Rattle.outside.specs.declared.traits.Sample.{Sample}
use Rattle.module_frames.specs.CommandFrames.{CommandFrame}
use Rattle.engine_core.specs.Calls.{Calls}
use Rattle.state_model.specs.MachineState.{MachineState}
use Rattle.state_model.specs.Step.{step}
use Rattle.information_flow.specs.Tainted.{Tainted}
use Rattle.information_flow.specs.Taint.{taint_after}

-- the commands that two worlds send at one place of their streams
pub record CommandPair : Type 0 where
  pub one : CommandFrame
  pub other : CommandFrame

-- all that the one world sends, and all that the other does
abbrev pub sent : List CommandPair → List CommandFrame
sent pairs = map (λ (pair : CommandPair). pair.one) pairs

abbrev pub sent_instead : List CommandPair → List CommandFrame
sent_instead pairs = map (λ (pair : CommandPair). pair.other) pairs

-- both are pieces of a parameter, of one length
pub record ArePieces (one other : CommandFrame) : Type 0 where
  pub entry_bytes : service_numbered one.service ≡ Some service.EntryBytes
  pub same_length : length one.body ≡ length other.body

-- both commit an entry whose bytes are tainted, with check values of eight bytes
pub record AreChecks (T : Tainted) (one other : CommandFrame) : Type 0 where
  pub entry_commit : service_numbered one.service ≡ Some service.EntryCommit
  pub eight : length one.body ≡ 8
  pub other_eight : length other.body ≡ 8
  pub tainted : T.entry ≡ true

-- The two differ in secrets alone, where so much is tainted: they are for one service, have the same sequence number or none, and the same
-- body, unless that is a piece of a parameter or the check value of a tainted one.
pub record IsSecretVariant (T : Tainted) (one other : CommandFrame) : Type 0 where
  pub same_service : one.service ≡ other.service
  pub same_sequence : one.sequence ≡ other.sequence
  pub same_body : (one.body ≡ other.body) ⊎ (ArePieces one other ⊎ AreChecks T one other)

-- so do commands all along the run of the one world
abbrev pub AreSecretVariants : {V : Type 0} → Calls V → Tainted → MachineState V → List Sample → List CommandPair → Type 0
AreSecretVariants calls T s events [] = Unit {0}
AreSecretVariants calls T s events (pair ∷ pairs) =
    IsSecretVariant T pair.one pair.other
    × (let after = step calls s events pair.one in AreSecretVariants calls (taint_after calls s events T pair.one pair.other) after.machine after.left pairs)
