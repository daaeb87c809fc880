-- The laws of two worlds, for a step and for a run.
use Rattle.std.specs.Prelude.{◌≡◌, Bool, false, List, [], ◌∷◌}
use Rattle.outside.specs.declared.traits.Sample.{Sample}
use Rattle.module_frames.specs.CommandFrames.{CommandFrame}
use Rattle.module_frames.specs.ReplyFrames.{ReplyFrame}
use Rattle.engine_core.specs.Calls.{Calls}
use Rattle.state_model.specs.Management.{Stepped}
use Rattle.state_model.specs.MachineState.{MachineState}
use Rattle.state_model.specs.Runs.{run_commands}
use Rattle.state_model.specs.Step.{step, reply_to}
use Rattle.information_flow.specs.Tainted.{Tainted, IsUntainted, EqualOutside, SameTaint}
use Rattle.information_flow.specs.Taint.{taint_after, observes}
use Rattle.information_flow.specs.Variants.{CommandPair, sent, sent_instead, IsSecretVariant, AreSecretVariants}

-- two replies tell the same service, state and error code, and are equal unless what is tainted was observed
pub record RepliesAgree (observed : Bool) (reply other : ReplyFrame) : Type 0 where
  pub same_service : reply.service ≡ other.service
  pub same_state : reply.state ≡ other.state
  pub same_code : reply.code ≡ other.code
  pub same_reply : observed ≡ false → reply ≡ other

-- two steps leave machines that are equal outside what is tainted then, the same events of noise, and replies that agree
pub record StepsAgree {V : Type 0} (T : Tainted) (observed : Bool) (one other : CommandFrame) (a b : Stepped V) : Type 0 where
  pub outside : EqualOutside T a.machine b.machine
  pub same_noise : a.left ≡ b.left
  pub replies : RepliesAgree observed (reply_to one a) (reply_to other b)

-- a step keeps two machines equal outside what is tainted
abbrev pub SecretsStayInside : {V : Type 0} → Calls V → Type 0
SecretsStayInside {V} calls = (T : Tainted) (s t : MachineState V) (events : List Sample) (one other : CommandFrame) → EqualOutside T s t → IsSecretVariant T one other
    → StepsAgree (taint_after calls s events T one other) (observes s T one) one other (step calls s events one) (step calls t events other)

-- what is tainted is the same from either world: it is decided by what both know
abbrev pub TaintIsPublic : {V : Type 0} → Calls V → Type 0
TaintIsPublic {V} calls = (T : Tainted) (s t : MachineState V) (events : List Sample) (one other : CommandFrame) → EqualOutside T s t → IsSecretVariant T one other
    → SameTaint (taint_after calls s events T one other) (taint_after calls t events T other one)

-- where nothing is tainted, two machines are equal, and nothing that is tainted is observed
abbrev pub UntaintedAreEqual : Type 0 → Type 0
UntaintedAreEqual V = (T : Tainted) (s t : MachineState V) → IsUntainted T → EqualOutside T s t → (s ≡ t) × ((command : CommandFrame) → observes s T command ≡ false)

-- Two runs over commands in pairs: each two replies agree, and the machines are equal outside what is tainted all along.
abbrev pub RunsAgree : {V : Type 0} → Calls V → Tainted → MachineState V → MachineState V → List Sample → List CommandPair → List ReplyFrame → List ReplyFrame → Type 0
RunsAgree calls T s t events [] [] [] = EqualOutside T s t
RunsAgree calls T s t events [] [] (reply' ∷ replies') = ⊥
RunsAgree calls T s t events [] (reply ∷ replies) replies' = ⊥
RunsAgree calls T s t events (pair ∷ pairs) [] replies' = ⊥
RunsAgree calls T s t events (pair ∷ pairs) (reply ∷ replies) [] = ⊥
RunsAgree calls T s t events (pair ∷ pairs) (reply ∷ replies) (reply' ∷ replies') =
    EqualOutside T s t × RepliesAgree (observes s T pair.one) reply reply'
    × (let a = step calls s events pair.one in
    RunsAgree calls (taint_after calls s events T pair.one pair.other) a.machine (step calls t events pair.other).machine a.left pairs replies replies')

-- runs over commands that differ in secrets alone agree, and leave the same events of noise
abbrev pub VariantsRunAlike : {V : Type 0} → Calls V → Type 0
VariantsRunAlike {V} calls = (T : Tainted) (s t : MachineState V) (events : List Sample) (pairs : List CommandPair) → EqualOutside T s t → AreSecretVariants calls T s events pairs
    → (let ran = run_commands calls s events (sent pairs) in
    let instead = run_commands calls t events (sent_instead pairs) in
    RunsAgree calls T s t events pairs ran.replies instead.replies × (ran.left ≡ instead.left))
