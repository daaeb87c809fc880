-- Two streams that differ in secrets alone, and what the run over the other one would have answered.
use Rattle.std.specs.Prelude.{ℕ, List}
use Rattle.outside.specs.Contents.{Consumes, Appends}
use Rattle.outside.specs.declared.traits.Sample.{Sample}
use Rattle.engine_core.specs.Calls.{Calls}
use Rattle.module_frames.specs.ReplyFrames.{ReplyFrame}
use Rattle.state_model.specs.MachineState.{MachineState}
use Rattle.information_flow.specs.Tainted.{untainted}
use Rattle.information_flow.specs.Variants.{CommandPair, sent, sent_instead, AreSecretVariants}
use Rattle.information_flow.specs.Flow.{RunsAgree}
use Rattle.information_flow.specs.OneCommand.{AllCommitInto, TreeHoldsTaint}
use Rattle.command_serving.specs.declared.serving.Ended.{Ended}
use Rattle.command_serving.specs.declared.serving.Ended.TheVariants as ended
use Rattle.command_serving.specs.Grammars.{Grammar, IsParse}
use Rattle.command_serving.specs.Run.{Runs, encoded_replies}
use Rattle.stream_calls.specs.Streams.{Streams}
use Rattle.command_serving.specs.Serving.{IsReading}

-- these bytes and others parse into commands in pairs that differ in secrets alone, along the run of the one, and leave the same remainder
pub record AreVariantStreams {V : Type 0} (grammar : Grammar) (calls : Calls V) (s : MachineState V) (events : List Sample) (bytes other : List ℕ) (pairs : List CommandPair) (remainder : List ℕ) : Type 0 where
  pub parses : IsParse grammar bytes (sent pairs) remainder
  pub other_parses : IsParse grammar other (sent_instead pairs) remainder
  pub variants : AreSecretVariants calls untainted s events pairs

-- The run over the others, from the same state and noise, leaves as much noise and the same remainder, and its replies agree with these:
-- each two tell the same service, state and error code, and are equal where their command observes nothing that is tainted. Where all
-- secrets are entered into one slot, a ZeroiseTree of that slot leaves the two machines equal.
pub record RunsAlike {V : Type 0} (grammar : Grammar) (calls : Calls V) (s : MachineState V) (events : List Sample) (other : List ℕ) (pairs : List CommandPair) (replies : List ReplyFrame) (left : List Sample)
    (remainder : List ℕ) : Type 0 where
  pub machine : MachineState V
  pub others : List ReplyFrame
  pub runs : Runs grammar calls s events other machine others left remainder
  pub agree : RunsAgree calls untainted s s events pairs replies others
  pub one_command : (k : ℕ) → AllCommitInto calls k untainted s events pairs → TreeHoldsTaint calls k untainted s s events pairs

-- each stream that differs from the bytes read in secrets alone would have run alike
abbrev pub VariantsRunAlike : {V : Type 0} → Grammar → Calls V → MachineState V → List Sample → (read : List ℕ) → List ReplyFrame → (left : List Sample) → (remainder : List ℕ) → Type 0
VariantsRunAlike grammar calls s events read replies left remainder =
    (other : List ℕ) (pairs : List CommandPair) → AreVariantStreams grammar calls s events read other pairs remainder → RunsAlike grammar calls s events other pairs replies left remainder

-- Serving kept its secrets: bytes were taken and their replies written, and each stream that differs from them in secrets alone would have
-- run alike. After a failed write nothing is said.
abbrev pub KeepsSecrets : {V : Type 0} → Grammar → Calls V → Ended → MachineState V → Streams → Streams → List Sample → List Sample → Type 0
KeepsSecrets grammar calls ended.WriteFault s before after events left = Unit {0}
KeepsSecrets grammar calls ending s before after events left =
    (taken : List ℕ) × (read : List ℕ) × (remainder : List ℕ) × (replies : List ReplyFrame) × Consumes before.left taken after.left × IsReading grammar taken read before.left
    × Appends before.gained (encoded_replies grammar replies) after.gained × VariantsRunAlike grammar calls s events read replies left remainder
