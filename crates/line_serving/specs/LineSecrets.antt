-- Two streams of lines that differ in secrets alone, and what the run over the other one leaves.
use Rattle.std.specs.Prelude.{◌≡◌, ◌<◌, ◌++◌, ℕ, List, length}
use Rattle.outside.specs.declared.traits.Sample.{Sample}
use Rattle.engine_core.specs.Calls.{Calls}
use Rattle.module_frames.specs.ReplyFrames.{ReplyFrame}
use Rattle.state_model.specs.MachineState.{MachineState}
use Rattle.information_flow.specs.Tainted.{untainted}
use Rattle.information_flow.specs.Variants.{CommandPair, sent, sent_instead, AreSecretVariants}
use Rattle.information_flow.specs.Flow.{RunsAgree}
use Rattle.information_flow.specs.OneCommand.{AllCommitInto, TreeHoldsTaint}
use Rattle.stream_calls.specs.declared.limits.TheConstants.{STREAM_MAX}
use Rattle.command_serving.specs.Grammars.{IsParse}
use Rattle.command_serving.specs.Run.{remainder_start, encoded_replies}
use Rattle.line_serving.specs.declared.operating.Operated.{Operated}
use Rattle.line_serving.specs.LineGrammar.{line_grammar}
use Rattle.line_serving.specs.Operating.{RunsLines, last_text}

-- Both streams are short enough to be read to their ends, and their lines make commands in pairs that differ in secrets alone, along the run
-- of the one. The comments may differ; but as many lines come before the remainders, and both streams end there or both have a bad line there.
pub record AreVariantLines {V : Type 0} (calls : Calls V) (s : MachineState V) (events : List Sample) (bytes other : List ℕ) (pairs : List CommandPair) : Type 0 where
  pub short : length bytes < STREAM_MAX
  pub other_short : length other < STREAM_MAX
  pub remainder : List ℕ
  pub other_remainder : List ℕ
  pub parses : IsParse line_grammar (line_grammar.at_end bytes) (sent pairs) remainder
  pub other_parses : IsParse line_grammar (line_grammar.at_end other) (sent_instead pairs) other_remainder
  pub variants : AreSecretVariants calls untainted s events pairs
  pub same_lines : remainder_start line_grammar (line_grammar.at_end bytes) remainder ≡ remainder_start line_grammar (line_grammar.at_end other) other_remainder
  pub same_fault : line_grammar.first_fault remainder ≡ line_grammar.first_fault other_remainder

-- The run over the other lines gives the same answer, and its replies agree with these: each two tell the same service, state and error code,
-- and are equal where their command observes nothing that is tainted. Where all secrets are entered into one slot, a ZeroiseTree of that slot
-- leaves the two machines equal.
pub record OtherLinesRun {V : Type 0} (calls : Calls V) (s : MachineState V) (events : List Sample) (other : List ℕ) (pairs : List CommandPair) (answer : Operated) (replies : List ReplyFrame) : Type 0 where
  pub others : List ReplyFrame
  pub runs : RunsLines calls s events other answer (encoded_replies line_grammar others ++ last_text answer)
  pub agree : RunsAgree calls untainted s s events pairs replies others
  pub one_command : (k : ℕ) → AllCommitInto calls k untainted s events pairs → TreeHoldsTaint calls k untainted s s events pairs

-- what is written is the replies' lines and the last text, and each other stream that differs in secrets alone would have run alike
pub record VariantLinesRunAlike {V : Type 0} (calls : Calls V) (s : MachineState V) (events : List Sample) (bytes : List ℕ) (answer : Operated) (out : List ℕ) : Type 0 where
  pub replies : List ReplyFrame
  pub written : out ≡ encoded_replies line_grammar replies ++ last_text answer
  pub alike : (other : List ℕ) (pairs : List CommandPair) → AreVariantLines calls s events bytes other pairs → OtherLinesRun calls s events other pairs answer replies
