-- A run of the machine over the bytes of a stream.
use Rattle.std.specs.Prelude.{◌≡◌, ◌≤◌, ◌<◌, ◌-◌, ℕ, List, [], ◌∷◌, length, take}
use Rattle.std.specs.Option.{option_map_or}
use Rattle.std.specs.List.{flat_map}
use Rattle.engine_core.specs.Calls.{Calls}
use Rattle.outside.specs.declared.traits.Sample.{Sample}
use Rattle.module_frames.specs.CommandFrames.{CommandFrame}
use Rattle.module_frames.specs.ReplyFrames.{ReplyFrame}
use Rattle.state_model.specs.MachineState.{MachineState}
use Rattle.state_model.specs.Runs.{run_commands}
use Rattle.stream_calls.specs.declared.limits.TheConstants.{STREAM_MAX}
use Rattle.command_serving.specs.Grammars.{Grammar, IsParse, fault_number}
use Rattle.command_serving.specs.declared.serving.Ended.{Ended}
use Rattle.command_serving.specs.declared.serving.Ended.TheVariants as ended

-- the bytes that are written for replies: their encodings joined
abbrev pub encoded_replies : Grammar → List ReplyFrame → List ℕ
encoded_replies grammar replies = flat_map grammar.reply_encoding replies

-- The run from s over these bytes, with these events of noise: they parse into commands and a remainder, and the machine steps over
-- the commands to t, gives the replies and leaves the events.
pub record Runs {V : Type 0} (grammar : Grammar) (calls : Calls V) (s : MachineState V) (events : List Sample) (bytes : List ℕ) (t : MachineState V) (replies : List ReplyFrame) (left : List Sample) (remainder : List ℕ) : Type 0 where
  pub commands : List CommandFrame
  pub parses : IsParse grammar bytes commands remainder
  pub ran : run_commands calls s events commands ≡ record { machine = t; replies = replies; left = left }

-- the start from which the faults of the remainder that these bytes leave are counted: for frames, its offset in them
abbrev pub remainder_start : Grammar → List ℕ → List ℕ → ℕ
remainder_start grammar bytes remainder = grammar.advance bytes - grammar.advance remainder

-- a bad frame with the number of the first fault that a remainder shows; without a fault the other end
abbrev pub fault_or : Grammar → ℕ → List ℕ → Ended → Ended
fault_or grammar start remainder other = option_map_or (λ number. ended.BadFrame number) (fault_number grammar start remainder) other

-- how a stream ends that leaves this remainder with this start
abbrev pub ending_of : Grammar → ℕ → List ℕ → Ended
ending_of grammar start [] = ended.End
ending_of grammar start (byte ∷ remainder) = fault_or grammar start (byte ∷ remainder) ended.Truncated

-- The run over a stream from s to t with these events of noise, its ending and what is written: of fewer than 2^40 bytes as they are read once
-- the source has ended, of more the first 2^40.
pub record RunsStream {V : Type 0} (grammar : Grammar) (calls : Calls V) (s : MachineState V) (events : List Sample) (bytes : List ℕ) (t : MachineState V) (ending : Ended) (out : List ℕ) : Type 0 where
  pub short : length bytes < STREAM_MAX →
      (replies : List ReplyFrame) × (left : List Sample) × (remainder : List ℕ) × Runs grammar calls s events (grammar.at_end bytes) t replies left remainder
      × (out ≡ encoded_replies grammar replies) × (ending ≡ ending_of grammar (remainder_start grammar (grammar.at_end bytes) remainder) remainder)
  pub too_long : STREAM_MAX ≤ length bytes →
      (replies : List ReplyFrame) × (left : List Sample) × (remainder : List ℕ) × Runs grammar calls s events (take STREAM_MAX bytes) t replies left remainder
      × (out ≡ encoded_replies grammar replies) × (ending ≡ fault_or grammar (remainder_start grammar (take STREAM_MAX bytes) remainder) remainder ended.Limit)
