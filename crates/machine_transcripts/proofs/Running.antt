-- A run of the machine is a walk, and its replies have their widths.
use Rattle.std.proofs.Common.{ℕ, List, [], ◌∷◌, refl, arith, subst, sym}
use Rattle.std.specs.List.{AllByRecursion}
use Rattle.outside.specs.declared.traits.Sample.{Sample}
use Rattle.engine_core.specs.Calls.{Calls}
use Rattle.module_frames.specs.CommandFrames.{CommandFrame, IsSendable, IsSequence}
use Rattle.module_frames.specs.ReplyFrames.{ReplyFrame, head_of}
use Rattle.state_model.specs.Laws.{StepsAreLawful, StepsKeepTheRules}
use Rattle.state_model.specs.MachineState.{MachineState, IsWellFormed, initial_state}
use Rattle.state_model.specs.Runs.{run_commands}
use Rattle.state_model.specs.Step.{step, reply_to}
use Rattle.transcript_check.specs.Laws.{AreBlanked, BlankedStaysLawful, IsBlanked, YesIsLawful}
use Rattle.transcript_check.specs.Transcripts.{IsLawful, IsWalk}
use Rattle.transcript_pairs.specs.PairStreams.{pairs_of}
use Rattle.transcript_pairs.specs.ReplyStreams.{IsReply}
use Rattle.machine_transcripts.specs.Laws.{AreBlankedCommands, BlankedTranscriptsStayLawful, LeaveLawful, RunsLeaveLawfulTranscripts, StreamsLeaveLawfulTranscripts}
use Rattle.machine_transcripts.specs.Weaving.{IsSent, recorded_of}
use Rattle.machine_transcripts.proofs.Weaving.{AreAnswered, body_bytes, parsed_sent, service_fits, woven_parses}
use Rattle.machine_transcripts.proofs.Widths.{Fits, code_fits, step_fits}

-- the reply to a command that may be sent
reply_fits : {V : Type 0} (calls : Calls V) → StepsKeepTheRules calls → StepsAreLawful calls → (s : MachineState V) (events : List Sample) (command : CommandFrame) → IsWellFormed s → IsSent command
    → (let reply = reply_to command (step calls s events command) in IsReply (head_of reply) reply.payload)
reply_fits calls keeps lawful s events command rules sent =
    let after = step calls s events command in
    let fits : Fits (head_of (reply_to command after)) =
    step_fits s.shared.public after.machine.shared.public command (head_of (reply_to command after)) (lawful s events command (body_bytes command sent) rules) in
    record {
      widths = record {
        service = service_fits command sent;
        sequence = sent.sendable.sequence;
        code = code_fits after.machine.shared.public (keeps s events command (body_bytes command sent) rules).public;
        block = fits.block;
        payload = omega (arith, fits.payload);
      };
      room = fits.payload;
      told = refl;
    }

pub run_answers : {V : Type 0} (calls : Calls V) → StepsKeepTheRules calls → StepsAreLawful calls → (s : MachineState V) (events : List Sample) (commands : List CommandFrame) → IsWellFormed s
    → AllByRecursion IsSent commands → AreAnswered commands (run_commands calls s events commands).replies
unfolding run_commands
run_answers calls keeps lawful s events [] rules sent = tt
run_answers calls keeps lawful s events (command ∷ commands) rules sent =
    let after = step calls s events command in
    (sent.0.sendable, reply_fits calls keeps lawful s events command rules sent.0, run_answers calls keeps lawful after.machine after.left commands (keeps s events command (body_bytes command sent.0) rules) sent.1)

pub run_walks : {V : Type 0} (calls : Calls V) → StepsKeepTheRules calls → StepsAreLawful calls → (s : MachineState V) (events : List Sample) (commands : List CommandFrame) → IsWellFormed s
    → AllByRecursion IsSent commands → (let ran = run_commands calls s events commands in IsWalk s.shared.public (pairs_of (recorded_of commands ran.replies)) ran.machine.shared.public)
unfolding run_commands
run_walks calls keeps lawful s events [] rules sent = refl
run_walks calls keeps lawful s events (command ∷ commands) rules sent =
    let after = step calls s events command in
    let bytes = body_bytes command sent.0 in
    (after.machine.shared.public, lawful s events command bytes rules, run_walks calls keeps lawful after.machine after.left commands (keeps s events command bytes rules) sent.1)

-- what parses and is lawful passes each checker
left_lawful : (commands : List CommandFrame) (replies : List ReplyFrame) → YesIsLawful → AreAnswered commands replies → IsLawful (pairs_of (recorded_of commands replies)) → LeaveLawful commands replies
left_lawful commands replies says_yes are lawful = record {
  parses = woven_parses commands replies are;
  lawful = lawful;
  passes = λ answers checked. (says_yes (pairs_of (recorded_of commands replies)) answers checked).1 lawful;
}

pub runs_lawful : {V : Type 0} (calls : Calls V) → StepsKeepTheRules calls → StepsAreLawful calls
    → ((engine : V) (image digest : List ℕ) → IsWellFormed (initial_state engine image digest)) → YesIsLawful → RunsLeaveLawfulTranscripts calls
runs_lawful {V} calls keeps lawful begins says_yes engine image digest events commands sent =
    let s : MachineState V = initial_state engine image digest in
    let rules : IsWellFormed s = begins engine image digest in
    let ran = run_commands calls s events commands in
    left_lawful commands ran.replies says_yes (run_answers calls keeps lawful s events commands rules sent) (ran.machine.shared.public, run_walks calls keeps lawful s events commands rules sent)

pub streams_lawful : {V : Type 0} (calls : Calls V) → RunsLeaveLawfulTranscripts calls → StreamsLeaveLawfulTranscripts calls
streams_lawful calls law engine image digest events bytes commands remainder are parses = law engine image digest events commands (parsed_sent bytes commands remainder are parses)

-- with other entered bytes
blanked_sendable : (command blank : CommandFrame) → IsBlanked command blank → IsSendable command → IsSendable blank
blanked_sendable command blank is sendable = record { body = omega (arith, is.length, sendable.body); sequence = subst IsSequence (sym is.sequence) sendable.sequence }

blanked_answered : (commands blanked : List CommandFrame) (replies : List ReplyFrame) → AreBlankedCommands commands blanked → AreAnswered commands replies → AreAnswered blanked replies
blanked_answered [] [] replies are answered = answered
blanked_answered [] (blank ∷ others) replies are answered = absurd are
blanked_answered (command ∷ commands) [] replies are answered = absurd are
blanked_answered (command ∷ commands) (blank ∷ others) [] are answered = absurd answered
blanked_answered (command ∷ commands) (blank ∷ others) (reply ∷ replies) are answered =
    (blanked_sendable command blank are.0 answered.0, answered.1, blanked_answered commands others replies are.1 answered.2)

blanked_pairs : (commands blanked : List CommandFrame) (replies : List ReplyFrame) → AreBlankedCommands commands blanked → AreBlanked (pairs_of (recorded_of commands replies)) (pairs_of (recorded_of blanked replies))
blanked_pairs [] [] replies are = tt
blanked_pairs [] (blank ∷ others) replies are = absurd are
blanked_pairs (command ∷ commands) [] replies are = absurd are
blanked_pairs (command ∷ commands) (blank ∷ others) [] are = tt
blanked_pairs (command ∷ commands) (blank ∷ others) (reply ∷ replies) are = (are.0, refl, blanked_pairs commands others replies are.1)

pub blanked_lawful : {V : Type 0} (calls : Calls V) → StepsKeepTheRules calls → StepsAreLawful calls
    → ((engine : V) (image digest : List ℕ) → IsWellFormed (initial_state engine image digest)) → YesIsLawful → BlankedStaysLawful → BlankedTranscriptsStayLawful calls
blanked_lawful {V} calls keeps lawful begins says_yes stays engine image digest events commands blanked sent are =
    let s : MachineState V = initial_state engine image digest in
    let rules : IsWellFormed s = begins engine image digest in
    let ran = run_commands calls s events commands in
    let walk : IsLawful (pairs_of (recorded_of commands ran.replies)) = (ran.machine.shared.public, run_walks calls keeps lawful s events commands rules sent) in
    left_lawful blanked ran.replies says_yes (blanked_answered commands blanked ran.replies are (run_answers calls keeps lawful s events commands rules sent))
    (stays (pairs_of (recorded_of commands ran.replies)) (pairs_of (recorded_of blanked ran.replies)) (blanked_pairs commands blanked ran.replies are) walk)
