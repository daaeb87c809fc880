-- What commands and replies are woven to, and what bytes bring.
use Rattle.std.proofs.Common.{◌≡◌, ◌<◌, ℕ, List, [], ◌∷◌, ◌++◌, length, refl, sym, ◌∙◌, ap, subst}
use Rattle.std.proofs.lemmas.List.{take_at, drop_at, append_assoc, append-nil}
use Rattle.std.specs.List.{AllByRecursion, flat_map}
use Rattle.bits_core.specs.ByteList.{IsBytes}
use Rattle.bits_core.proofs.Bytes.{IsBytes-take, IsBytes-drop}
use Rattle.module_frames.specs.CommandFrames.{CommandFrame, IsSendable, command_header, command_encoding}
use Rattle.module_frames.specs.ReplyFrames.{ReplyFrame, head_of, reply_encoding}
use Rattle.module_frames.specs.Streams.{ParsesInto}
use Rattle.transcript_pairs.specs.PairStreams.{BeginsNoPair, IsRecorded, ParsesIntoPairs, Recorded, pair_encoding}
use Rattle.transcript_pairs.specs.ReplyStreams.{IsReply}
use Rattle.machine_transcripts.specs.Weaving.{IsSent, woven, recorded_of}

front_bytes : (xs ys : List ℕ) → IsBytes (xs ++ ys) → IsBytes xs
front_bytes xs ys are = subst IsBytes (take_at xs ys (length xs) refl) (IsBytes-take (length xs) (xs ++ ys) are)

rest_bytes : (xs ys : List ℕ) → IsBytes (xs ++ ys) → IsBytes ys
rest_bytes xs ys are = subst IsBytes (drop_at xs ys (length xs) refl) (IsBytes-drop (length xs) (xs ++ ys) are)

-- the number of a service that bytes bring is one of them
pub service_fits : (command : CommandFrame) → IsSent command → command.service < 256
service_fits command sent = sent.bytes 2

-- and so is the body
pub body_bytes : (command : CommandFrame) → IsSent command → IsBytes command.body
body_bytes command sent = rest_bytes (command_header command) command.body sent.bytes

-- the commands that bytes parse into may be sent
commands_sent : (commands : List CommandFrame) (remainder : List ℕ) → IsBytes (flat_map command_encoding commands ++ remainder) → AllByRecursion IsSendable commands → AllByRecursion IsSent commands
commands_sent [] remainder are sendable = tt
commands_sent (command ∷ commands) remainder are sendable =
    let rest : List ℕ = flat_map command_encoding commands in
    let split : IsBytes (command_encoding command ++ (rest ++ remainder)) = subst IsBytes (append_assoc (command_encoding command) rest remainder) are in
    (record { sendable = sendable.0; bytes = front_bytes (command_encoding command) (rest ++ remainder) split }, commands_sent commands remainder (rest_bytes (command_encoding command) (rest ++ remainder) split) sendable.1)

pub parsed_sent : (bytes : List ℕ) (commands : List CommandFrame) (remainder : List ℕ) → IsBytes bytes → ParsesInto bytes commands remainder → AllByRecursion IsSent commands
parsed_sent bytes commands remainder are parses = commands_sent commands remainder (subst IsBytes parses.encoded are) parses.sendable

-- the replies are as many as the commands, each to a command that may be sent, and each of its widths
abbrev pub AreAnswered : List CommandFrame → List ReplyFrame → Type 0
AreAnswered [] [] = Unit {0}
AreAnswered [] (reply ∷ replies) = ⊥
AreAnswered (command ∷ commands) [] = ⊥
AreAnswered (command ∷ commands) (reply ∷ replies) = IsSendable command × IsReply (head_of reply) reply.payload × AreAnswered commands replies

abbrev encoding : Recorded → List ℕ
encoding r = pair_encoding r.pair r.payload

woven_pairs : (commands : List CommandFrame) (replies : List ReplyFrame) → AreAnswered commands replies → woven commands replies ≡ flat_map encoding (recorded_of commands replies)
woven_pairs [] [] are = refl
woven_pairs [] (reply ∷ replies) are = absurd are
woven_pairs (command ∷ commands) [] are = absurd are
woven_pairs (command ∷ commands) (reply ∷ replies) are =
    ap (λ rest. command_encoding command ++ (reply_encoding reply ++ rest)) (woven_pairs commands replies are.2)
    ∙ sym (append_assoc (command_encoding command) (reply_encoding reply) (flat_map encoding (recorded_of commands replies)))

all_recorded : (commands : List CommandFrame) (replies : List ReplyFrame) → AreAnswered commands replies → AllByRecursion (λ (r : Recorded). IsRecorded r.pair r.payload) (recorded_of commands replies)
all_recorded [] [] are = tt
all_recorded [] (reply ∷ replies) are = absurd are
all_recorded (command ∷ commands) [] are = absurd are
all_recorded (command ∷ commands) (reply ∷ replies) are = (record { command = are.0; reply = are.1 }, all_recorded commands replies are.2)

nothing_begins : BeginsNoPair []
nothing_begins pair payload more is e = cc

pub woven_parses : (commands : List CommandFrame) (replies : List ReplyFrame) → AreAnswered commands replies → ParsesIntoPairs (woven commands replies) (recorded_of commands replies) []
woven_parses commands replies are = record {
  encoded = woven_pairs commands replies are ∙ sym (append-nil (flat_map encoding (recorded_of commands replies)));
  recorded = all_recorded commands replies are;
  unfinished = nothing_begins;
}
