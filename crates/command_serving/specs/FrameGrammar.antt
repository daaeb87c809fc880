-- The grammar of frames.
use Rattle.std.specs.Prelude.{◌≡◌, ◌++◌, ℕ, List, [], ◌∷◌, length, refl}
use Rattle.std.specs.List.{flat_map, AllByRecursion}
use Rattle.std.proofs.Common.{sym, ◌∙◌, ap, append_assoc, append-nil, length-append}
use Rattle.std.proofs.Math.Nat.{le_refl}
use Rattle.module_frames.specs.CommandFrames.{CommandFrame, command_encoding, IsSendable}
use Rattle.module_frames.specs.Streams.{BeginsNoCommand, first_fault}
use Rattle.module_frames.specs.ReplyFrames.{reply_encoding}
use Rattle.module_frames.proofs.CommandEncodings.{broken_begins_none}
use Rattle.module_frames.proofs.Headers.{fault_stays}
use Rattle.module_frames.proofs.Holding.{nothing_is_incomplete}
use Rattle.module_frames.proofs.Parsing.{one_way}
use Rattle.command_serving.specs.Grammars.{Grammar, IsParse, IsLawful}

-- the bytes are the frames of these commands
pub record AreFrames (bytes : List ℕ) (commands : List CommandFrame) : Type 0 where
  pub encoded : bytes ≡ flat_map command_encoding commands
  pub sendable : AllByRecursion IsSendable commands

-- Each unit is the frame of a command. A fault has its offset as its number, and the end of the source is read as nothing more.
abbrev pub frame_grammar : Grammar
frame_grammar = record {
  Encodes = AreFrames;
  BeginsNoUnit = BeginsNoCommand;
  first_fault = first_fault;
  advance = λ bytes. length bytes;
  at_end = λ bytes. bytes;
  reply_encoding = reply_encoding;
}

encoded_both : (first more : List CommandFrame) → flat_map command_encoding (first ++ more) ≡ flat_map command_encoding first ++ flat_map command_encoding more
encoded_both [] more = refl
encoded_both (command ∷ first) more =
    ap (λ xs. command_encoding command ++ xs) (encoded_both first more) ∙ sym (append_assoc (command_encoding command) (flat_map command_encoding first) (flat_map command_encoding more))

sendable_both : (first more : List CommandFrame) → AllByRecursion IsSendable first → AllByRecursion IsSendable more → AllByRecursion IsSendable (first ++ more)
sendable_both [] more h k = k
sendable_both (command ∷ first) more h k = (h.0, sendable_both first more h.1 k)

frames_both : (a b : List ℕ) (first more : List CommandFrame) → AreFrames a first → AreFrames b more → AreFrames (a ++ b) (first ++ more)
frames_both a b first more one other = record {
  encoded = ap (λ xs. xs ++ b) one.encoded ∙ ap (λ xs. flat_map command_encoding first ++ xs) other.encoded ∙ sym (encoded_both first more);
  sendable = sendable_both first more one.sendable other.sendable;
}

one_parse : (bytes : List ℕ) (ones others : List CommandFrame) (remainder left : List ℕ) → IsParse frame_grammar bytes ones remainder → IsParse frame_grammar bytes others left
    → (ones ≡ others) × (remainder ≡ left)
one_parse bytes ones others remainder left one other =
    one_way bytes ones others remainder left
    (record { encoded = one.whole ∙ ap (λ xs. xs ++ remainder) one.encoded.encoded; sendable = one.encoded.sendable; unfinished = one.unfinished })
    (record { encoded = other.whole ∙ ap (λ xs. xs ++ left) other.encoded.encoded; sendable = other.encoded.sendable; unfinished = other.unfinished })

pub frame_grammar_is_lawful : IsLawful frame_grammar
frame_grammar_is_lawful = record {
  nothing = record { encoded = refl; sendable = tt };
  nothing_begun = nothing_is_incomplete.unfinished;
  nothing_wrong = nothing_is_incomplete.no_fault;
  both = frames_both;
  fault_stays = fault_stays;
  fault_begins_no_unit = broken_begins_none;
  advance_both = length-append;
  advance_within = λ a. le_refl (length a);
  mark = [];
  is_mark = λ bytes. sym (append-nil bytes);
  one_way = one_parse;
}
