-- A byte list parses into commands and a remainder in one way.
use Rattle.std.proofs.Common.{◌≡◌, ◌++◌, ℕ, List, [], ◌∷◌, Option, length, take, drop, get_or, refl, sym, ◌∙◌, ap}
use Rattle.std.proofs.lemmas.List.{take_at, drop_at, append_assoc}
use Rattle.std.specs.List.{flat_map}
use Rattle.module_frames.specs.CommandFrames.{CommandFrame, command_encoding, version_of, sequence_bytes}
use Rattle.module_frames.specs.Streams.{body_length}
use Rattle.module_frames.specs.Laws.{EncodingsAreNoPrefixes, ParsesInOneWay}
use Rattle.module_frames.proofs.CommandEncodings.{body_length-encoding}
use Rattle.module_frames.proofs.Sequences.{same_sequence}

-- commands with the same fields are one
same_command : (service service' : ℕ) (sequence sequence' : Option ℕ) (body body' : List ℕ) → service ≡ service' → sequence ≡ sequence' → body ≡ body'
    → Path CommandFrame (record { service = service; sequence = sequence; body = body }) (record { service = service'; sequence = sequence'; body = body' })
same_command s s' t t' b b' hs ht hb = rw (hs, ht, hb) refl

pub no_prefix : EncodingsAreNoPrefixes
no_prefix a b x y ha hb e =
    let long : length a.body ≡ length b.body = sym (body_length-encoding a x ha) ∙ ap body_length e ∙ body_length-encoding b y hb in
    let behind : sequence_bytes a.sequence ++ (a.body ++ x) ≡ sequence_bytes b.sequence ++ (b.body ++ y) =
    sym (append_assoc (sequence_bytes a.sequence) a.body x) ∙ ap (λ xs. drop 8 xs) e ∙ append_assoc (sequence_bytes b.sequence) b.body y in
    let version : version_of a.sequence ≡ version_of b.sequence = ap (λ xs. get_or xs 1 0) e in
    let numbers = same_sequence a.sequence b.sequence (a.body ++ x) (b.body ++ y) ha.sequence hb.sequence version behind in
    let service : a.service ≡ b.service = ap (λ xs. get_or xs 2 0) e in
    let body : a.body ≡ b.body =
    sym (take_at a.body x (length a.body) refl) ∙ ap (λ xs. take (length a.body) xs) numbers.1 ∙ take_at b.body y (length a.body) (sym long) in
    let remainder : x ≡ y =
    sym (drop_at a.body x (length a.body) refl) ∙ ap (λ xs. drop (length a.body) xs) numbers.1 ∙ drop_at b.body y (length a.body) (sym long) in
    (same_command a.service b.service a.sequence b.sequence a.body b.body service numbers.0 body, remainder)

pub one_way : ParsesInOneWay
one_way bytes [] [] remainder left h k = (refl, sym h.encoded ∙ k.encoded)
one_way bytes [] (other ∷ others) remainder left h k =
    absurd (h.unfinished other (flat_map command_encoding others ++ left) k.sendable.0
    (sym h.encoded ∙ k.encoded ∙ append_assoc (command_encoding other) (flat_map command_encoding others) left))
one_way bytes (one ∷ ones) [] remainder left h k =
    absurd (k.unfinished one (flat_map command_encoding ones ++ remainder) h.sendable.0
    (sym k.encoded ∙ h.encoded ∙ append_assoc (command_encoding one) (flat_map command_encoding ones) remainder))
one_way bytes (one ∷ ones) (other ∷ others) remainder left h k =
    let same = no_prefix one other (flat_map command_encoding ones ++ remainder) (flat_map command_encoding others ++ left) h.sendable.0 k.sendable.0
    (sym (append_assoc (command_encoding one) (flat_map command_encoding ones) remainder) ∙ sym h.encoded ∙ k.encoded ∙ append_assoc (command_encoding other) (flat_map command_encoding others) left) in
    let more = one_way (flat_map command_encoding ones ++ remainder) ones others remainder left
    (record { encoded = refl; sendable = h.sendable.1; unfinished = h.unfinished })
    (record { encoded = same.1; sendable = k.sendable.1; unfinished = k.unfinished }) in
    (cc (same.0, more.0), more.1)
