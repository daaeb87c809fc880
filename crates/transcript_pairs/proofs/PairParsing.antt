-- The bytes of a transcript split into pairs and a remainder in one way.
use Rattle.std.proofs.Common.{◌≡◌, ◌++◌, ℕ, List, [], ◌∷◌, length, take, drop, refl, sym, ◌∙◌, ap}
use Rattle.std.proofs.lemmas.List.{take_at, drop_at, append_assoc}
use Rattle.std.specs.List.{flat_map}
use Rattle.module_frames.specs.CommandFrames.{CommandFrame, command_encoding}
use Rattle.module_frames.specs.ReplyHeads.{head_encoding}
use Rattle.module_frames.specs.declared.head.ReplyHead.{ReplyHead}
use Rattle.module_frames.proofs.Heads.{one_way}
use Rattle.module_frames.proofs.Parsing.{no_prefix}
use Rattle.transcript_pairs.specs.PairStreams.{IsRecorded, Recorded, pair_encoding}
use Rattle.transcript_pairs.specs.ReplyStreams.{reply_encoding}
use Rattle.transcript_pairs.specs.Laws.{PairsParseInOneWay}

same_recorded : (command command' : CommandFrame) (reply reply' : ReplyHead) (payload payload' : List ℕ) → command ≡ command' → reply ≡ reply' → payload ≡ payload'
    → Path Recorded (record { pair = record { command = command; reply = reply }; payload = payload }) (record { pair = record { command = command'; reply = reply' }; payload = payload' })
same_recorded c c' r r' p p' hc hr hp = rw (hc, hr, hp) refl

abbrev encoding : Recorded → List ℕ
encoding r = pair_encoding r.pair r.payload

no_pair_prefix : (a b : Recorded) (x y : List ℕ) → IsRecorded a.pair a.payload → IsRecorded b.pair b.payload → encoding a ++ x ≡ encoding b ++ y → (a ≡ b) × (x ≡ y)
no_pair_prefix a b x y ha hb e =
    let split = sym (append_assoc (command_encoding a.pair.command) (reply_encoding a.pair.reply a.payload) x) ∙ e ∙ append_assoc (command_encoding b.pair.command) (reply_encoding b.pair.reply b.payload) y in
    let commands = no_prefix a.pair.command b.pair.command (reply_encoding a.pair.reply a.payload ++ x) (reply_encoding b.pair.reply b.payload ++ y) ha.command hb.command split in
    let behind = sym (append_assoc (head_encoding a.pair.reply) a.payload x) ∙ commands.1 ∙ append_assoc (head_encoding b.pair.reply) b.payload y in
    let heads = one_way a.pair.reply b.pair.reply (a.payload ++ x) (b.payload ++ y) ha.reply.widths hb.reply.widths behind in
    let long : length a.payload ≡ length b.payload = ha.reply.told ∙ ap (λ (r : ReplyHead). r.length) heads.0 ∙ sym hb.reply.told in
    let payload : a.payload ≡ b.payload =
    sym (take_at a.payload x (length a.payload) refl) ∙ ap (λ xs. take (length a.payload) xs) heads.1 ∙ take_at b.payload y (length a.payload) (sym long) in
    let rest : x ≡ y = sym (drop_at a.payload x (length a.payload) refl) ∙ ap (λ xs. drop (length a.payload) xs) heads.1 ∙ drop_at b.payload y (length a.payload) (sym long) in
    (same_recorded a.pair.command b.pair.command a.pair.reply b.pair.reply a.payload b.payload commands.0 heads.0 payload, rest)

pub pairs_one_way : PairsParseInOneWay
pairs_one_way bytes [] [] remainder left h k = (refl, sym h.encoded ∙ k.encoded)
pairs_one_way bytes [] (other ∷ others) remainder left h k =
    absurd (h.unfinished other.pair other.payload (flat_map encoding others ++ left) k.recorded.0 (sym h.encoded ∙ k.encoded ∙ append_assoc (encoding other) (flat_map encoding others) left))
pairs_one_way bytes (one ∷ ones) [] remainder left h k =
    absurd (k.unfinished one.pair one.payload (flat_map encoding ones ++ remainder) h.recorded.0 (sym k.encoded ∙ h.encoded ∙ append_assoc (encoding one) (flat_map encoding ones) remainder))
pairs_one_way bytes (one ∷ ones) (other ∷ others) remainder left h k =
    let same = no_pair_prefix one other (flat_map encoding ones ++ remainder) (flat_map encoding others ++ left) h.recorded.0 k.recorded.0
    (sym (append_assoc (encoding one) (flat_map encoding ones) remainder) ∙ sym h.encoded ∙ k.encoded ∙ append_assoc (encoding other) (flat_map encoding others) left) in
    let more = pairs_one_way (flat_map encoding ones ++ remainder) ones others remainder left
    (record { encoded = refl; recorded = h.recorded.1; unfinished = h.unfinished })
    (record { encoded = same.1; recorded = k.recorded.1; unfinished = k.unfinished }) in
    (cc (same.0, more.0), more.1)
