-- Pairs at the front of bytes: no pair's bytes are the beginning of another's.
use Rattle.std.proofs.Common.{◌≡◌, ◌⊎◌, ◌++◌, ℕ, List, [], ◌∷◌, length, take, drop, inl, inr, refl, sym, ◌∙◌, ap, arith}
use Rattle.std.proofs.lemmas.Grind.{flat_map-append}
use Rattle.std.proofs.lemmas.List.{append-nil, append_assoc, drop_at, take_at}
use Rattle.std.specs.List.{AllByRecursion, flat_map}
use Rattle.module_frames.specs.CommandFrames.{CommandFrame, command_encoding}
use Rattle.module_frames.specs.ReplyHeads.{head_encoding}
use Rattle.module_frames.specs.declared.head.ReplyHead.{ReplyHead}
use Rattle.module_frames.proofs.Heads.{one_way}
use Rattle.module_frames.proofs.Parsing.{no_prefix}
use Rattle.transcript_pairs.specs.PairStreams.{BeginsNoPair, IsRecorded, ParsesIntoPairs, Recorded, pair_encoding}
use Rattle.transcript_pairs.specs.ReplyStreams.{reply_encoding}

same_recorded : (command command' : CommandFrame) (reply reply' : ReplyHead) (payload payload' : List ℕ) → command ≡ command' → reply ≡ reply' → payload ≡ payload'
    → Path Recorded (record { pair = record { command = command; reply = reply }; payload = payload }) (record { pair = record { command = command'; reply = reply' }; payload = payload' })
same_recorded c c' r r' p p' hc hr hp = rw (hc, hr, hp) refl

abbrev pub encoding : Recorded → List ℕ
encoding r = pair_encoding r.pair r.payload

abbrev pub encodings : List Recorded → List ℕ
encodings recorded = flat_map encoding recorded

abbrev pub AreRecorded : List Recorded → Type 0
AreRecorded recorded = AllByRecursion (λ (r : Recorded). IsRecorded r.pair r.payload) recorded

no_pair_prefix : (a b : Recorded) (x y : List ℕ) → IsRecorded a.pair a.payload → IsRecorded b.pair b.payload → encoding a ++ x ≡ encoding b ++ y → (a ≡ b) × (x ≡ y)
no_pair_prefix a b x y ha hb e =
    let split = sym (append_assoc (command_encoding a.pair.command) (reply_encoding a.pair.reply a.payload) x) ∙ e ∙ append_assoc (command_encoding b.pair.command) (reply_encoding b.pair.reply b.payload) y in
    let commands = no_prefix a.pair.command b.pair.command (reply_encoding a.pair.reply a.payload ++ x) (reply_encoding b.pair.reply b.payload ++ y) ha.command hb.command split in
    let behind = sym (append_assoc (head_encoding a.pair.reply) a.payload x) ∙ commands.1 ∙ append_assoc (head_encoding b.pair.reply) b.payload y in
    let heads = one_way a.pair.reply b.pair.reply (a.payload ++ x) (b.payload ++ y) ha.reply.widths hb.reply.widths behind in
    let long : length a.payload ≡ length b.payload = ha.reply.told ∙ ap (λ (r : ReplyHead). r.length) heads.0 ∙ sym hb.reply.told in
    let payload : a.payload ≡ b.payload =
    sym (take_at a.payload x (length a.payload) refl) ∙ ap (λ xs. take (length a.payload) xs) heads.1 ∙ take_at b.payload y (length a.payload) (sym long) in
    let rest : x ≡ y = sym (drop_at a.payload x (length a.payload) refl) ∙ ap (λ xs. drop (length a.payload) xs) heads.1 ∙ drop_at b.payload y (length a.payload) (sym long) in
    (same_recorded a.pair.command b.pair.command a.pair.reply b.pair.reply a.payload b.payload commands.0 heads.0 payload, rest)

-- where two lists of pairs begin with pairs, these are one
same_first : (a b : Recorded) (ps qs : List Recorded) (x y : List ℕ) → AreRecorded (a ∷ ps) → AreRecorded (b ∷ qs) → encodings (a ∷ ps) ++ x ≡ encodings (b ∷ qs) ++ y
    → (a ≡ b) × (encodings ps ++ x ≡ encodings qs ++ y)
same_first a b ps qs x y ha hb e =
    no_pair_prefix a b (encodings ps ++ x) (encodings qs ++ y) ha.0 hb.0 (sym (append_assoc (encoding a) (encodings ps) x) ∙ e ∙ append_assoc (encoding b) (encodings qs) y)

-- one list of pairs begins with the other
abbrev pub Begins : List Recorded → List Recorded → Type 0
Begins front all = (rest : List Recorded) × (all ≡ front ++ rest)

begins_more : (a b : Recorded) (ps qs : List Recorded) → a ≡ b → Begins ps qs → Begins (a ∷ ps) (b ∷ qs)
begins_more a b ps qs same begins = (begins.0, ap (λ rs. b ∷ rs) begins.1 ∙ ap (λ r. r ∷ (ps ++ begins.0)) (sym same))

-- of two lists of pairs at the front of the same bytes one begins with the other
pub compared : (ones others : List Recorded) (x y : List ℕ) → AreRecorded ones → AreRecorded others → encodings ones ++ x ≡ encodings others ++ y → Begins ones others ⊎ Begins others ones
compared [] others x y h k e = inl (others, refl)
compared (one ∷ ones) [] x y h k e = inr (one ∷ ones, refl)
compared (one ∷ ones) (other ∷ others) x y h k e =
    let same = same_first one other ones others x y h k e in
    elim (compared ones others x y h.1 k.1 same.1) [
      | inl more ↦ inl (begins_more one other ones others same.0 more)
      | inr more ↦ inr (begins_more other one others ones (sym same.0) more)
    ]

-- and a list of all pairs begins with the other
pub begins_all : (ones all : List Recorded) (x remainder : List ℕ) → AreRecorded ones → AreRecorded all → BeginsNoPair remainder → encodings ones ++ x ≡ encodings all ++ remainder → Begins ones all
begins_all [] all x remainder h k none e = (all, refl)
begins_all (one ∷ ones) [] x remainder h k none e = absurd (none one.pair one.payload (encodings ones ++ x) h.0 (sym e ∙ append_assoc (encoding one) (encodings ones) x))
begins_all (one ∷ ones) (other ∷ all) x remainder h k none e =
    let same = same_first one other ones all x remainder h k e in
    begins_more one other ones all same.0 (begins_all ones all x remainder h.1 k.1 none same.1)

-- with nothing no pair begins
pub nothing_begins : BeginsNoPair []
nothing_begins pair payload more recorded e = absurd (omega (arith, ap length e))

pub nothing_parses : ParsesIntoPairs [] [] []
nothing_parses = record { encoded = refl; recorded = tt; unfinished = nothing_begins }

recorded_behind : (recorded : List Recorded) (r : Recorded) → AreRecorded recorded → IsRecorded r.pair r.payload → AreRecorded (recorded ++ r ∷ [])
recorded_behind [] r all one = (one, tt)
recorded_behind (first ∷ rest) r all one = (all.0, recorded_behind rest r all.1 one)

-- a remainder became a whole pair
pub parsed_pair : (taken piece remainder : List ℕ) (recorded : List Recorded) (r : Recorded) → ParsesIntoPairs taken recorded remainder → IsRecorded r.pair r.payload → remainder ++ piece ≡ encoding r
    → ParsesIntoPairs (taken ++ piece) (recorded ++ r ∷ []) []
parsed_pair taken piece remainder recorded r parses one whole = record {
  encoded = ap (λ xs. xs ++ piece) parses.encoded ∙ append_assoc (encodings recorded) remainder piece ∙ ap (λ xs. encodings recorded ++ xs) (whole ∙ sym (append-nil (encoding r)))
      ∙ sym (flat_map-append encoding recorded (r ∷ [])) ∙ sym (append-nil (encodings (recorded ++ r ∷ [])));
  recorded = recorded_behind recorded r parses.recorded one;
  unfinished = nothing_begins;
}

-- bytes came to the remainder
pub parsed_more : (taken piece remainder : List ℕ) (recorded : List Recorded) → ParsesIntoPairs taken recorded remainder → BeginsNoPair (remainder ++ piece) → ParsesIntoPairs (taken ++ piece) recorded (remainder ++ piece)
parsed_more taken piece remainder recorded parses none = record {
  encoded = ap (λ xs. xs ++ piece) parses.encoded ∙ append_assoc (encodings recorded) remainder piece;
  recorded = parses.recorded;
  unfinished = none;
}
