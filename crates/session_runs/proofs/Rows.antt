-- The lines of a summary, put one behind the other.
use Rattle.std.proofs.Common.{◌≡◌, ◌<◌, ◌+◌, ◌++◌, ℕ, zero, suc, List, [], ◌∷◌, map, length, codes, append_assoc, append-nil, subst, refl, sym, ap, ◌∙◌, arith}
use Rattle.std.specs.Fmt.{decimal}
use Rattle.std.specs.List.{flat_map, range_with_len}
use Rattle.std.proofs.lemmas.Grind.{flat_map-append}
use Rattle.std.proofs.lemmas.List.{flat_map_more}
use Rattle.std.proofs.lemmas.List.Concat.{flat_map-cons}
use Rattle.std.proofs.lemmas.List.FromFn.{map-range_with_len_more}
use Rattle.hex.specs.Hex.{encode_lower}
use Rattle.sha2.specs.Sha256.{sha256}
use Rattle.service_table.specs.declared.state.State.{State}
use Rattle.module_frames.specs.ReplyFrames.{ReplyFrame}
use Rattle.reply_lines.specs.ReplyLines.{state_name}
use Rattle.session_runs.specs.Summaries.{word_line, status_words, status_count, payload_length, reply_bytes, summary_rows, summary}

-- one line more
pub lines_more : (before now bytes : List ℕ) (words : ℕ → List (List ℕ)) (n : ℕ) → now ≡ before ++ flat_map word_line (map words (range_with_len 0 n)) → bytes ≡ now ++ word_line (words n)
    → bytes ≡ before ++ flat_map word_line (map words (range_with_len 0 (n + 1)))
lines_more before now bytes words n e f =
    f
    ∙ ap (λ (xs : List ℕ). xs ++ word_line (words n)) e
    ∙ flat_map_more word_line before (map words (range_with_len 0 n)) (words n)
    ∙ ap (λ (rows : List (List (List ℕ))). before ++ flat_map word_line rows) (sym (map-range_with_len_more words 0 n n (omega arith)))

-- functions that agree below n make equal lists of the numbers below n
pub same_map : {X : Type 0} (f g : ℕ → X) (n : ℕ) → ((k : ℕ) → k < n → f k ≡ g k) → map f (range_with_len 0 n) ≡ map g (range_with_len 0 n)
same_map f g zero same = refl
same_map {X} f g (suc n) same =
    let less : map f (range_with_len 0 n) ≡ map g (range_with_len 0 n) = same_map f g n (λ k h. same k (omega (arith, h))) in
    let next : n + 1 ≡ suc n = omega arith in
    subst (λ (k : ℕ). map f (range_with_len 0 k) ≡ map g (range_with_len 0 k)) next
    (map-range_with_len_more f 0 n n (omega arith)
    ∙ ap (λ (xs : List X). xs ++ f n ∷ []) less
    ∙ ap (λ (x : X). map g (range_with_len 0 n) ++ x ∷ []) (same n (omega arith))
    ∙ sym (map-range_with_len_more g 0 n n (omega arith)))

abbrev pub Words : Type 0
Words = List (List ℕ)

joined : (a b c d e : List ℕ) → (((a ++ b) ++ c) ++ d) ++ e ≡ a ++ (b ++ (c ++ (d ++ e)))
joined a b c d e = simp append_assoc

three : (c d e : Words) → flat_map word_line (c ∷ d ∷ e ∷ []) ≡ word_line c ++ (word_line d ++ word_line e)
three c d e =
    flat_map-cons word_line c (d ∷ e ∷ [])
    ∙ ap (λ (xs : List ℕ). word_line c ++ xs)
    (flat_map-cons word_line d (e ∷ [])
    ∙ ap (λ (xs : List ℕ). word_line d ++ xs) (flat_map-cons word_line e [] ∙ append-nil (word_line e)))

-- the lines of five parts
five : (a c d e : Words) (b : List Words)
    → (((word_line a ++ flat_map word_line b) ++ word_line c) ++ word_line d) ++ word_line e ≡ flat_map word_line (a ∷ (b ++ (c ∷ d ∷ e ∷ [])))
five a c d e b =
    joined (word_line a) (flat_map word_line b) (word_line c) (word_line d) (word_line e)
    ∙ ap (λ (xs : List ℕ). word_line a ++ (flat_map word_line b ++ xs)) (sym (three c d e))
    ∙ ap (λ (xs : List ℕ). word_line a ++ xs) (sym (flat_map-append word_line b (c ∷ d ∷ e ∷ [])))
    ∙ sym (flat_map-cons word_line a (b ++ (c ∷ d ∷ e ∷ [])))

-- the words of the counts of some replies
abbrev pub status_rows : (ℕ → ℕ) → List Words
status_rows counts = map (λ number. status_words number (counts number)) (range_with_len 0 16)

-- the parts of a summary
pub record IsPutInParts (counts : ℕ → ℕ) (commands payload : ℕ) (message state first second third fourth fifth : List ℕ) : Type 0 where
  pub first_put : first ≡ word_line (codes "commands" ∷ decimal commands ∷ [])
  pub second_put : second ≡ first ++ flat_map word_line (status_rows counts)
  pub third_put : third ≡ second ++ word_line (codes "payload" ∷ decimal payload ∷ [])
  pub fourth_put : fourth ≡ third ++ word_line (codes "state" ∷ state ∷ [])
  pub fifth_put : fifth ≡ fourth ++ word_line (codes "sha256" ∷ encode_lower (sha256 message) ∷ [])

pub whole_summary : (replies : List ReplyFrame) (last : State) (counts : ℕ → ℕ) (commands payload : ℕ) (state first second third fourth fifth : List ℕ)
    → IsPutInParts counts commands payload (reply_bytes replies) state first second third fourth fifth
    → commands ≡ length replies → ((n : ℕ) → n < 16 → counts n ≡ status_count replies n) → payload ≡ payload_length replies → state ≡ state_name last
    → fifth ≡ summary replies last
unfolding summary_rows
whole_summary replies last counts commands payload state first second third fourth fifth parts c n p t =
    let a : Words = codes "commands" ∷ decimal (length replies) ∷ [] in
    let b : List Words = status_rows (status_count replies) in
    let d : Words = codes "payload" ∷ decimal (payload_length replies) ∷ [] in
    let e : Words = codes "state" ∷ state_name last ∷ [] in
    let f : Words = codes "sha256" ∷ encode_lower (sha256 (reply_bytes replies)) ∷ [] in
    let rows : status_rows counts ≡ b = same_map (λ k. status_words k (counts k)) (λ k. status_words k (status_count replies k)) 16 (λ k h. ap (λ (count : ℕ). status_words k count) (n k h)) in
    let one : first ≡ word_line a = parts.first_put ∙ ap (λ (k : ℕ). word_line (codes "commands" ∷ decimal k ∷ [])) c in
    let two : second ≡ word_line a ++ flat_map word_line b =
    parts.second_put ∙ ap (λ (xs : List ℕ). xs ++ flat_map word_line (status_rows counts)) one ∙ ap (λ (xs : List Words). word_line a ++ flat_map word_line xs) rows in
    let three : third ≡ (word_line a ++ flat_map word_line b) ++ word_line d =
    parts.third_put ∙ ap (λ (xs : List ℕ). xs ++ word_line (codes "payload" ∷ decimal payload ∷ [])) two
    ∙ ap (λ (k : ℕ). (word_line a ++ flat_map word_line b) ++ word_line (codes "payload" ∷ decimal k ∷ [])) p in
    let four : fourth ≡ ((word_line a ++ flat_map word_line b) ++ word_line d) ++ word_line e =
    parts.fourth_put ∙ ap (λ (xs : List ℕ). xs ++ word_line (codes "state" ∷ state ∷ [])) three
    ∙ ap (λ (w : List ℕ). ((word_line a ++ flat_map word_line b) ++ word_line d) ++ word_line (codes "state" ∷ w ∷ [])) t in
    parts.fifth_put ∙ ap (λ (xs : List ℕ). xs ++ word_line f) four ∙ five a d e f b
