-- The bytes of a transcript have one verdict.
use Rattle.std.proofs.Common.{◌≡◌, ◌≢◌, ◌<◌, ◌≤◌, ◌⊎◌, ◌+◌, ◌++◌, ℕ, Bool, true, false, List, [], length, take, inl, inr, refl, sym, ◌∙◌, ap, subst, arith}
use Rattle.std.proofs.lemmas.Bool.{cases_lt}
use Rattle.std.proofs.lemmas.List.{append-nil, map-append}
use Rattle.module_frames.specs.PublicState.{unpowered}
use Rattle.stream_calls.specs.declared.limits.TheConstants.{STREAM_MAX}
use Rattle.transcript_check.specs.Transcripts.{IsFirstUnlawful, IsLawful, Pair}
use Rattle.transcript_check.proofs.Walks.{not_both}
use Rattle.transcript_pairs.specs.PairStreams.{ParsesIntoPairs, Recorded, ShowsFault, ShowsNoFault, pairs_of}
use Rattle.transcript_pairs.proofs.PairParsing.{pairs_one_way}
use Rattle.transcript_report.specs.Laws.{HasOneVerdict, LawfulTells, UnlawfulTells}
use Rattle.transcript_report.specs.Verdicts.{ComesTo, ShowsUnlawful, lawful_text, pair_text}
use Rattle.transcript_report.specs.declared.checking.Checked.{Checked}
use Rattle.transcript_report.specs.declared.checking.Checked.TheVariants as checked
use Rattle.transcript_report.proofs.FirstUnlawful.{first_one, first_stays}
use Rattle.transcript_report.proofs.PairFaults.{fault_one, no_fault_at, nothing_is_sound}
use Rattle.transcript_report.proofs.PairSplits.{Begins, begins_all, compared, encodings, nothing_begins}

-- the first unlawful pair of a front is that of all
first_in_all : (number : ℕ) (front all : List Recorded) → Begins front all → IsFirstUnlawful unpowered number (pairs_of front) → IsFirstUnlawful unpowered number (pairs_of all)
first_in_all number front all begins first =
    let pairs : pairs_of all ≡ pairs_of front ++ pairs_of begins.0 = ap pairs_of begins.1 ∙ map-append (λ (r : Recorded). r.pair) front begins.0 in
    subst (λ (ps : List Pair). IsFirstUnlawful unpowered number ps) (sym pairs) (first_stays unpowered number (pairs_of front) (pairs_of begins.0) first)

-- the bytes of pairs that are a front of all the bytes
front_bytes : (bytes : List ℕ) (number : ℕ) → (shown : ShowsUnlawful bytes number) → bytes ≡ encodings shown.recorded ++ shown.more
front_bytes bytes number shown = shown.whole ∙ ap (λ xs. xs ++ shown.more) (shown.parses.encoded ∙ append-nil (encodings shown.recorded))

unlawful_one : (bytes : List ℕ) (one other : ℕ) → ShowsUnlawful bytes one → ShowsUnlawful bytes other → one ≡ other
unlawful_one bytes one other h k =
    elim (compared h.recorded k.recorded h.more k.more h.parses.recorded k.parses.recorded (sym (front_bytes bytes one h) ∙ front_bytes bytes other k)) [
      | inl begins ↦ first_one unpowered one other (pairs_of k.recorded) (first_in_all one h.recorded k.recorded begins h.unlawful) k.unlawful
      | inr begins ↦ first_one unpowered one other (pairs_of h.recorded) h.unlawful (first_in_all other k.recorded h.recorded begins k.unlawful)
    ]

-- an unlawful pair at the front is one of all pairs
pub unlawful_in_all : (bytes : List ℕ) (number : ℕ) (recorded : List Recorded) (remainder : List ℕ) → ShowsUnlawful bytes number → ParsesIntoPairs bytes recorded remainder → IsFirstUnlawful unpowered number (pairs_of recorded)
unlawful_in_all bytes number recorded remainder shown parses =
    first_in_all number shown.recorded recorded
    (begins_all shown.recorded recorded shown.more remainder shown.parses.recorded parses.recorded parses.unfinished (sym (front_bytes bytes number shown) ∙ parses.encoded))
    shown.unlawful

-- of all pairs one is shown
pub shown_in_all : (bytes : List ℕ) (number : ℕ) (recorded : List Recorded) (remainder : List ℕ) → ParsesIntoPairs bytes recorded remainder → IsFirstUnlawful unpowered number (pairs_of recorded) → ShowsUnlawful bytes number
shown_in_all bytes number recorded remainder parses first = record {
  front = encodings recorded;
  more = remainder;
  whole = parses.encoded;
  recorded = recorded;
  parses = record { encoded = sym (append-nil (encodings recorded)); recorded = parses.recorded; unfinished = nothing_begins };
  unlawful = first;
}

-- what bytes come to that parse into lawful pairs
abbrev Ends : Checked → (ended : Bool) → (total count : ℕ) → (remainder text : List ℕ) → Type 0
Ends answer ended total count remainder text =
    ((answer ≡ checked.Lawful) × (remainder ≡ []) × (ended ≡ true) × (text ≡ lawful_text count))
    ⊎ ((place : ℕ) × (within : ℕ) × (answer ≡ checked.BadFrame place) × ShowsFault remainder within × (place + length remainder ≡ total + within) × (text ≡ []))
    ⊎ ((answer ≡ checked.Truncated) × ShowsNoFault remainder × (remainder ≢ []) × (ended ≡ true) × (text ≡ []))
    ⊎ ((answer ≡ checked.Limit) × ShowsNoFault remainder × (ended ≡ false) × (text ≡ []))

record AllLawful (bytes : List ℕ) (ended : Bool) (answer : Checked) (text : List ℕ) : Type 0 where
  recorded : List Recorded
  remainder : List ℕ
  parses : ParsesIntoPairs bytes recorded remainder
  lawful : IsLawful (pairs_of recorded)
  ends : Ends answer ended (length bytes) (length recorded) remainder text

-- a pair of this number is the first that isn't lawful
abbrev HasUnlawful : (bytes : List ℕ) → Checked → (text : List ℕ) → Type 0
HasUnlawful bytes answer text = (number : ℕ) × (answer ≡ checked.Unlawful number) × ShowsUnlawful bytes number × (text ≡ pair_text number)

-- bytes have an unlawful pair, or parse into lawful ones
parted : (bytes : List ℕ) (ended : Bool) (answer : Checked) (text : List ℕ) → ComesTo bytes ended answer text → HasUnlawful bytes answer text ⊎ AllLawful bytes ended answer text
parted bytes ended checked.Lawful text h =
    inr (record { recorded = h.0; remainder = []; parses = h.1.parses; lawful = h.1.lawful; ends = inl (refl, refl, h.2, h.3) })
parted bytes ended (checked.Unlawful number) text h = inl (number, refl, h.0, h.1)
parted bytes ended (checked.BadFrame place) text h =
    inr (record { recorded = h.0.recorded; remainder = h.0.remainder; parses = h.0.parses; lawful = h.0.lawful; ends = inr (inl (place, h.0.within, refl, h.0.fault, h.0.placed, h.1)) })
parted bytes ended checked.Truncated text h =
    inr (record { recorded = h.0; remainder = h.1; parses = h.2.parses; lawful = h.2.lawful; ends = inr (inr (inl (refl, h.2.no_fault, h.3, h.4, h.5))) })
parted bytes ended checked.ReadFault text h = absurd h
parted bytes ended checked.WriteFault text h = absurd h
parted bytes ended checked.Limit text h =
    inr (record { recorded = h.0; remainder = h.1; parses = h.2.parses; lawful = h.2.lawful; ends = inr (inr (inr (refl, h.2.no_fault, h.3, h.4))) })

no_fault_in_nothing : (remainder : List ℕ) (within : ℕ) → remainder ≡ [] → ShowsFault remainder within → ⊥
no_fault_in_nothing remainder within empty fault = no_fault_at [] within nothing_is_sound (subst (λ (xs : List ℕ). ShowsFault xs within) empty fault)

not_ended_both : (ended : Bool) → ended ≡ true → ended ≡ false → ⊥
not_ended_both ended yes' no' = let wrong : true ≡ false = sym yes' ∙ no' in cc

-- they come to one answer
ends_one : (one other : Checked) (ended : Bool) (total count : ℕ) (remainder text text' : List ℕ) → Ends one ended total count remainder text → Ends other ended total count remainder text' → (one ≡ other) × (text ≡ text')
ends_one one other ended total count remainder text text' (inl h) (inl k) = (h.0 ∙ sym k.0, h.3 ∙ sym k.3)
ends_one one other ended total count remainder text text' (inl h) (inr (inl k)) = absurd (no_fault_in_nothing remainder k.1 h.1 k.3)
ends_one one other ended total count remainder text text' (inl h) (inr (inr (inl k))) = absurd (k.2 h.1)
ends_one one other ended total count remainder text text' (inl h) (inr (inr (inr k))) = absurd (not_ended_both ended h.2 k.2)
ends_one one other ended total count remainder text text' (inr (inl h)) (inl k) = absurd (no_fault_in_nothing remainder h.1 k.1 h.3)
ends_one one other ended total count remainder text text' (inr (inl h)) (inr (inl k)) =
    let within = fault_one remainder h.1 k.1 h.3 k.3 in
    let place : h.0 ≡ k.0 = omega (arith, within, h.4, k.4) in
    (h.2 ∙ ap (λ (n : ℕ). checked.BadFrame n) place ∙ sym k.2, h.5 ∙ sym k.5)
ends_one one other ended total count remainder text text' (inr (inl h)) (inr (inr (inl k))) = absurd (no_fault_at remainder h.1 k.1 h.3)
ends_one one other ended total count remainder text text' (inr (inl h)) (inr (inr (inr k))) = absurd (no_fault_at remainder h.1 k.1 h.3)
ends_one one other ended total count remainder text text' (inr (inr (inl h))) (inl k) = absurd (h.2 k.1)
ends_one one other ended total count remainder text text' (inr (inr (inl h))) (inr (inl k)) = absurd (no_fault_at remainder k.1 h.1 k.3)
ends_one one other ended total count remainder text text' (inr (inr (inl h))) (inr (inr (inl k))) = (h.0 ∙ sym k.0, h.4 ∙ sym k.4)
ends_one one other ended total count remainder text text' (inr (inr (inl h))) (inr (inr (inr k))) = absurd (not_ended_both ended h.3 k.2)
ends_one one other ended total count remainder text text' (inr (inr (inr h))) (inl k) = absurd (not_ended_both ended k.2 h.2)
ends_one one other ended total count remainder text text' (inr (inr (inr h))) (inr (inl k)) = absurd (no_fault_at remainder k.1 h.1 k.3)
ends_one one other ended total count remainder text text' (inr (inr (inr h))) (inr (inr (inl k))) = absurd (not_ended_both ended k.3 h.2)
ends_one one other ended total count remainder text text' (inr (inr (inr h))) (inr (inr (inr k))) = (h.0 ∙ sym k.0, h.3 ∙ sym k.3)

lawful_one : (bytes : List ℕ) (ended : Bool) (one other : Checked) (text text' : List ℕ) → AllLawful bytes ended one text → AllLawful bytes ended other text' → (one ≡ other) × (text ≡ text')
lawful_one bytes ended one other text text' h k =
    let same = pairs_one_way bytes h.recorded k.recorded h.remainder k.remainder h.parses k.parses in
    let counted : Ends one ended (length bytes) (length k.recorded) h.remainder text = subst (λ (rs : List Recorded). Ends one ended (length bytes) (length rs) h.remainder text) same.0 h.ends in
    let moved : Ends one ended (length bytes) (length k.recorded) k.remainder text = subst (λ (xs : List ℕ). Ends one ended (length bytes) (length k.recorded) xs text) same.1 counted in
    ends_one one other ended (length bytes) (length k.recorded) k.remainder text text' moved k.ends

not_lawful : (bytes : List ℕ) (ended : Bool) (one other : Checked) (text text' : List ℕ) → HasUnlawful bytes one text → AllLawful bytes ended other text' → ⊥
not_lawful bytes ended one other text text' h k =
    not_both unpowered k.lawful.0 h.0 (pairs_of k.recorded) (unlawful_in_all bytes h.0 k.recorded k.remainder h.2 k.parses) k.lawful.1

comes_to_one : (bytes : List ℕ) (ended : Bool) (one other : Checked) (text text' : List ℕ) → ComesTo bytes ended one text → ComesTo bytes ended other text' → (one ≡ other) × (text ≡ text')
comes_to_one bytes ended one other text text' h k = by_parts (parted bytes ended one text h) (parted bytes ended other text' k)
  where
    by_parts : HasUnlawful bytes one text ⊎ AllLawful bytes ended one text → HasUnlawful bytes other text' ⊎ AllLawful bytes ended other text' → (one ≡ other) × (text ≡ text')
    by_parts (inl a) (inl b) =
        let same = unlawful_one bytes a.0 b.0 a.2 b.2 in
        (a.1 ∙ ap (λ (n : ℕ). checked.Unlawful n) same ∙ sym b.1, a.3 ∙ ap pair_text same ∙ sym b.3)
    by_parts (inl a) (inr b) = absurd (not_lawful bytes ended one other text text' a b)
    by_parts (inr a) (inl b) = absurd (not_lawful bytes ended other one text' text b a)
    by_parts (inr a) (inr b) = lawful_one bytes ended one other text text' a b

pub one_verdict : HasOneVerdict
one_verdict bytes one other text text' h k =
    elim (cases_lt (length bytes) STREAM_MAX) [
      | inl short ↦ comes_to_one bytes true one other text text' (h.short short) (k.short short)
      | inr long ↦ comes_to_one (take STREAM_MAX bytes) false one other text text' (h.too_long long) (k.too_long long)
    ]

not_long : (bytes : List ℕ) → length bytes < STREAM_MAX → STREAM_MAX ≤ length bytes → ⊥
not_long bytes short long = omega (arith, short, long)

pub lawful_tells : LawfulTells
lawful_tells bytes text = (
  λ h. elim (cases_lt (length bytes) STREAM_MAX) [
    | inl short ↦ (let k = h.short short in (k.0, k.1.parses, k.1.lawful, short, k.3))
    | inr long ↦ absurd (not_ended_both false ((h.too_long long).2) refl)
  ],
  λ h. record {
    short = λ _. (h.0, record { parses = h.1; lawful = h.2; no_fault = nothing_is_sound }, refl, h.4);
    too_long = λ long. absurd (not_long bytes h.3 long);
  },
)

pub unlawful_tells : UnlawfulTells
unlawful_tells bytes text recorded remainder number short parses = (
  λ h. (unlawful_in_all bytes number recorded remainder ((h.short short).0) parses, (h.short short).1),
  λ h. record {
    short = λ _. (shown_in_all bytes number recorded remainder parses h.0, h.1);
    too_long = λ long. absurd (not_long bytes short long);
  },
)
