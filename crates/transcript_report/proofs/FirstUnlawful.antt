-- The first pair that isn't lawful.
use Rattle.std.proofs.Common.{◌≡◌, ◌<◌, ◌++◌, ℕ, List, [], ◌∷◌, length, drop, inl, inr, sym, ◌∙◌, ap, arith}
use Rattle.std.proofs.lemmas.Bool.{cases_lt}
use Rattle.std.proofs.lemmas.List.{append_assoc}
use Rattle.module_frames.specs.declared.public_state.PublicState.{PublicState}
use Rattle.transcript_check.specs.Transcripts.{IsFirstUnlawful, Pair}
use Rattle.transcript_check.proofs.Walks.{not_both}

-- it stays the first, whatever pairs follow
pub first_stays : (start : PublicState) (number : ℕ) (pairs more : List Pair) → IsFirstUnlawful start number pairs → IsFirstUnlawful start number (pairs ++ more)
first_stays start number pairs more first = record {
  earlier = first.earlier;
  pair = first.pair;
  later = first.later ++ more;
  found = first.found;
  split = ap (λ ps. ps ++ more) first.split ∙ append_assoc first.earlier (first.pair ∷ first.later) more;
  numbered = first.numbered;
  walk = first.walk;
  unlawful = first.unlawful;
}

same_head : (a b : Pair) (ps qs : List Pair) → a ∷ ps ≡ b ∷ qs → a ≡ b
same_head a b ps qs e = cc

-- the longer of two fronts goes over the pair behind the shorter one
longer : (a b : List Pair) (p q : Pair) (x y : List Pair) → a ++ (p ∷ x) ≡ b ++ (q ∷ y) → length a < length b → (z : List Pair) × (b ≡ a ++ (p ∷ z))
longer [] [] p q x y e less = absurd (omega (arith, less))
longer [] (c ∷ b) p q x y e less = (b, ap (λ h. h ∷ b) (sym (same_head p c x (b ++ (q ∷ y)) e)))
longer (c ∷ a) [] p q x y e less = absurd (omega (arith, less))
longer (c ∷ a) (d ∷ b) p q x y e less =
    let more = longer a b p q x y (ap (λ ps. drop 1 ps) e) (omega (arith, less)) in
    (more.0, ap (λ ps. d ∷ ps) more.1 ∙ ap (λ h. h ∷ (a ++ (p ∷ more.0))) (sym (same_head c d (a ++ (p ∷ x)) (b ++ (q ∷ y)) e)))

not_before : (start : PublicState) (one other : ℕ) (pairs : List Pair) (first : IsFirstUnlawful start one pairs) (second : IsFirstUnlawful start other pairs) → length first.earlier < length second.earlier → ⊥
not_before start one other pairs first second less =
    let more = longer first.earlier second.earlier first.pair second.pair first.later second.later (sym first.split ∙ second.split) less in
    not_both start second.found one second.earlier
    (record { earlier = first.earlier; pair = first.pair; later = more.0; found = first.found; split = more.1; numbered = first.numbered; walk = first.walk; unlawful = first.unlawful }) second.walk

-- only one pair is the first
pub first_one : (start : PublicState) (one other : ℕ) (pairs : List Pair) → IsFirstUnlawful start one pairs → IsFirstUnlawful start other pairs → one ≡ other
first_one start one other pairs first second =
    elim (cases_lt (length first.earlier) (length second.earlier)) [
      | inl less ↦ absurd (not_before start one other pairs first second less)
      | inr most ↦ elim (cases_lt (length second.earlier) (length first.earlier)) [
        | inl less ↦ absurd (not_before start other one pairs second first less)
        | inr least ↦ omega (arith, first.numbered, second.numbered, most, least)
      ]
    ]
