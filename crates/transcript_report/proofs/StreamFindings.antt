-- What is found of a stream.
use Rattle.std.proofs.Common.{◌≡◌, ◌<◌, ◌≤◌, ◌++◌, ◌↔◌, ℕ, true, false, IsTrue, List, [], Option, None, Some, length, refl, sym, ◌∙◌, ap, subst, arith, length-append}
use Rattle.std.proofs.lemmas.List.{append-nil, nil_from_length}
use Rattle.module_frames.specs.declared.public_state.PublicState.{PublicState}
use Rattle.outside.specs.Contents.{Consumes, IsAtEnd}
use Rattle.stream_calls.specs.Streams.{IsAllOf}
use Rattle.stream_calls.specs.declared.limits.TheConstants.{STREAM_MAX}
use Rattle.transcript_pairs.specs.PairStreams.{HeldPair, held_length}
use Rattle.transcript_report.specs.Checks.{AskedNoFurther, IsReadToEnd, VerdictReached}
use Rattle.transcript_report.specs.Progress.{CheckedSoFar, ReadCutOff}
use Rattle.transcript_report.specs.Verdicts.{IsLawfulSoFar, ShowsBadFrame, ShowsUnlawful, lawful_text, pair_text}
use Rattle.transcript_report.specs.declared.checking.Checked.TheVariants as checked
use Rattle.transcript_report.proofs.PairChecks.{came_length}

lawful_so_far : (taken : List ℕ) (walk : Option PublicState) (count : ℕ) (held : HeldPair) → (h : CheckedSoFar taken walk count held) → IsLawfulSoFar taken h.recorded h.remainder
lawful_so_far taken walk count held h = record { parses = h.parses; lawful = (h.public, h.walked); no_fault = h.sound }

-- nothing was asked for once an unlawful pair or a fault showed
pub asked_no_further : (earlier last : List ℕ) (walk : Option PublicState) (count : ℕ) (held : HeldPair) (chunk : ℕ) → CheckedSoFar earlier walk count held → length last ≤ chunk → length (earlier ++ last) ≤ STREAM_MAX
    → AskedNoFurther chunk (earlier ++ last)
asked_no_further earlier last walk count held chunk h short within = record {
  earlier = earlier;
  last = last;
  whole = refl;
  chunk_length = short;
  recorded = h.recorded;
  remainder = h.remainder;
  so_far = lawful_so_far earlier walk count held h;
  within = within;
}

asked_all : (taken : List ℕ) (walk : Option PublicState) (count : ℕ) (held : HeldPair) (chunk : ℕ) → CheckedSoFar taken walk count held → length taken ≤ STREAM_MAX → AskedNoFurther chunk taken
asked_all taken walk count held chunk h within =
    subst (λ (xs : List ℕ). AskedNoFurther chunk xs) (append-nil taken) (asked_no_further taken [] walk count held chunk h (omega arith) (omega (arith, within, length-append taken [])))

-- a read failed
pub cut_off : (taken : List ℕ) (walk : Option PublicState) (count : ℕ) (held : HeldPair) (left left' : Option (List ℕ)) → CheckedSoFar taken walk count held → Consumes left taken left' → length taken < STREAM_MAX → ReadCutOff left left'
cut_off taken walk count held left left' h consumes below = record {
  taken = taken;
  recorded = h.recorded;
  remainder = h.remainder;
  consumes = consumes;
  so_far = lawful_so_far taken walk count held h;
  below_limit = below;
}

-- what was taken up to the end is all
pub all_of : (before mid : Option (List ℕ)) (taken : List ℕ) → Consumes before taken mid → IsAtEnd mid → IsAllOf taken before
all_of None mid taken consumes over = tt
all_of (Some all) mid taken consumes over =
    let none = rw consumes.2 at over in
    consumes.1 ∙ ap (λ xs. taken ++ xs) none ∙ append-nil taken

-- the source ended behind a whole pair
pub ended_lawful : (taken : List ℕ) (walk : Option PublicState) (count : ℕ) (held : HeldPair) (chunk : ℕ) (left left' : Option (List ℕ)) → CheckedSoFar taken walk count held → Consumes left taken left' → IsReadToEnd taken left
    → held_length held ≡ 0 → VerdictReached checked.Lawful chunk (lawful_text count) left left'
ended_lawful taken walk count held chunk left left' h consumes to_end none =
    let empty : h.remainder ≡ [] = nil_from_length h.remainder (sym (came_length held h.remainder h.came) ∙ none) in
    record {
      taken = taken;
      ended = true;
      consumes = consumes;
      asked = asked_all taken walk count held chunk h (omega (arith, to_end.0));
      at_end = λ _. to_end;
      at_limit = λ e. cc;
      comes_to = (h.recorded, subst (λ (xs : List ℕ). IsLawfulSoFar taken h.recorded xs) empty (lawful_so_far taken walk count held h), refl, ap lawful_text h.counted);
    }

not_there : IsTrue false → ⊥
not_there is = cc

-- and inside one
pub ended_truncated : (taken : List ℕ) (walk : Option PublicState) (count : ℕ) (held : HeldPair) (chunk : ℕ) (left left' : Option (List ℕ)) → CheckedSoFar taken walk count held → Consumes left taken left' → IsReadToEnd taken left
    → IsTrue false ↔ ((held_length held ≡ 0) × (held.fault ≡ None)) → VerdictReached checked.Truncated chunk [] left left'
ended_truncated taken walk count held chunk left left' h consumes to_end boundary = record {
  taken = taken;
  ended = true;
  consumes = consumes;
  asked = asked_all taken walk count held chunk h (omega (arith, to_end.0));
  at_end = λ _. to_end;
  at_limit = λ e. cc;
  comes_to = (
    h.recorded,
    h.remainder,
    lawful_so_far taken walk count held h,
    λ empty. not_there (boundary.1 (came_length held h.remainder h.came ∙ ap length empty, h.no_fault)),
    refl,
    refl,
  );
}

-- a pair of the last chunk isn't lawful
pub found_unlawful : (earlier last : List ℕ) (walk : Option PublicState) (count number : ℕ) (held : HeldPair) (chunk : ℕ) (left left' : Option (List ℕ)) → CheckedSoFar earlier walk count held → Consumes left (earlier ++ last) left'
    → length last ≤ chunk → length (earlier ++ last) ≤ STREAM_MAX → ShowsUnlawful (earlier ++ last) number → VerdictReached (checked.Unlawful number) chunk (pair_text number) left left'
found_unlawful earlier last walk count number held chunk left left' h consumes short within shown = record {
  taken = earlier ++ last;
  ended = false;
  consumes = consumes;
  asked = asked_no_further earlier last walk count held chunk h short within;
  at_end = λ e. cc;
  at_limit = λ e. cc;
  comes_to = (shown, refl);
}

-- the last chunk shows a fault
pub found_bad_frame : (earlier last : List ℕ) (walk : Option PublicState) (count place : ℕ) (held : HeldPair) (chunk : ℕ) (left left' : Option (List ℕ)) → CheckedSoFar earlier walk count held → Consumes left (earlier ++ last) left'
    → length last ≤ chunk → length (earlier ++ last) ≤ STREAM_MAX → ShowsBadFrame (earlier ++ last) place → VerdictReached (checked.BadFrame place) chunk [] left left'
found_bad_frame earlier last walk count place held chunk left left' h consumes short within shown = record {
  taken = earlier ++ last;
  ended = false;
  consumes = consumes;
  asked = asked_no_further earlier last walk count held chunk h short within;
  at_end = λ e. cc;
  at_limit = λ e. cc;
  comes_to = (shown, refl);
}

-- as many bytes were taken as may be
pub found_limit : (taken : List ℕ) (walk : Option PublicState) (count : ℕ) (held : HeldPair) (chunk : ℕ) (left left' : Option (List ℕ)) → CheckedSoFar taken walk count held → Consumes left taken left' → length taken ≡ STREAM_MAX
    → VerdictReached checked.Limit chunk [] left left'
found_limit taken walk count held chunk left left' h consumes full = record {
  taken = taken;
  ended = false;
  consumes = consumes;
  asked = asked_all taken walk count held chunk h (omega (arith, full));
  at_end = λ e. cc;
  at_limit = λ _. full;
  comes_to = (h.recorded, h.remainder, lawful_so_far taken walk count held h, refl, refl);
}
