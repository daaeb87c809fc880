-- From what checking leaves to the verdict on the source's content.
use Rattle.std.proofs.Common.{◌≡◌, ◌≢◌, ◌≤◌, ◌+◌, ◌-◌, ◌++◌, ℕ, Bool, true, false, List, Option, Some, append_assoc, refl, sym, ◌∙◌, ap, subst, length, length-append, take, drop, arith}
use Rattle.std.proofs.Math.Seq.{take-add}
use Rattle.std.proofs.lemmas.List.{drop_at, take_at}
use Rattle.stream_calls.specs.Streams.{Streams}
use Rattle.stream_calls.specs.declared.limits.TheConstants.{STREAM_MAX}
use Rattle.transcript_report.specs.Checks.{Checks, VerdictReached}
use Rattle.transcript_report.specs.Verdicts.{ComesTo, IsVerdict, ShowsUnlawful}
use Rattle.transcript_report.specs.declared.checking.Checked.{Checked}
use Rattle.transcript_report.specs.declared.checking.Checked.TheVariants as checked
use Rattle.transcript_report.proofs.PairFaults.{bad_frame_stays}

-- the first bytes of two parts, past the first part
take_past : (n : ℕ) (first more : List ℕ) → length first ≤ n → take n (first ++ more) ≡ first ++ take (n - length first) more
take_past n first more h =
    let sum : length first + (n - length first) ≡ n = omega arith in
    ap (λ k. take k (first ++ more)) (sym sum)
    ∙ take-add (length first) (n - length first) (first ++ more)
    ∙ ap (λ xs. xs ++ take (n - length first) (drop (length first) (first ++ more))) (take_at first more (length first) refl)
    ∙ ap (λ xs. first ++ take (n - length first) xs) (drop_at first more (length first) refl)

unlawful_stays : (bytes more : List ℕ) (number : ℕ) → ShowsUnlawful bytes number → ShowsUnlawful (bytes ++ more) number
unlawful_stays bytes more number shown = record {
  front = shown.front;
  more = shown.more ++ more;
  whole = ap (λ xs. xs ++ more) shown.whole ∙ append_assoc shown.front shown.more more;
  recorded = shown.recorded;
  parses = shown.parses;
  unlawful = shown.unlawful;
}

-- what bytes come to stays, whatever bytes follow
abbrev Stays : Checked → List ℕ → Type 0
Stays answer text = (bytes more : List ℕ) (ended ended' : Bool) → ComesTo bytes ended answer text → ComesTo (bytes ++ more) ended' answer text

-- the source showed why it is read no further
run_at_fault : (answer : Checked) (chunk : ℕ) (text bytes : List ℕ) (left : Option (List ℕ)) → Stays answer text → VerdictReached answer chunk text (Some bytes) left → IsVerdict bytes answer text
run_at_fault answer chunk text bytes left stays reached =
    let taken = reached.taken in
    let rest = reached.consumes.0 in
    let cut = take (STREAM_MAX - length taken) rest in
    let first : take STREAM_MAX bytes ≡ taken ++ cut = ap (λ xs. take STREAM_MAX xs) reached.consumes.1 ∙ take_past STREAM_MAX taken rest reached.asked.within in
    record {
      short = λ _. subst (λ (xs : List ℕ). ComesTo xs true answer text) (sym reached.consumes.1) (stays taken rest reached.ended true reached.comes_to);
      too_long = λ _. subst (λ (xs : List ℕ). ComesTo xs false answer text) (sym first) (stays taken cut reached.ended false reached.comes_to);
    }

-- the source was read to its end
run_at_end : (answer : Checked) (chunk : ℕ) (text bytes : List ℕ) (left : Option (List ℕ)) → (reached : VerdictReached answer chunk text (Some bytes) left) → reached.ended ≡ true → IsVerdict bytes answer text
run_at_end answer chunk text bytes left reached ended =
    let to_end = reached.at_end ended in
    let over : ComesTo reached.taken true answer text = subst (λ (e : Bool). ComesTo reached.taken e answer text) ended reached.comes_to in
    record {
      short = λ _. subst (λ (xs : List ℕ). ComesTo xs true answer text) (sym to_end.1) over;
      too_long = λ long. absurd (omega (arith, ap length to_end.1, to_end.0, long));
    }

-- as many bytes were taken as may be
run_at_limit : (chunk : ℕ) (text bytes : List ℕ) (left : Option (List ℕ)) → VerdictReached checked.Limit chunk text (Some bytes) left → IsVerdict bytes checked.Limit text
run_at_limit chunk text bytes left reached =
    let taken = reached.taken in
    let rest = reached.consumes.0 in
    let full = reached.at_limit refl in
    let first : take STREAM_MAX bytes ≡ taken = ap (λ xs. take STREAM_MAX xs) reached.consumes.1 ∙ take_at taken rest STREAM_MAX full in
    let open_end : ComesTo taken false checked.Limit text = subst (λ (e : Bool). ComesTo taken e checked.Limit text) reached.comes_to.3 reached.comes_to in
    record {
      short = λ less. absurd (omega (arith, ap length reached.consumes.1, length-append taken rest, full, less));
      too_long = λ _. subst (λ (xs : List ℕ). ComesTo xs false checked.Limit text) (sym first) open_end;
    }

of_reached : (answer : Checked) (chunk : ℕ) (text bytes : List ℕ) (left : Option (List ℕ)) → VerdictReached answer chunk text (Some bytes) left → IsVerdict bytes answer text
of_reached checked.Lawful chunk text bytes left reached = run_at_end checked.Lawful chunk text bytes left reached reached.comes_to.2
of_reached (checked.Unlawful number) chunk text bytes left reached =
    run_at_fault (checked.Unlawful number) chunk text bytes left (λ bytes' more ended ended' h. (unlawful_stays bytes' more number h.0, h.1)) reached
of_reached (checked.BadFrame place) chunk text bytes left reached =
    run_at_fault (checked.BadFrame place) chunk text bytes left (λ bytes' more ended ended' h. (bad_frame_stays bytes' more place h.0, h.1)) reached
of_reached checked.Truncated chunk text bytes left reached = run_at_end checked.Truncated chunk text bytes left reached reached.comes_to.4
of_reached checked.ReadFault chunk text bytes left reached = absurd reached.comes_to
of_reached checked.WriteFault chunk text bytes left reached = absurd reached.comes_to
of_reached checked.Limit chunk text bytes left reached = run_at_limit chunk text bytes left reached

-- where no call failed, what checking leaves is the verdict on the content
pub verdict_of : (answer : Checked) (chunk : ℕ) (bytes before : List ℕ) (after : Streams) → Checks answer chunk (record { left = Some bytes; gained = Some before }) after → answer ≢ checked.ReadFault → answer ≢ checked.WriteFault
    → (text : List ℕ) × IsVerdict bytes answer text × (after.gained ≡ Some (before ++ text))
verdict_of checked.Lawful chunk bytes before after h no_read no_write = (h.0, of_reached checked.Lawful chunk h.0 bytes after.left h.1, h.2)
verdict_of (checked.Unlawful number) chunk bytes before after h no_read no_write = (h.0, of_reached (checked.Unlawful number) chunk h.0 bytes after.left h.1, h.2)
verdict_of (checked.BadFrame place) chunk bytes before after h no_read no_write = (h.0, of_reached (checked.BadFrame place) chunk h.0 bytes after.left h.1, h.2)
verdict_of checked.Truncated chunk bytes before after h no_read no_write = (h.0, of_reached checked.Truncated chunk h.0 bytes after.left h.1, h.2)
verdict_of checked.ReadFault chunk bytes before after h no_read no_write = absurd (no_read refl)
verdict_of checked.WriteFault chunk bytes before after h no_read no_write = absurd (no_write refl)
verdict_of checked.Limit chunk bytes before after h no_read no_write = (h.0, of_reached checked.Limit chunk h.0 bytes after.left h.1, h.2)
