-- What lines find, in two parts.
use Rattle.std.proofs.Common.{if◌then◌else◌, ◌≡◌, ◌⊎◌, inl, inr, ℕ, Bool, true, false, List, [], ◌∷◌, ◌++◌, refl, sym, ◌∙◌, ap, subst}
use Rattle.std.proofs.lemmas.Bool.{cases_Bool}
use Rattle.std.proofs.lemmas.List.Folds.{list_any-append}
use Rattle.std.specs.Prelude.{◌||◌}
use Rattle.engine_core.specs.Calls.{Calls}
use Rattle.vector_suite.specs.Lines.{Found}
use Rattle.vector_suite.specs.declared.lines.VectorRead.{VectorRead}
use Rattle.vector_suite.specs.declared.lines.VectorRead.TheVariants.{Bad}
use Rattle.vector_reports.specs.Findings.{LinesFound, is_bad, is_too_long, read_line, with_read, lines_found}
use Rattle.vector_reports.specs.ReportText.{has_bad}

-- what was read in front of more
abbrev pub with_reads : {V : Type 0} → List VectorRead → LinesFound V → LinesFound V
with_reads reads found = record { reads = reads ++ found.reads; engine = found.engine }

-- reads and the engine that they leave
abbrev pub found_as : {V : Type 0} → List VectorRead → V → LinesFound V
found_as reads v = record { reads = reads; engine = v }

pub found_none : {V : Type 0} (calls : Calls V) (v : V) → lines_found calls v [] ≡ record { reads = []; engine = v }
unfolding lines_found
found_none calls v = refl

-- a line that isn't bad, and others
pub found_more : {V : Type 0} (calls : Calls V) (v : V) (line : List ℕ) (lines : List (List ℕ)) → is_bad (read_line calls v line).read ≡ false
    → lines_found calls v (line ∷ lines) ≡ with_read (read_line calls v line).read (lines_found calls (read_line calls v line).engine lines)
unfolding lines_found
found_more calls v line lines good = rw good refl

-- a bad line
pub found_bad : {V : Type 0} (calls : Calls V) (v : V) (line : List ℕ) (lines : List (List ℕ)) → is_bad (read_line calls v line).read ≡ true
    → lines_found calls v (line ∷ lines) ≡ record { reads = (read_line calls v line).read ∷ []; engine = (read_line calls v line).engine }
unfolding lines_found
found_bad calls v line lines bad = rw bad refl

-- what is found behind a line: nothing if it is bad
abbrev pub found_next : {V : Type 0} → Calls V → Found V → List (List ℕ) → LinesFound V
found_next calls found lines = if is_bad found.read then found_as [] found.engine else lines_found calls found.engine lines

pub found_first : {V : Type 0} (calls : Calls V) (v : V) (line : List ℕ) (lines : List (List ℕ))
    → lines_found calls v (line ∷ lines) ≡ with_read (read_line calls v line).read (found_next calls (read_line calls v line) lines)
unfolding lines_found
found_first calls v line lines = refl

-- a line that is too long
pub found_long : {V : Type 0} (calls : Calls V) (v : V) (line : List ℕ) (lines : List (List ℕ)) → is_too_long line ≡ true → lines_found calls v (line ∷ lines) ≡ found_as (Bad ∷ []) v
unfolding lines_found
found_long calls v line lines long = rw long refl

-- behind lines of which none is bad
pub found_both : {V : Type 0} (calls : Calls V) (v : V) (xs ys : List (List ℕ)) → has_bad (lines_found calls v xs).reads ≡ false
    → lines_found calls v (xs ++ ys) ≡ with_reads (lines_found calls v xs).reads (lines_found calls (lines_found calls v xs).engine ys)
found_both calls v [] ys h = rw (found_none calls v) refl
found_both {V} calls v (line ∷ xs) ys h =
    let first = read_line calls v line in
    elim (cases_Bool (is_bad first.read)) [
      | inl bad ↦ absurd (let none : has_bad (first.read ∷ []) ≡ false = sym (ap (λ (f : LinesFound V). has_bad f.reads) (found_bad calls v line xs bad)) ∙ h in cc)
      | inr good ↦ (let one = found_more calls v line xs good in
          let both : has_bad (first.read ∷ (lines_found calls first.engine xs).reads) ≡ false = sym (ap (λ (f : LinesFound V). has_bad f.reads) one) ∙ h in
          let rest : has_bad (lines_found calls first.engine xs).reads ≡ false = (rw good at both) in
          found_more calls v line (xs ++ ys) good ∙ ap (λ f. with_read first.read f) (found_both calls first.engine xs ys rest)
          ∙ sym (ap (λ (f : LinesFound V). with_reads f.reads (lines_found calls f.engine ys)) one))
    ]

pub found_behind : {V : Type 0} (calls : Calls V) (v w : V) (xs ys : List (List ℕ)) (reads : List VectorRead) → lines_found calls v xs ≡ record { reads = reads; engine = w } → has_bad reads ≡ false
    → lines_found calls v (xs ++ ys) ≡ with_reads reads (lines_found calls w ys)
found_behind {V} calls v w xs ys reads is none =
    found_both calls v xs ys (ap (λ (f : LinesFound V). has_bad f.reads) is ∙ none) ∙ ap (λ (f : LinesFound V). with_reads f.reads (lines_found calls f.engine ys)) is

-- behind a bad line nothing is read
pub found_stays : {V : Type 0} (calls : Calls V) (v : V) (xs ys : List (List ℕ)) → has_bad (lines_found calls v xs).reads ≡ true → lines_found calls v (xs ++ ys) ≡ lines_found calls v xs
found_stays {V} calls v [] ys h = absurd (let none : has_bad [] ≡ true = sym (ap (λ (f : LinesFound V). has_bad f.reads) (found_none calls v)) ∙ h in cc)
found_stays {V} calls v (line ∷ xs) ys h =
    let first = read_line calls v line in
    elim (cases_Bool (is_bad first.read)) [
      | inl bad ↦ found_bad calls v line (xs ++ ys) bad ∙ sym (found_bad calls v line xs bad)
      | inr good ↦ (let one = found_more calls v line xs good in
          let both : has_bad (first.read ∷ (lines_found calls first.engine xs).reads) ≡ true = sym (ap (λ (f : LinesFound V). has_bad f.reads) one) ∙ h in
          let rest : has_bad (lines_found calls first.engine xs).reads ≡ true = (rw good at both) in
          found_more calls v line (xs ++ ys) good ∙ ap (λ f. with_read first.read f) (found_stays calls first.engine xs ys rest) ∙ sym one)
    ]

pub has_bad_both : (a b : List VectorRead) → has_bad (a ++ b) ≡ (has_bad a || has_bad b)
has_bad_both a b = list_any-append is_bad a b

-- behind reads of which none is bad
pub has_bad_behind : (a b : List VectorRead) → has_bad a ≡ false → has_bad (a ++ b) ≡ has_bad b
has_bad_behind a b none = has_bad_both a b ∙ rw none refl
