-- Whether the words of a line are of their types, word by word.
use Rattle.std.proofs.Common.{◌≡◌, ◌+◌, ◌-◌, ◌<◌, ◌≤◌, ◌==◌, ℕ, Bool, true, false, not, List, [], ◌∷◌, length, take, drop, get_or, Option, Some, None, IsTrue, if◌then◌else◌, refl, sym, ap, ◌∙◌, subst, arith}
use Rattle.std.specs.Option.{is_some}
use Rattle.std.specs.Borrow.{Bor}
use Rattle.std.proofs.lemmas.List.{take_all}
use Rattle.line_words.specs.Words.{words_of, words_left, with_front}
use Rattle.operator_text.specs.declared.forms.WordType.{WordType}
use Rattle.operator_text.specs.declared.forms.WordType.TheVariants as word
use Rattle.operator_text.specs.WordValues.{IsWord, AreWords}

-- the test tells whether the words are of the types
abbrev Tells : List WordType → List (List ℕ) → Bool → Type 0
Tells types words result =
    (IsTrue result → (values : List (List ℕ)) × AreWords types words values) × (((values : List (List ℕ)) × AreWords types words values) → IsTrue result)

behind_first : (type : WordType) (types : List WordType) (text : List ℕ) (left values : List (List ℕ)) → AreWords (type ∷ types) (text ∷ left) values
    → (more : List (List ℕ)) × AreWords types left more
behind_first type types text left [] h = absurd h
behind_first type types text left (v ∷ values) h = (values, h.1)

the_first : (type : WordType) (types : List WordType) (text : List ℕ) (left values : List (List ℕ)) → AreWords (type ∷ types) (text ∷ left) values
    → (value : List ℕ) × IsWord type text value
the_first type types text left [] h = absurd h
the_first type types text left (v ∷ values) h = (v, h.0)

with_first : (type : WordType) (types : List WordType) (text : List ℕ) (left : List (List ℕ)) (result : Bool) → ((value : List ℕ) × IsWord type text value)
    → Tells types left result → Tells (type ∷ types) (text ∷ left) result
with_first type types text left result first rest = (
  λ r. let tail = rest.0 r in (first.0 ∷ tail.0, (first.1, tail.1)),
  λ w. rest.1 (behind_first type types text left w.0 w.1),
)

-- the first word is of its type, so the others decide
pub more_words : (types : List WordType) (words : List (List ℕ)) (text : List ℕ) (left : List (List ℕ)) (result : Bool) → 1 ≤ length types → words ≡ text ∷ left
    → ((value : List ℕ) × IsWord (get_or types 0 word.Byte) text value) → Tells (take (length types - 1) (drop 1 types)) left result → Tells types words result
more_words [] words text left result h e first rest = absurd (omega arith)
more_words (type ∷ types) words text left result h e first rest =
    let same : take (length (type ∷ types) - 1) (drop 1 (type ∷ types)) ≡ types = take_all (length (type ∷ types) - 1) types (omega arith) in
    subst (λ (ws : List (List ℕ)). Tells (type ∷ types) ws result) (sym e)
    (with_first type types text left result first (subst (λ (ts : List WordType). Tells ts left result) same rest))

-- the first word decides against
pub first_fails : (types : List WordType) (words : List (List ℕ)) (text : List ℕ) (left : List (List ℕ)) (result : Bool) → 1 ≤ length types → words ≡ text ∷ left
    → result ≡ false → (((value : List ℕ) × IsWord (get_or types 0 word.Byte) text value) → IsTrue result) → Tells types words result
first_fails [] words text left result h e fails is = absurd (omega arith)
first_fails (type ∷ types) words text left result h e fails is =
    subst (λ (ws : List (List ℕ)). Tells (type ∷ types) ws result) (sym e)
    (λ r. let wrong : true ≡ false = sym r ∙ fails in absurd (cc wrong), λ w. is (the_first type types text left w.0 w.1))

-- a line has a word
some_words : (line : List ℕ) → words_of line ≡ [] → ⊥
unfolding words_of
some_words [] e = cc e
some_words (byte ∷ line) e = by_test (byte == 0x20) e
  where
    by_front : (words : List (List ℕ)) → with_front byte words ≡ [] → ⊥
    by_front [] q = cc q
    by_front (first ∷ more) q = cc q

    by_test : (test : Bool) → (if test then [] ∷ words_of line else with_front byte (words_of line)) ≡ [] → ⊥
    by_test true q = cc q
    by_test false q = by_front (words_of line) q

no_types : (words values : List (List ℕ)) → AreWords [] words values → words ≡ []
no_types [] values h = refl
no_types (text ∷ words) values h = absurd h

-- where no type is left, no word may be
pub empty_words : (types : List WordType) (words : Option (Bor (List ℕ))) (result : Bool) → length types < 1 → is_some words ≡ not result → Tells types (words_left words) result
empty_words [] None true h e = (λ r. ([], tt), λ w. refl)
empty_words [] None false h e = absurd (cc e)
empty_words [] (Some line) true h e = absurd (cc e)
empty_words [] (Some line) false h e = (λ r. absurd (cc r), λ w. absurd (some_words line.now (no_types (words_of line.now) w.0 w.1)))
empty_words (type ∷ types) words result h e = absurd (omega arith)
