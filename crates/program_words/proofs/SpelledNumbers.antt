-- The numbers that words spell.
use Rattle.std.proofs.Common.{◌≡◌, ◌≤◌, ◌<◌, ◌^◌, ℕ, Bool, true, false, List, Option, Some, None, bytes_eq, if◌then◌else◌, refl, sym, ap, ◌∙◌, subst, arith}
use Rattle.std.specs.Prelude.{◌↔◌, nat_le, IfSome}
use Rattle.std.specs.Fmt.{decimal}
use Rattle.std.specs.Str.Parse.{digits_value}
use Rattle.std.proofs.lemmas.Fmt.{decimal_is_IsNumeral}
use Rattle.std.proofs.lemmas.Bool.{leb-true, le-leb}
use Rattle.std.proofs.lemmas.Slice.Eq.{bytes_eq-Decides}
use Rattle.line_words.specs.Numbers.{IsNumberWord}
use Rattle.program_words.specs.Forms.{spelled_number}

-- what the tests choose
abbrev chosen : Bool → Bool → ℕ → Option ℕ
chosen spelled within value = if spelled then (if within then Some value else None) else None

-- a number that is found is the word's, and where none is found there is none
pub number_spelled : (most : ℕ) (word : List ℕ) (found : Option ℕ) → most < 2 ^ 64 → ((number : ℕ) → (found ≡ Some number) ↔ IsNumberWord most word number) → found ≡ spelled_number most word
number_spelled most word (Some number) below finds =
    let is : IsNumberWord most word number = (finds number).0 refl in
    let value : digits_value 10 word ≡ number = ap (λ w. digits_value 10 w) is.0 ∙ (decimal_is_IsNumeral number (omega (arith, is.1, below))).1 in
    let same : word ≡ decimal (digits_value 10 word) = is.0 ∙ ap decimal (sym value) in
    let within : nat_le (digits_value 10 word) most ≡ true = le-leb (digits_value 10 word) most (omega (arith, value, is.1)) in
    let spelled : bytes_eq word (decimal (digits_value 10 word)) ≡ true = (bytes_eq-Decides word (decimal (digits_value 10 word))).1 same in
    sym (ap (λ test. chosen test (nat_le (digits_value 10 word) most) (digits_value 10 word)) spelled ∙ ap (λ test. chosen true test (digits_value 10 word)) within ∙ ap Some value)
number_spelled most word None below finds = by (bytes_eq word (decimal (digits_value 10 word))) (nat_le (digits_value 10 word) most) refl refl
  where
    by : (spelled within : Bool) → bytes_eq word (decimal (digits_value 10 word)) ≡ spelled → nat_le (digits_value 10 word) most ≡ within → None ≡ spelled_number most word
    by false within is small = sym (ap (λ test. chosen test (nat_le (digits_value 10 word) most) (digits_value 10 word)) is)
    by true false is small =
        sym (ap (λ test. chosen test (nat_le (digits_value 10 word) most) (digits_value 10 word)) is ∙ ap (λ test. chosen true test (digits_value 10 word)) small)
    by true true is small =
        let found : None ≡ Some (digits_value 10 word) = (finds (digits_value 10 word)).1 ((bytes_eq-Decides word (decimal (digits_value 10 word))).0 is, leb-true (digits_value 10 word) most small) in
        cc found

-- a number that is found isn't above the most
pub number_within : (most : ℕ) (word : List ℕ) (found : Option ℕ) → ((number : ℕ) → (found ≡ Some number) ↔ IsNumberWord most word number) → IfSome found (λ number. number ≤ most)
number_within most word None finds = tt
number_within most word (Some number) finds = ((finds number).0 refl).1
