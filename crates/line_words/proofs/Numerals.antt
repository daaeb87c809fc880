-- Numerals without a leading zero are what is printed of their value.
use Rattle.std.proofs.Common.{◌≡◌, ◌<◌, ◌≤◌, ◌^◌, ◌*◌, ◌+◌, ◌-◌, ℕ, zero, suc, true, ◌↔◌, List, [], ◌∷◌, Some, length, get_or, take, min, sym, ap, subst, ◌∙◌, arith}
use Rattle.std.proofs.lemmas.Bool.Decides.{nat_tests}
use Rattle.std.proofs.lemmas.Fmt.{decimal-digits_value, decimal_digit, decimal_is_IsNumeral, first_decimal}
use Rattle.std.proofs.lemmas.List.Elements.{recursion_from_All, All-from_get_or}
use Rattle.std.proofs.lemmas.Str.Parse.{IsNumeralModel, numerals_by_value, tells_digits, digit_at}
use Rattle.std.proofs.lemmas.Int.Digits.{digits_value_more}
use Rattle.std.proofs.lemmas.Str.{digit_value_digit}
use Rattle.std.specs.Char.{is_ascii_digit, digit_value}
use Rattle.std.specs.Fmt.{decimal}
use Rattle.std.specs.Int.{IsInRange}
use Rattle.std.specs.List.{AllPass, AllByRecursion}
use Rattle.std.specs.Str.Parse.{AllDigits, digits_value}
use Rattle.line_words.specs.Numbers.{IsCanonical, IsNumberWord}

range : (c : ℕ) → is_ascii_digit c ≡ true → IsInRange 48 57 c
range c h = grind (arith, nat_tests)

range_test : (c : ℕ) → IsInRange 48 57 c → is_ascii_digit c ≡ true
range_test c h = grind (arith, nat_tests)

digits_by : (xs : List ℕ) → AllByRecursion (λ c. is_ascii_digit c ≡ true) xs → AllDigits 10 xs
digits_by [] h = tt
digits_by (c ∷ cs) h = tells_digits.more c cs (range c h.0) (digits_by cs h.1)

pub are_digits : (xs : List ℕ) → AllPass is_ascii_digit xs → AllDigits 10 xs
are_digits xs h = digits_by xs (recursion_from_All (λ c. is_ascii_digit c ≡ true) xs h)

all_pass : (xs : List ℕ) → AllDigits 10 xs → AllPass is_ascii_digit xs
all_pass xs h = All-from_get_or (λ c. is_ascii_digit c ≡ true) xs 0 (λ i l. range_test (get_or xs i 0) (digit_at xs i h l))

own : IsNumeralModel (AllDigits 10) (digits_value 10)
own = numerals_by_value (AllDigits 10) tells_digits

zero_alone : (n : ℕ) → n < 2 ^ 64 → get_or (decimal n) 0 0 ≡ 48 → length (decimal n) ≡ 1
zero_alone zero h e = ap (length {A = ℕ}) (decimal_digit 0 (omega arith))
zero_alone (suc n) h e = absurd (omega (arith, first_decimal (suc n) (omega arith) h, e))

canonical : (n : ℕ) → n < 2 ^ 64 → IsCanonical (decimal n)
canonical n h =
    let is = decimal_is_IsNumeral n h in
    (is.0.0, all_pass (decimal n) is.0.1, zero_alone n h)

value_is : (n : ℕ) → n < 2 ^ 64 → digits_value 10 (decimal n) ≡ n
value_is n h = (decimal_is_IsNumeral n h).1

-- a word of another form spells no number
pub no_number : (most : ℕ) (word : List ℕ) (n : ℕ) → most < 2 ^ 64 → (IsCanonical word → ⊥) → IsNumberWord most word n → ⊥
no_number most word n small not h = not (subst IsCanonical (sym h.0) (canonical n (omega (arith, h.1))))

-- nor does one with a larger value
pub too_large : (most : ℕ) (word : List ℕ) (n : ℕ) → most < 2 ^ 64 → most < digits_value 10 word → IsNumberWord most word n → ⊥
too_large most word n small large h =
    let same : digits_value 10 word ≡ n = ap (digits_value 10) h.0 ∙ value_is n (omega (arith, h.1)) in
    omega (arith, same, h.1)

-- another word spells its value
pub spells : (most : ℕ) (word : List ℕ) (n v : ℕ) → most < 2 ^ 64 → IsCanonical word → v ≡ digits_value 10 word → v ≤ most
    → (Some v ≡ Some n) ↔ IsNumberWord most word n
spells most word n v small is value fits =
    let text : decimal (digits_value 10 word) ≡ word =
    decimal-digits_value own word (are_digits word is.1) is.0 is.2 (omega (arith, value, fits)) in (
      λ e. let same : v ≡ n = cc e in (sym (ap decimal (sym same ∙ value) ∙ text), omega (arith, same, fits)),
      λ h. let number : digits_value 10 word ≡ n = ap (digits_value 10) h.0 ∙ value_is n (omega (arith, h.1)) in ap (λ (k : ℕ). Some k) (value ∙ number),
    )

least_step : (old new value digit result most : ℕ) → value ≡ min old most → new ≡ old * 10 + digit → result ≡ min most (value * 10 + digit) → result ≡ min new most
least_step old new value digit result most v n r = omega arith

-- one more digit
pub digit_step : (xs : List ℕ) (i value result most : ℕ) → i < length xs → AllPass is_ascii_digit xs → value ≡ min (digits_value 10 (take i xs)) most
    → result ≡ min most (value * 10 + (get_or xs i 0 - 48)) → result ≡ min (digits_value 10 (take (i + 1) xs)) most
digit_step xs i value result most within all v r =
    let digit : digit_value (get_or xs i 0) + 48 ≡ get_or xs i 0 = digit_value_digit (get_or xs i 0) (range (get_or xs i 0) (all i 0 within)) in
    let same : digit_value (get_or xs i 0) ≡ get_or xs i 0 - 48 = omega (arith, digit) in
    let next : digits_value 10 (take (i + 1) xs) ≡ digits_value 10 (take i xs) * 10 + (get_or xs i 0 - 48) =
    digits_value_more 10 xs i within ∙ ap (λ (d : ℕ). digits_value 10 (take i xs) * 10 + d) same in
    least_step (digits_value 10 (take i xs)) (digits_value 10 (take (i + 1) xs)) value (get_or xs i 0 - 48) result most v next r
