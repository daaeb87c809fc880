-- Hex digits of bytes, one behind the other.
use Rattle.std.proofs.Common.{◌≡◌, ◌+◌, ◌*◌, ◌<◌, ◌≤◌, ◌++◌, ℕ, List, [], ◌∷◌, length, take, get_or, ap, ◌∙◌, sym, refl, append_assoc, length-append, arith}
use Rattle.std.proofs.lemmas.List.{take_more, length-take-le}
use Rattle.hex.specs.Hex.{encode_lower, encode_with, lower_digits}
use Rattle.hex.proofs.HexLemmas.{length-encode_with}

digits_both : (table first more : List ℕ) → encode_with table (first ++ more) ≡ encode_with table first ++ encode_with table more
unfolding encode_with
digits_both table [] more = refl
digits_both table (byte ∷ first) more = let e = digits_both table first more in cc

pub digits_long : (bytes : List ℕ) → length (encode_lower bytes) ≡ 2 * length bytes
digits_long bytes = length-encode_with lower_digits bytes

-- the digits of one byte more
pub digits_more : (before now bytes : List ℕ) (n : ℕ) (digits : List ℕ) → n < length bytes → now ≡ before ++ encode_lower (take n bytes)
    → digits ≡ encode_lower (get_or bytes n 0 ∷ []) → now ++ digits ≡ before ++ encode_lower (take (n + 1) bytes)
digits_more before now bytes n digits h e d =
    ap (λ (xs : List ℕ). xs ++ digits) e
    ∙ append_assoc before (encode_lower (take n bytes)) digits
    ∙ ap (λ (xs : List ℕ). before ++ xs)
    (ap (λ (xs : List ℕ). encode_lower (take n bytes) ++ xs) d
    ∙ sym (digits_both lower_digits (take n bytes) (get_or bytes n 0 ∷ []))
    ∙ ap encode_lower (sym (take_more bytes n 0 h)))

-- how long the digits so far are
pub front_long : (before now bytes : List ℕ) (n : ℕ) → n ≤ length bytes → now ≡ before ++ encode_lower (take n bytes) → length now ≡ length before + 2 * n
front_long before now bytes n h e =
    omega (arith, ap (length {A = ℕ}) e, length-append before (encode_lower (take n bytes)), digits_long (take n bytes), length-take-le n bytes h)

pub pair_long : (digits : List ℕ) (byte : ℕ) → digits ≡ encode_lower (byte ∷ []) → length digits ≡ 2
pair_long digits byte e = omega (arith, ap (length {A = ℕ}) e, digits_long (byte ∷ []))
