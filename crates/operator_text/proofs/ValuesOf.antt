-- What the words of a line spell, word by word.
use Rattle.std.proofs.Common.{◌≡◌, ◌+◌, ◌<◌, ◌≤◌, ◌^◌, ℕ, zero, suc, List, [], ◌∷◌, length, get_or, Option, Some, None, slice_get, refl, sym, ap, ◌∙◌, arith, lit<, subst}
use Rattle.std.specs.Int.{to_be_bytes, w32}
use Rattle.std.specs.Fmt.{decimal}
use Rattle.std.proofs.lemmas.Fmt.{decimal_injective}
use Rattle.line_words.specs.Numbers.{IsNumberWord}
use Rattle.operator_text.specs.declared.forms.WordType.{WordType}
use Rattle.operator_text.specs.declared.forms.WordType.TheVariants as word
use Rattle.operator_text.specs.WordValues.{IsWord, AreWords, IsNameWord}
use Rattle.operator_text.proofs.NameTables.{one_number}

-- a word spells one number
one_numeral : (most a b : ℕ) (text : List ℕ) → most < 2 ^ 64 → IsNumberWord most text a → IsNumberWord most text b → a ≡ b
one_numeral most a b text h one other = decimal_injective a b (omega (arith, one.1)) (omega (arith, other.1)) (sym one.0 ∙ other.0)

one_name : (type : WordType) (text a b : List ℕ) → IsNameWord type text a → IsNameWord type text b → a ≡ b
one_name type text a b one other =
    one.encoded ∙ ap (λ n. n ∷ []) (one_number type text one.number other.number one.spelled other.spelled) ∙ sym other.encoded

-- a word spells one value
pub one_value : (type : WordType) (text a b : List ℕ) → IsWord type text a → IsWord type text b → a ≡ b
one_value word.Byte text a b one other =
    one.encoded ∙ ap (λ n. n ∷ []) (one_numeral 255 one.number other.number text (lit< tt) one.spelled other.spelled) ∙ sym other.encoded
one_value word.Quad text a b one other =
    one.encoded ∙ ap (to_be_bytes w32) (one_numeral 4294967295 one.number other.number text (lit< tt) one.spelled other.spelled) ∙ sym other.encoded
one_value word.Role text a b one other = one_name word.Role text a b one other
one_value word.Kind text a b one other = one_name word.Kind text a b one other
one_value word.Domain text a b one other = one_name word.Domain text a b one other
one_value word.Export text a b one other = one_name word.Export text a b one other
one_value word.Alg text a b one other = one_name word.Alg text a b one other
one_value word.Bytes text a b one other = let same = sym one ∙ other in cc same
one_value word.ShortBytes text a b one other = let same = sym one.spelled ∙ other.spelled in cc same

pub one_list : (types : List WordType) (texts a b : List (List ℕ)) → AreWords types texts a → AreWords types texts b → a ≡ b
one_list [] [] [] [] one other = refl
one_list [] [] [] (y ∷ b) one other = absurd other
one_list [] [] (x ∷ a) b one other = absurd one
one_list [] (text ∷ texts) a b one other = absurd one
one_list (type ∷ types) [] a b one other = absurd one
one_list (type ∷ types) (text ∷ texts) [] b one other = absurd one
one_list (type ∷ types) (text ∷ texts) (x ∷ a) [] one other = absurd other
one_list (type ∷ types) (text ∷ texts) (x ∷ a) (y ∷ b) one other =
    let head = one_value type text x y one.0 other.0 in
    let tail = one_list types texts a b one.1 other.1 in cc (head, tail)

-- the value at a place is that of the word there
pub value_there : (types : List WordType) (texts values : List (List ℕ)) (place : ℕ) (type : WordType) (text : List ℕ) → AreWords types texts values
    → slice_get types place ≡ Some type → slice_get texts place ≡ Some text → IsWord type text (get_or values place [])
value_there [] [] values place type text h t w = cc t
value_there [] (x ∷ texts) values place type text h t w = cc t
value_there (k ∷ types) [] values place type text h t w = cc w
value_there (k ∷ types) (x ∷ texts) [] place type text h t w = absurd h
value_there (k ∷ types) (x ∷ texts) (v ∷ values) zero type text h t w =
    let same_type : k ≡ type = cc t in
    let same_text : x ≡ text = cc w in
    subst (λ (a : WordType). IsWord a text v) same_type (subst (λ (b : List ℕ). IsWord k b v) same_text h.0)
value_there (k ∷ types) (x ∷ texts) (v ∷ values) (suc place) type text h t w = value_there types texts values place type text h.1 t w

-- past the words there is none
pub no_value_type : (types : List WordType) (texts values : List (List ℕ)) (place : ℕ) → AreWords types texts values → slice_get types place ≡ None
    → get_or values place [] ≡ []
no_value_type [] [] [] place h t = refl
no_value_type [] [] (v ∷ values) place h t = absurd h
no_value_type [] (x ∷ texts) values place h t = absurd h
no_value_type (k ∷ types) [] values place h t = absurd h
no_value_type (k ∷ types) (x ∷ texts) [] place h t = absurd h
no_value_type (k ∷ types) (x ∷ texts) (v ∷ values) zero h t = cc t
no_value_type (k ∷ types) (x ∷ texts) (v ∷ values) (suc place) h t = no_value_type types texts values place h.1 t

pub no_value_text : (types : List WordType) (texts values : List (List ℕ)) (place : ℕ) → AreWords types texts values → slice_get texts place ≡ None
    → get_or values place [] ≡ []
no_value_text [] [] [] place h t = refl
no_value_text [] [] (v ∷ values) place h t = absurd h
no_value_text [] (x ∷ texts) values place h t = absurd h
no_value_text (k ∷ types) [] values place h t = absurd h
no_value_text (k ∷ types) (x ∷ texts) [] place h t = absurd h
no_value_text (k ∷ types) (x ∷ texts) (v ∷ values) zero h t = cc t
no_value_text (k ∷ types) (x ∷ texts) (v ∷ values) (suc place) h t = no_value_text types texts values place h.1 t
