-- What the words of a line spell: the bytes that each of them puts into a body.
use Rattle.std.specs.Prelude.{ℕ, ◌≡◌, ◌≤◌, List, [], ◌∷◌, length, Some}
use Rattle.std.specs.Int.{to_be_bytes, w32}
use Rattle.line_words.specs.Bytes.{bytes_of}
use Rattle.line_words.specs.Numbers.{IsNumberWord}
use Rattle.operator_text.specs.declared.forms.WordType.{WordType}
use Rattle.operator_text.specs.declared.forms.WordType.TheVariants as word
use Rattle.operator_text.specs.Names.{IsNameOf}

-- the text spells the value as a decimal number, in one byte
pub record IsByteWord (text : List ℕ) (value : List ℕ) : Type 0 where
  pub number : ℕ
  pub spelled : IsNumberWord 255 text number
  pub encoded : value ≡ number ∷ []

-- the text spells the value as a decimal number, in four bytes
pub record IsQuadWord (text : List ℕ) (value : List ℕ) : Type 0 where
  pub number : ℕ
  pub spelled : IsNumberWord 4294967295 text number
  pub encoded : value ≡ to_be_bytes w32 number

-- the text is a name of the type, and the value its number
pub record IsNameWord (type : WordType) (text : List ℕ) (value : List ℕ) : Type 0 where
  pub number : ℕ
  pub spelled : IsNameOf type text number
  pub encoded : value ≡ number ∷ []

-- the text spells so many bytes at most
pub record IsShortWord (text : List ℕ) (value : List ℕ) : Type 0 where
  pub spelled : bytes_of text ≡ Some value
  pub within : length value ≤ 255

-- the text is a word of the type, and spells the value
abbrev pub IsWord : WordType → List ℕ → List ℕ → Type 0
IsWord word.Byte text value = IsByteWord text value
IsWord word.Quad text value = IsQuadWord text value
IsWord word.Role text value = IsNameWord word.Role text value
IsWord word.Kind text value = IsNameWord word.Kind text value
IsWord word.Domain text value = IsNameWord word.Domain text value
IsWord word.Export text value = IsNameWord word.Export text value
IsWord word.Alg text value = IsNameWord word.Alg text value
IsWord word.Bytes text value = bytes_of text ≡ Some value
IsWord word.ShortBytes text value = IsShortWord text value

-- each text is a word of its type, and spells its value; there are as many of each
abbrev pub AreWords : List WordType → List (List ℕ) → List (List ℕ) → Type 0
AreWords [] [] [] = Unit {0}
AreWords [] [] (value ∷ values) = ⊥
AreWords [] (text ∷ texts) values = ⊥
AreWords (type ∷ types) [] values = ⊥
AreWords (type ∷ types) (text ∷ texts) [] = ⊥
AreWords (type ∷ types) (text ∷ texts) (value ∷ values) = IsWord type text value × AreWords types texts values
