-- The names of numbers in lines (tables of this project's own).
use Rattle.std.specs.Prelude.{ℕ, ◌≡◌, ◌+◌, List, [], ◌∷◌, codes, slice_get, Some}
use Rattle.operator_text.specs.declared.forms.WordType.{WordType}
use Rattle.operator_text.specs.declared.forms.WordType.TheVariants as word

-- the names that a word of this type may be, in the order of their numbers
abbrev pub names : WordType → List (List ℕ)
names word.Byte = []
names word.Quad = []
names word.Role = codes "none" ∷ codes "officer" ∷ codes "user" ∷ []
names word.Kind = codes "aes" ∷ codes "kek" ∷ codes "mac" ∷ codes "kdf" ∷ []
names word.Domain = codes "other" ∷ codes "approved" ∷ []
names word.Export = codes "keep" ∷ codes "export" ∷ []
names word.Alg = codes "sha256" ∷ codes "sha384" ∷ codes "sha512" ∷ []
names word.Bytes = []
names word.ShortBytes = []

-- the number of the first name
abbrev pub first_number : WordType → ℕ
first_number word.Byte = 0
first_number word.Quad = 0
first_number word.Role = 0
first_number word.Kind = 1
first_number word.Domain = 0
first_number word.Export = 0
first_number word.Alg = 1
first_number word.Bytes = 0
first_number word.ShortBytes = 0

-- the text is the name of the number
pub record IsNameOf (type : WordType) (text : List ℕ) (number : ℕ) : Type 0 where
  pub place : ℕ
  pub named : slice_get (names type) place ≡ Some text
  pub numbered : number ≡ first_number type + place
