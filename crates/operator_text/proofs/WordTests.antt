-- What a number or a name that was read says of its word.
use Rattle.std.proofs.Common.{◌≡◌, ◌↔◌, ℕ, List, [], ◌∷◌, Some, refl}
use Rattle.std.specs.Int.{to_be_bytes, w32}
use Rattle.line_words.specs.Numbers.{IsNumberWord}
use Rattle.operator_text.specs.declared.forms.WordType.{WordType}
use Rattle.operator_text.specs.declared.forms.WordType.TheVariants as word
use Rattle.operator_text.specs.Names.{IsNameOf}
use Rattle.operator_text.specs.WordValues.{IsWord, IsNameWord}

pub byte_read : (text : List ℕ) (n : ℕ) → ((number : ℕ) → (Some n ≡ Some number) ↔ IsNumberWord 255 text number) → (value : List ℕ) × IsWord word.Byte text value
byte_read text n h = (n ∷ [], record { number = n; spelled = (h n).0 refl; encoded = refl })

pub quad_read : (text : List ℕ) (n : ℕ) → ((number : ℕ) → (Some n ≡ Some number) ↔ IsNumberWord 4294967295 text number) → (value : List ℕ) × IsWord word.Quad text value
quad_read text n h = (to_be_bytes w32 n, record { number = n; spelled = (h n).0 refl; encoded = refl })

pub name_read : (type : WordType) (text : List ℕ) (n : ℕ) → IsNameOf type text n → (value : List ℕ) × IsNameWord type text value
name_read type text n h = (n ∷ [], record { number = n; spelled = h; encoded = refl })
