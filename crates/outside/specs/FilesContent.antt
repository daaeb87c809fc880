use Rattle.std.specs.Prelude.{◌≡◌, ◌<◌, ◌++◌, ℕ, Bool, List, Option, Some, option_map, find, bytes_eq, length}
use Rattle.std.specs.List.{before_first, after_first}
use Rattle.outside.specs.declared.traits.Sample.{Sample}

-- files by name with their bytes, and noise sources by name with their events
pub record FilesContent : Type 0 where
  pub files : List (List ℕ × List ℕ)
  pub noises : List (List ℕ × List Sample)

-- an entry has this name
abbrev pub has_name : {A : Type 0} → List ℕ → List ℕ × A → Bool
has_name name entry = bytes_eq entry.0 name

-- what stands first under a name
abbrev pub first_named : {A : Type 0} → List ℕ → List (List ℕ × A) → Option A
first_named name entries = option_map (λ entry. entry.1) (find (has_name name) entries)

-- the entries without the first of that name
abbrev pub without_first : {A : Type 0} → List ℕ → List (List ℕ × A) → List (List ℕ × A)
without_first name entries = before_first (has_name name) entries ++ after_first (has_name name) entries

-- the file of this name has these bytes
abbrev pub HasFile : FilesContent → List ℕ → List ℕ → Type 0
HasFile content name bytes = first_named name content.files ≡ Some bytes

-- the file of this name has more bytes than so many
abbrev pub HasFileAbove : FilesContent → List ℕ → ℕ → Type 0
HasFileAbove content name limit = (bytes : List ℕ) × HasFile content name bytes × (limit < length bytes)

-- the first events of this name were handed over, and went out of the content
abbrev pub HandsOver : FilesContent → List ℕ → Option (List Sample) → Option FilesContent → Type 0
HandsOver before name events now = (first : List Sample) × (first_named name before.noises ≡ Some first) × (events ≡ Some first)
    × (now ≡ Some (record before { noises = without_first name before.noises }))
