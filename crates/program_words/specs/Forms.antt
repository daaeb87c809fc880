-- The words after the program's name (forms of this project's own).
use Rattle.std.specs.Prelude.{ℕ, nat_le, List, [], ◌∷◌, Option, Some, None, IfSome, IsSome, bytes_eq, codes, if◌then◌else◌}
use Rattle.std.specs.Option.{option_map}
use Rattle.std.specs.Fmt.{decimal}
use Rattle.std.specs.Str.Parse.{digits_value}
use Rattle.program_words.specs.declared.limits.TheConstants.{LARGEST_SEED, LARGEST_COUNT}
use Rattle.program_words.specs.declared.words.Work.{Work}
use Rattle.program_words.specs.declared.words.Work.TheVariants as work
use Rattle.program_words.specs.declared.words.FileNames.{FileNames}
use Rattle.program_words.specs.declared.words.Form.{Form}
use Rattle.program_words.specs.declared.words.Form.TheVariants as form

-- the names of the files of a work on the module
pub record NamesValue : Type 0 where
  pub image : List ℕ
  pub digest : List ℕ
  pub keys : Option (List ℕ)
  pub backup : Option (List ℕ)
  pub noise : List ℕ

-- a form of the words, with the names of its files
pub data FormValue : Type 0 where
  OnModule : (work : Work) (names : NamesValue) → FormValue
  Digest : (image : List ℕ) → FormValue
  Vectors : FormValue
  Check : FormValue

abbrev pub names_value : FileNames → NamesValue
names_value names = record {
  image = names.image.now;
  digest = names.digest.now;
  keys = option_map (λ name. name.now) names.keys;
  backup = option_map (λ name. name.now) names.backup;
  noise = names.noise.now;
}

abbrev pub form_value : Form → FormValue
form_value (form.OnModule work names) = OnModule work (names_value names)
form_value (form.Digest image) = Digest image.now
form_value form.Vectors = Vectors
form_value form.Check = Check

-- the names that each work on the module has
abbrev pub plain_names : (image digest noise : List ℕ) → NamesValue
plain_names image digest noise = record { image = image; digest = digest; keys = None; backup = None; noise = noise }

-- the number that a word spells in decimal digits, with no sign and no leading zero, where it isn't above the most
abbrev pub spelled_number : ℕ → List ℕ → Option ℕ
spelled_number most word =
    if bytes_eq word (decimal (digits_value 10 word)) then (if nat_le (digits_value 10 word) most then Some (digits_value 10 word) else None) else None

-- the session of the seed and the count, where both words spell numbers
abbrev pub session_of : Option ℕ → Option ℕ → Option Work
session_of (Some seed) (Some count) = Some (work.Session seed count)
session_of (Some seed) None = None
session_of None count = None

-- the work on commands that a word names
abbrev pub stream_work : List ℕ → Option Work
stream_work word = if bytes_eq word (codes "serve") then Some work.Serve else if bytes_eq word (codes "operate") then Some work.Operate else None

-- the work of five words
abbrev pub session_work : (word seed count : List ℕ) → Option Work
session_work word seed count =
    if bytes_eq word (codes "session") then session_of (spelled_number LARGEST_SEED seed) (spelled_number LARGEST_COUNT count) else None

-- the form of one word alone
abbrev pub single_form : List ℕ → Option FormValue
single_form word = if bytes_eq word (codes "vectors") then Some Vectors else if bytes_eq word (codes "check") then Some Check else None

-- a work on the module with files of these names
abbrev pub on_module : NamesValue → Option Work → Option FormValue
on_module names found = option_map (λ work. OnModule work names) found

-- the form of a word and the names that each work has, with the name of the keys
abbrev pub backup_form : (word keys : List ℕ) → NamesValue → Option FormValue
backup_form word keys names = if bytes_eq word (codes "backup") then Some (OnModule work.Backup (record names { keys = Some keys })) else None

-- the form of a word and the names that each work has, with two more words: the names of keys and backup, or the numbers of a session
abbrev pub six_words : (word first second : List ℕ) → NamesValue → Option FormValue
six_words word first second names =
    if bytes_eq word (codes "restore") then Some (OnModule work.Restore (record names { keys = Some first; backup = Some second }))
    else on_module names (session_work word first second)

-- The form of the words, where they have one: `serve IMAGE DIGEST NOISE`, `operate IMAGE DIGEST NOISE`, `digest IMAGE`,
-- `session SEED COUNT IMAGE DIGEST NOISE`, `backup KEYS IMAGE DIGEST NOISE`, `restore KEYS BACKUP IMAGE DIGEST NOISE`, `vectors` or `check`. Any other
-- words are a faulty command line.
abbrev pub form_of : List (List ℕ) → Option FormValue
form_of [] = None
form_of (word ∷ []) = single_form word
form_of (word ∷ image ∷ []) = if bytes_eq word (codes "digest") then Some (Digest image) else None
form_of (word ∷ image ∷ digest ∷ []) = None
form_of (word ∷ image ∷ digest ∷ noise ∷ []) = on_module (plain_names image digest noise) (stream_work word)
form_of (word ∷ keys ∷ image ∷ digest ∷ noise ∷ []) = backup_form word keys (plain_names image digest noise)
form_of (word ∷ first ∷ second ∷ image ∷ digest ∷ noise ∷ []) = six_words word first second (plain_names image digest noise)
form_of (word ∷ first ∷ second ∷ image ∷ digest ∷ noise ∷ other ∷ more) = None

-- a work has the file of the keys where it needs it
abbrev pub HasKeys : Work → NamesValue → Type 0
HasKeys work.Serve names = Unit {0}
HasKeys work.Operate names = Unit {0}
HasKeys (work.Session seed count) names = Unit {0}
HasKeys work.Backup names = IsSome names.keys
HasKeys work.Restore names = IsSome names.keys

-- a form names the files that it needs
abbrev pub HasItsFiles : FormValue → Type 0
HasItsFiles (OnModule work names) = HasKeys work names
HasItsFiles (Digest image) = Unit {0}
HasItsFiles Vectors = Unit {0}
HasItsFiles Check = Unit {0}
