-- What stands under a name stands there alone, and what follows from it.
use Rattle.std.proofs.Common.{◌≡◌, ◌≢◌, ◌≤◌, inl, inr, ℕ, List, [], Option, Some, None, sym, ◌∙◌, ap, subst, length, arith}
use Rattle.bits_core.specs.ByteList.{IsBytes}
use Rattle.outside.specs.declared.traits.Sample.{Sample}
use Rattle.outside.specs.FilesContent.{FilesContent, HasFile, HasFileAbove}
use Rattle.program_words.specs.DigestFile.{digest_of}
use Rattle.program_words.specs.Forms.{FormValue, NamesValue, OnModule, Digest, Vectors, Check}
use Rattle.backup_runs.specs.TwoKeys.{AreKeys}
use Rattle.backup_runs.specs.declared.limits.TheConstants.{KEYS_LENGTH}
use Rattle.module_top.specs.Program.{HasNoise, WithFile, WithDigest, WithKeys, WithBackup, IsRefused}
use Rattle.module_top.specs.Outcomes.{HasLongImage, HasBadDigest, HasBadKeys, HasLongBackup, HasImage, HasDigest, HasNoDigest, HasKeyFile, HasNoKeyFile}
use Rattle.module_top.specs.declared.limits.TheConstants.{LARGEST_IMAGE}
use Rattle.std.specs.Prelude.{MatchOption}

same_content : {A : Type 0} (a b : A) → Some a ≡ Some b → a ≡ b
same_content {A} a b e = ap content e
  where
    content : Option A → A
    content (Some x) = x
    content None = a

pub one_file : (files : FilesContent) (name a b : List ℕ) → HasFile files name a → HasFile files name b → a ≡ b
one_file files name a b one other = same_content a b (sym one ∙ other)

pub one_noise : (files : FilesContent) (name : List ℕ) (a b : List Sample) → HasNoise files name a → HasNoise files name b → a ≡ b
one_noise files name a b one other = same_content a b (sym one ∙ other)

-- a file that isn't longer than so many bytes is none that is
pub not_above : (limit : ℕ) (files : FilesContent) (name bytes : List ℕ) → HasFile files name bytes → length bytes ≤ limit → HasFileAbove files name limit → ⊥
not_above limit files name bytes has fits long = omega (arith, ap length (one_file files name bytes long.0 has long.1), fits, long.2)

-- an image that isn't too long is none that is
pub image_fits : (files : FilesContent) (name : List ℕ) → HasImage files name → HasFileAbove files name LARGEST_IMAGE → ⊥
image_fits files name has long = not_above LARGEST_IMAGE files name has.0 has.1 has.2 long

-- a digest file that is of its form is none that isn't
pub digest_is : (files : FilesContent) (name : List ℕ) → HasDigest files name → HasNoDigest files name → ⊥
digest_is files name has hasn't =
    let none : None ≡ Some has.2.0 = sym hasn't.2 ∙ ap digest_of (one_file files name hasn't.0 has.0 hasn't.1 has.1) ∙ has.2.1 in
    cc

-- a key file that is of two keys is none that isn't
pub keys_are : (files : FilesContent) (name : Option (List ℕ)) → HasKeyFile files name → HasNoKeyFile files name → ⊥
keys_are files None has hasn't = hasn't
keys_are files (Some name) has hasn't = hasn't.2 (ap length (one_file files name hasn't.0 has.0 hasn't.1 has.1) ∙ has.2.long)

-- where the image is too long, no other file is looked at
pub long_no_digest : (files : FilesContent) (form : FormValue) → HasLongImage files (Some form) → HasBadDigest files (Some form) → ⊥
long_no_digest files (OnModule work names) long bad = image_fits files names.image bad.0 long
long_no_digest files (Digest image) long bad = bad
long_no_digest files Vectors long bad = bad
long_no_digest files Check long bad = bad

pub long_no_keys : (files : FilesContent) (form : FormValue) → HasLongImage files (Some form) → HasBadKeys files (Some form) → ⊥
long_no_keys files (OnModule work names) long bad = image_fits files names.image bad.0 long
long_no_keys files (Digest image) long bad = bad
long_no_keys files Vectors long bad = bad
long_no_keys files Check long bad = bad

pub long_no_backup : (files : FilesContent) (form : FormValue) → HasLongImage files (Some form) → HasLongBackup files (Some form) → ⊥
long_no_backup files (OnModule work names) long bad = image_fits files names.image bad.0 long
long_no_backup files (Digest image) long bad = bad
long_no_backup files Vectors long bad = bad
long_no_backup files Check long bad = bad

-- what follows from a named file has one status and one output, where it has for each content
pub one_with_file : (limit reason : ℕ) (files : FilesContent) (name : List ℕ) (status status' : ℕ) (out out' : List ℕ) (Follows Follows' : List ℕ → Type 0)
    → ((bytes : List ℕ) → Follows bytes → Follows' bytes → (status ≡ status') × (out ≡ out'))
    → WithFile limit reason files name status out Follows → WithFile limit reason files name status' out' Follows' → (status ≡ status') × (out ≡ out')
one_with_file limit reason files name status status' out out' Follows Follows' each one other =
    elim one [
      | inl long ↦ elim other [
        | inl long' ↦ (long.1.0 ∙ sym long'.1.0, long.1.1 ∙ sym long'.1.1)
        | inr fits' ↦ absurd (not_above limit files name fits'.0 fits'.1 fits'.2 long.0)
      ]
      | inr fits ↦ elim other [
        | inl long' ↦ absurd (not_above limit files name fits.0 fits.1 fits.2 long'.0)
        | inr fits' ↦ each fits.0 fits.3 (subst Follows' (one_file files name fits'.0 fits.0 fits'.1 fits.1) fits'.3)
      ]
    ]

-- the same of a named digest file
pub one_with_digest : (files : FilesContent) (name : List ℕ) (status status' : ℕ) (out out' : List ℕ) (Follows Follows' : List ℕ → Type 0)
    → ((digest : List ℕ) → Follows digest → Follows' digest → (status ≡ status') × (out ≡ out'))
    → WithDigest files name status out Follows → WithDigest files name status' out' Follows' → (status ≡ status') × (out ≡ out')
one_with_digest files name status status' out out' Follows Follows' each one other =
    let Other : List ℕ → Type 0 = λ text. MatchOption (digest_of text) (IsRefused 11 status' out') Follows' in
    matched (digest_of one.0) one.2 (subst Other (one_file files name other.0 one.0 other.1 one.1) other.2)
  where
    matched : (found : Option (List ℕ)) → MatchOption found (IsRefused 11 status out) Follows → MatchOption found (IsRefused 11 status' out') Follows' → (status ≡ status') × (out ≡ out')
    matched None a b = (a.0 ∙ sym b.0, a.1 ∙ sym b.1)
    matched (Some digest) a b = each digest a b

-- of a key file, where one is named
pub one_with_keys : (files : FilesContent) (name : Option (List ℕ)) (status status' : ℕ) (out out' : List ℕ) (Follows Follows' : List ℕ → Type 0)
    → ((keys : List ℕ) → Follows keys → Follows' keys → (status ≡ status') × (out ≡ out'))
    → WithKeys files name status out Follows → WithKeys files name status' out' Follows' → (status ≡ status') × (out ≡ out')
one_with_keys files None status status' out out' Follows Follows' each one other = each [] one other
one_with_keys files (Some name) status status' out out' Follows Follows' each (keys, has, one) (keys', has', other) =
    let same : keys' ≡ keys = one_file files name keys' keys has' has in
    elim one [
      | inl short ↦ elim other [
        | inl short' ↦ (short.1.0 ∙ sym short'.1.0, short.1.1 ∙ sym short'.1.1)
        | inr are' ↦ absurd (short.0 (ap length (sym same) ∙ are'.0.long))
      ]
      | inr are ↦ elim other [
        | inl short' ↦ absurd (short'.0 (ap length same ∙ are.0.long))
        | inr are' ↦ each keys are.1 (subst Follows' same are'.1)
      ]
    ]

-- of a backup, where one is named
pub one_with_backup : (files : FilesContent) (name : Option (List ℕ)) (status status' : ℕ) (out out' : List ℕ) (Follows Follows' : List ℕ → Type 0)
    → ((backup : List ℕ) → Follows backup → Follows' backup → (status ≡ status') × (out ≡ out'))
    → WithBackup files name status out Follows → WithBackup files name status' out' Follows' → (status ≡ status') × (out ≡ out')
one_with_backup files None status status' out out' Follows Follows' each one other = each [] one other
one_with_backup files (Some name) status status' out out' Follows Follows' each one other = one_with_file 1317 15 files name status status' out out' Follows Follows' each one other
