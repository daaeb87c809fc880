-- The form of a backup: a form of this project's own. What is wrapped is wrapped as SP 800-38F, 6.3 says, and the tag is an HMAC
-- (FIPS 198-1).
use Rattle.std.specs.Prelude.{◌≡◌, ◌≤◌, ◌<◌, ℕ, ◌+◌, ◌*◌, ◌/◌, ◌^◌, ⊤, List, [], ◌∷◌, ◌++◌, length, IsTrue, true}
use Rattle.std.specs.List.{flat_map, AllByRecursion}
use Rattle.std.specs.Int.{to_be_bytes, w32}
use Rattle.bits_core.specs.declared.parameter.Header.{Header}
use Rattle.bits_core.specs.declared.parameter.Kind.{Kind}
use Rattle.bits_core.specs.declared.parameter.Domain.{Domain}
use Rattle.bits_core.specs.declared.algorithm.Alg.TheVariants.{Sha256}
use Rattle.bits_core.specs.Parameters.{kind_number, domain_number, length_fits}
use Rattle.hmac_core.specs.Hmac.{hmac}
use Rattle.vault_backup.specs.declared.limits.TheConstants.{MAGIC}

-- a slot as a backup has it: its number, what its parameter is for, the uses that are left, and the parameter's length and wrapping
pub record KeptSlot : Type 0 where
  pub slot : ℕ
  pub kind : Kind
  pub domain : Domain
  pub uses : ℕ
  pub size : ℕ
  pub wrapped : List ℕ

-- what the slot tells of its parameter besides the bytes: it may leave
abbrev pub header_of : KeptSlot → Header
header_of kept = record { kind = kept.kind; domain = kept.domain; export = true; uses = kept.uses }

-- slot, kind and domain in a byte each, uses in four bytes, length in a byte, and the wrapping
abbrev pub record_bytes : KeptSlot → List ℕ
record_bytes kept =
    kept.slot ∷ kind_number kept.kind ∷ domain_number kept.domain ∷ (to_be_bytes w32 kept.uses ++ kept.size ∷ kept.wrapped)

-- eight bytes, and as many groups of eight as so many bytes begin
abbrev pub wrapped_length : ℕ → ℕ
wrapped_length size = 8 * ((size + 7) / 8) + 8

-- a slot may stand so in a backup
pub record IsKeptSlot (kept : KeptSlot) : Type 0 where
  pub below : kept.slot < 16
  pub some_use : 1 ≤ kept.uses
  pub uses_fit : kept.uses < 2 ^ 32
  pub fits : IsTrue (length_fits kept.kind kept.domain kept.size)
  pub long : length kept.wrapped ≡ wrapped_length kept.size

-- the slots' numbers rise, from `least` on
abbrev pub AreRising : ℕ → List KeptSlot → Type 0
AreRising least [] = ⊤
AreRising least (kept ∷ more) = (least ≤ kept.slot) × AreRising (kept.slot + 1) more

-- the bytes are the records of these slots, whose numbers rise; so there are at most sixteen
pub record AreRecords (bytes : List ℕ) (records : List KeptSlot) : Type 0 where
  pub encoded : bytes ≡ flat_map record_bytes records
  pub rising : AreRising 0 records
  pub each : AllByRecursion IsKeptSlot records

-- what the tag is made of: the magic bytes, the number of the records, and the records
abbrev pub signed_bytes : List KeptSlot → List ℕ
signed_bytes records = MAGIC ++ length records ∷ flat_map record_bytes records

abbrev pub tag_of : List ℕ → List KeptSlot → List ℕ
tag_of mac records = hmac Sha256 mac (signed_bytes records)

-- the bytes are of a backup's form, with these records and this tag
pub record IsBackupWith (bytes : List ℕ) (records : List KeptSlot) (tag : List ℕ) : Type 0 where
  pub whole : bytes ≡ signed_bytes records ++ tag
  pub tag_long : length tag ≡ 32
  pub rising : AreRising 0 records
  pub each : AllByRecursion IsKeptSlot records

abbrev pub HasForm : List ℕ → Type 0
HasForm bytes = (records : List KeptSlot) × (tag : List ℕ) × IsBackupWith bytes records tag
