-- How a record is read from the front of bytes.
use Rattle.std.specs.Prelude.{◌≡◌, ℕ, ◌+◌, ◌&&◌, nat_le, nat_lt, Option, Some, None, List, [], ◌∷◌, ◌++◌, length, take, drop, slice_index, true, if◌then◌else◌, ◌≤◌, ◌<◌, ◌^◌, IsTrue}
use Rattle.std.specs.Int.{from_be_bytes, w32}
use Rattle.std.specs.List.{flat_map, AllByRecursion}
use Rattle.bits_core.specs.declared.parameter.Kind.{Kind}
use Rattle.bits_core.specs.declared.parameter.Domain.{Domain}
use Rattle.bits_core.specs.Parameters.{kind_number, domain_number, length_fits}
use Rattle.vault_backup.specs.declared.record.Record.{Record}
use Rattle.vault_backup.specs.BackupForm.{KeptSlot, IsKeptSlot, AreRising, record_bytes, wrapped_length}

-- the number in the four bytes from a place on
abbrev pub number_at : List ℕ → ℕ → ℕ
number_at bytes place =
    from_be_bytes w32 (slice_index bytes place ∷ slice_index bytes (place + 1) ∷ slice_index bytes (place + 2) ∷ slice_index bytes (place + 3) ∷ [])

-- a record of known kind and domain: a slot below 16, at least one use, and a length that fits
abbrev pub record_with : ℕ → Option Kind → Option Domain → ℕ → ℕ → Option Record
record_with slot (Some kind) (Some domain) uses size =
    if nat_lt slot 16 && (nat_le 1 uses && length_fits kind domain size)
    then Some (record { slot = slot; header = record { kind = kind; domain = domain; export = true; uses = uses }; length = size })
    else None
record_with slot None domain uses size = None
record_with slot (Some kind) None uses size = None

-- the record has these fields
pub record Tells (head : Record) (slot kind domain uses size : ℕ) : Type 0 where
  pub slot_is : head.slot ≡ slot
  pub kind_is : kind_number head.header.kind ≡ kind
  pub domain_is : domain_number head.header.domain ≡ domain
  pub export_is : head.header.export ≡ true
  pub uses_is : head.header.uses ≡ uses
  pub size_is : head.length ≡ size
  pub below : slot < 16
  pub some_use : 1 ≤ uses
  pub uses_fit : uses < 2 ^ 32
  pub fits : IsTrue (length_fits head.header.kind head.header.domain size)

-- the slot that a record tells, with what is wrapped in the bytes at whose front it stands
abbrev pub kept_in : Record → List ℕ → KeptSlot
kept_in head bytes = record {
  slot = head.slot;
  kind = head.header.kind;
  domain = head.header.domain;
  uses = head.header.uses;
  size = head.length;
  wrapped = take (wrapped_length head.length) (drop 8 bytes);
}

-- what follows the record
abbrev pub after_record : Record → List ℕ → List ℕ
after_record head bytes = drop (8 + wrapped_length head.length) bytes

-- the record stands at the front of the bytes
pub record Reads (head : Record) (bytes : List ℕ) : Type 0 where
  pub encoded : bytes ≡ record_bytes (kept_in head bytes) ++ after_record head bytes
  pub kept : IsKeptSlot (kept_in head bytes)
  pub export : head.header.export ≡ true

-- some record stands at the front of the bytes
abbrev pub StandsIn : List ℕ → Type 0
StandsIn bytes = (kept : KeptSlot) × (after : List ℕ) × IsKeptSlot kept × (bytes ≡ record_bytes kept ++ after)

-- the bytes are so many records whose numbers rise, from `least` on
pub record AreRecordsFrom (least count : ℕ) (bytes : List ℕ) (records : List KeptSlot) : Type 0 where
  pub encoded : bytes ≡ flat_map record_bytes records
  pub rising : AreRising least records
  pub each : AllByRecursion IsKeptSlot records
  pub counted : length records ≡ count

abbrev pub HasRecordsFrom : ℕ → ℕ → List ℕ → Type 0
HasRecordsFrom least count bytes = (records : List KeptSlot) × AreRecordsFrom least count bytes records
