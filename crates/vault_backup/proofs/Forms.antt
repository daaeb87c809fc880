-- The form of a backup, and its parts.
use Rattle.std.proofs.Common.{◌≡◌, ◌≢◌, ◌≤◌, ◌<◌, ◌+◌, ◌-◌, ◌++◌, ℕ, List, [], ◌∷◌, length, take, drop, get_or, refl, sym, ◌∙◌, ap, subst, arith, IsTrue, length-append, length-drop}
use Rattle.std.specs.Prelude.{nat_eq}
use Rattle.std.specs.List.{flat_map}
use Rattle.std.proofs.lemmas.Bool.Decides.{nat_tests}
use Rattle.std.proofs.lemmas.List.{take_at, drop_at, drop_all, drop-drop, take-append-drop}
use Rattle.vault_backup.specs.declared.limits.TheConstants.{MAGIC}
use Rattle.vault_backup.specs.declared.record.Record.{Record}
use Rattle.vault_backup.specs.BackupForm.{KeptSlot, IsKeptSlot, AreRising, AreRecords, record_bytes, signed_bytes, IsBackupWith, HasForm}
use Rattle.vault_backup.specs.Reading.{kept_in, after_record, Reads, AreRecordsFrom, HasRecordsFrom}
use Rattle.vault_backup.proofs.Records.{one_record}

no_records : (least m : ℕ) (rest : List ℕ) → 1 ≤ m → (records : List KeptSlot) → AreRecordsFrom least m rest records
    → ((kept : KeptSlot) (after : List ℕ) → IsKeptSlot kept → rest ≢ record_bytes kept ++ after) → ⊥
no_records least m rest some [] h none = omega (arith, some, h.counted)
no_records least m rest some (kept ∷ more) h none = none kept (flat_map record_bytes more) h.each.0 h.encoded

-- where no record stands at the front of the bytes, they are no records
pub none_from : (least m : ℕ) (rest : List ℕ) → 1 ≤ m → ((kept : KeptSlot) (after : List ℕ) → IsKeptSlot kept → rest ≢ record_bytes kept ++ after)
    → ¬ (HasRecordsFrom least m rest)
none_from least m rest some none h = no_records least m rest some h.0 h.1 none

low_record : (least m : ℕ) (rest : List ℕ) (head : Record) → 1 ≤ m → Reads head rest → head.slot < least → (records : List KeptSlot)
    → AreRecordsFrom least m rest records → ⊥
low_record least m rest head some reads low [] h = omega (arith, some, h.counted)
low_record least m rest head some reads low (kept ∷ more) h =
    let same = one_record kept (kept_in head rest) (flat_map record_bytes more) (after_record head rest) h.each.0 reads.kept (sym h.encoded ∙ reads.encoded) in
    let slot : kept.slot ≡ head.slot = ap (λ (k : KeptSlot). k.slot) same.0 in
    omega (arith, slot, low, h.rising.0)

-- where the record there has too low a number, neither
pub low_from : (least m : ℕ) (rest : List ℕ) (head : Record) → 1 ≤ m → Reads head rest → head.slot < least → ¬ (HasRecordsFrom least m rest)
low_from least m rest head some reads low h = low_record least m rest head some reads low h.0 h.1

later_records : (least m n : ℕ) (rest : List ℕ) (head : Record) → m ≡ n + 1 → Reads head rest → (records : List KeptSlot)
    → AreRecordsFrom least m rest records → HasRecordsFrom (head.slot + 1) n (after_record head rest)
later_records least m n rest head one reads [] h = absurd (omega (arith, one, h.counted))
later_records least m n rest head one reads (kept ∷ more) h =
    let same = one_record kept (kept_in head rest) (flat_map record_bytes more) (after_record head rest) h.each.0 reads.kept (sym h.encoded ∙ reads.encoded) in (
      more,
      record {
        encoded = sym same.1;
        rising = subst (λ (k : KeptSlot). AreRising (k.slot + 1) more) same.0 h.rising.1;
        each = h.each.1;
        counted = omega (arith, one, h.counted);
      },
    )

earlier_records : (least m n : ℕ) (rest : List ℕ) (head : Record) → m ≡ n + 1 → least ≤ head.slot → Reads head rest
    → HasRecordsFrom (head.slot + 1) n (after_record head rest) → HasRecordsFrom least m rest
earlier_records least m n rest head one low reads h = (
  kept_in head rest ∷ h.0,
  record {
    encoded = reads.encoded ∙ ap (λ xs. record_bytes (kept_in head rest) ++ xs) h.1.encoded;
    rising = (low, h.1.rising);
    each = (reads.kept, h.1.each);
    counted = omega (arith, one, h.1.counted);
  },
)

-- the bytes are records where those after the first one are
pub step_from : (least m n : ℕ) (rest : List ℕ) (head : Record) → m ≡ n + 1 → least ≤ head.slot → Reads head rest
    → (HasRecordsFrom least m rest → HasRecordsFrom (head.slot + 1) n (after_record head rest))
    × (HasRecordsFrom (head.slot + 1) n (after_record head rest) → HasRecordsFrom least m rest)
step_from least m n rest head one low reads =
    (λ h. later_records least m n rest head one reads h.0 h.1, earlier_records least m n rest head one low reads)

no_bytes : (least m : ℕ) (rest : List ℕ) → m ≡ 0 → (records : List KeptSlot) → AreRecordsFrom least m rest records → rest ≡ []
no_bytes least m rest none [] h = h.encoded
no_bytes least m rest none (kept ∷ more) h = absurd (omega (arith, none, h.counted))

-- no records are no bytes
pub end_from : (least m at : ℕ) (bytes : List ℕ) → m ≡ 0 → at ≤ length bytes
    → (IsTrue (nat_eq at (length bytes)) → HasRecordsFrom least m (drop at bytes))
    × (HasRecordsFrom least m (drop at bytes) → IsTrue (nat_eq at (length bytes)))
end_from least m at bytes none within = (
  λ all.
      let past : length bytes ≤ at = grind (arith, nat_tests) in
      ([], record { encoded = drop_all at bytes past; rising = tt; each = tt; counted = sym none }),
  λ h.
      let left : length (drop at bytes) ≡ 0 = ap length (no_bytes least m (drop at bytes) none h.0 h.1) in
      let past : length bytes ≡ at = omega (arith, left, length-drop at bytes) in
      grind (arith, nat_tests, past),
)

-- the parts of a backup, and where they stand in its bytes
pub record HasParts (bytes : List ℕ) (records : List KeptSlot) (tag : List ℕ) : Type 0 where
  pub least : 37 ≤ length bytes
  pub front : take 4 bytes ≡ MAGIC
  pub count : get_or bytes 4 0 ≡ length records
  pub middle : take (length bytes - 37) (drop 5 bytes) ≡ flat_map record_bytes records
  pub signed : take (length bytes - 32) bytes ≡ signed_bytes records
  pub end : drop (length bytes - 32) bytes ≡ tag

parts_of : (bytes : List ℕ) (records : List KeptSlot) (tag : List ℕ) → bytes ≡ signed_bytes records ++ tag → length tag ≡ 32 → HasParts bytes records tag
parts_of bytes records tag whole long =
    let body : List ℕ = flat_map record_bytes records in
    let all : length bytes ≡ 5 + length body + 32 = ap length whole ∙ omega (arith, length-append body tag, long) in
    let behind : drop 5 bytes ≡ body ++ tag = ap (λ xs. drop 5 xs) whole in
    record {
      least = omega (arith, all);
      front = ap (λ xs. take 4 xs) whole;
      count = ap (λ xs. get_or xs 4 0) whole;
      middle = ap (λ xs. take (length bytes - 37) xs) behind ∙ take_at body tag (length bytes - 37) (omega (arith, all));
      signed = ap (λ xs. take (length bytes - 32) xs) whole ∙ take_at (signed_bytes records) tag (length bytes - 32) (omega (arith, all));
      end = ap (λ xs. drop (length bytes - 32) xs) whole ∙ drop_at (signed_bytes records) tag (length bytes - 32) (omega (arith, all));
    }

pub parts_with : (bytes : List ℕ) (records : List KeptSlot) (tag : List ℕ) → IsBackupWith bytes records tag → HasParts bytes records tag
parts_with bytes records tag h = parts_of bytes records tag h.whole h.tag_long

five : (bytes : List ℕ) → 5 ≤ length bytes → bytes ≡ take 4 bytes ++ get_or bytes 4 0 ∷ drop 5 bytes
five [] k = absurd (omega arith)
five (a ∷ []) k = absurd (omega arith)
five (a ∷ b ∷ []) k = absurd (omega arith)
five (a ∷ b ∷ c ∷ []) k = absurd (omega arith)
five (a ∷ b ∷ c ∷ d ∷ []) k = absurd (omega arith)
five (a ∷ b ∷ c ∷ d ∷ e ∷ rest) k = refl

-- where the front is right, and the records are what stands in the middle, the bytes are of the form
pub with_parts : (bytes : List ℕ) → 37 ≤ length bytes → take 4 bytes ≡ MAGIC → (records : List KeptSlot)
    → AreRecordsFrom 0 (get_or bytes 4 0) (take (length bytes - 37) (drop 5 bytes)) records
    → IsBackupWith bytes records (drop (length bytes - 32) bytes)
with_parts bytes least front records h =
    let n : ℕ = length bytes - 37 in
    let behind : List ℕ = drop 5 bytes in
    let tag : List ℕ = drop (length bytes - 32) bytes in
    let number : 5 + n ≡ length bytes - 32 = omega arith in
    let end : drop n behind ≡ tag = drop-drop n 5 bytes ∙ ap (λ k. drop k bytes) number in
    let cut : behind ≡ flat_map record_bytes records ++ tag =
    sym (take-append-drop n behind) ∙ ap (λ xs. take n behind ++ xs) end ∙ ap (λ xs. xs ++ tag) h.encoded in
    record {
      whole =
          five bytes (omega arith)
          ∙ ap (λ xs. xs ++ get_or bytes 4 0 ∷ behind) front
          ∙ ap (λ k. MAGIC ++ k ∷ behind) (sym h.counted)
          ∙ ap (λ xs. MAGIC ++ length records ∷ xs) cut;
      tag_long = length-drop (length bytes - 32) bytes ∙ omega arith;
      rising = h.rising;
      each = h.each;
    }

-- and the other way round
pub are_counted : (bytes : List ℕ) → HasForm bytes → HasRecordsFrom 0 (get_or bytes 4 0) (take (length bytes - 37) (drop 5 bytes))
are_counted bytes h =
    let parts = parts_with bytes h.0 h.1 h.2 in
    (h.0, record { encoded = parts.middle; rising = h.2.rising; each = h.2.each; counted = sym parts.count })

-- what stands in the middle are the records
pub middle_records : (bytes : List ℕ) (records : List KeptSlot) (tag : List ℕ) → IsBackupWith bytes records tag
    → AreRecords (take (length bytes - 37) (drop 5 bytes)) records
middle_records bytes records tag h = record { encoded = (parts_with bytes records tag h).middle; rising = h.rising; each = h.each }
