-- Records that are read one after another.
use Rattle.std.proofs.Common.{◌≡◌, ◌≤◌, ◌<◌, ◌+◌, ◌-◌, ◌++◌, ℕ, List, [], ◌∷◌, length, take, drop, refl, sym, ◌∙◌, ap, subst, arith, length-append}
use Rattle.std.specs.List.{flat_map, AllByRecursion}
use Rattle.std.proofs.lemmas.List.{append-nil, append_assoc, drop-drop}
use Rattle.ssp_slots.proofs.WellFormedSlots.{length_fits-le}
use Rattle.vault_backup.specs.declared.record.Record.{Record}
use Rattle.vault_backup.specs.BackupForm.{KeptSlot, IsKeptSlot, AreRecords, record_bytes, wrapped_length}
use Rattle.vault_backup.specs.Reading.{kept_in, after_record, Reads, StandsIn}
use Rattle.vault_backup.specs.Restoring.{IsFirstWithout}
use Rattle.vault_backup.proofs.Records.{one_record, length-record}

-- of these records some were read, of which this holds, and the rest are the bytes that are left
pub record ReadsUpTo (Done : List KeptSlot → Type 0) (records : List KeptSlot) (rest : List ℕ) : Type 0 where
  pub done : List KeptSlot
  pub more : List KeptSlot
  pub parts : records ≡ done ++ more
  pub left : rest ≡ flat_map record_bytes more
  pub so_far : Done done

-- what holds of all elements of two lists holds of each of them, and the other way round
pub all_behind : (P : KeptSlot → Type 0) (xs ys : List KeptSlot) → AllByRecursion P (xs ++ ys) → AllByRecursion P ys
all_behind P [] ys h = h
all_behind P (x ∷ xs) ys h = all_behind P xs ys h.1

pub all_before : (P : KeptSlot → Type 0) (xs ys : List KeptSlot) → AllByRecursion P (xs ++ ys) → AllByRecursion P xs
all_before P [] ys h = tt
all_before P (x ∷ xs) ys h = (h.0, all_before P xs ys h.1)

pub all_both : (P : KeptSlot → Type 0) (xs ys : List KeptSlot) → AllByRecursion P xs → AllByRecursion P ys → AllByRecursion P (xs ++ ys)
all_both P [] ys h k = k
all_both P (x ∷ xs) ys h k = (h.0, all_both P xs ys h.1 k)

pub all_map : (P Q : KeptSlot → Type 0) (xs : List KeptSlot) → ((x : KeptSlot) → P x → Q x) → AllByRecursion P xs → AllByRecursion Q xs
all_map P Q [] f h = tt
all_map P Q (x ∷ xs) f h = (f x h.0, all_map P Q xs f h.1)

-- a record that stands in bytes is as long as it tells, and no longer than they are
pub reads_long : (head : Record) (bytes : List ℕ) → Reads head bytes → (8 + wrapped_length head.length ≤ length bytes) × (head.length ≤ 64)
reads_long head bytes h = (
  omega (arith, ap length h.encoded, length-append (record_bytes (kept_in head bytes)) (after_record head bytes), length-record (kept_in head bytes) h.kept),
  length_fits-le head.header.kind head.header.domain head.length h.kept.fits,
)

-- no byte was read
pub nothing_read : (Done : List KeptSlot → Type 0) (records : List KeptSlot) (bytes : List ℕ) → AreRecords bytes records → Done [] → ReadsUpTo Done records bytes
nothing_read Done records bytes h holds = record { done = []; more = records; parts = refl; left = h.encoded; so_far = holds }

stands_in : (more : List KeptSlot) (rest : List ℕ) → rest ≡ flat_map record_bytes more → AllByRecursion IsKeptSlot more → 0 < length rest → StandsIn rest
stands_in [] rest e h k = absurd (let none : length rest ≡ 0 = ap length e in omega arith)
stands_in (kept ∷ more) rest e h k = (kept, flat_map record_bytes more, h.0, e)

-- where bytes are left, a record stands in them
pub one_stands : (Done : List KeptSlot → Type 0) (records : List KeptSlot) (bytes rest : List ℕ) → AreRecords bytes records → ReadsUpTo Done records rest
    → 0 < length rest → StandsIn rest
one_stands Done records bytes rest are h some =
    stands_in h.more rest h.left (all_behind IsKeptSlot h.done h.more (subst (AllByRecursion IsKeptSlot) h.parts are.each)) some

next_is : (more : List KeptSlot) (rest : List ℕ) (head : Record) → rest ≡ flat_map record_bytes more → AllByRecursion IsKeptSlot more → Reads head rest
    → (after : List KeptSlot) × (more ≡ kept_in head rest ∷ after) × (after_record head rest ≡ flat_map record_bytes after)
next_is [] rest head e h reads =
    absurd (let none : length rest ≡ 0 = ap length e in omega (arith, none, (reads_long head rest reads).0))
next_is (kept ∷ more) rest head e h reads =
    let same = one_record kept (kept_in head rest) (flat_map record_bytes more) (after_record head rest) h.0 reads.kept (sym e ∙ reads.encoded) in
    (more, ap (λ k. k ∷ more) same.0, sym same.1)

-- the record that stands in the bytes that are left is the next one
pub next_of : (Done : List KeptSlot → Type 0) (records : List KeptSlot) (bytes rest : List ℕ) (head : Record) → AreRecords bytes records
    → (h : ReadsUpTo Done records rest) → Reads head rest
    → (after : List KeptSlot) × (records ≡ h.done ++ kept_in head rest ∷ after) × (after_record head rest ≡ flat_map record_bytes after)
next_of Done records bytes rest head are h reads =
    let next = next_is h.more rest head h.left (all_behind IsKeptSlot h.done h.more (subst (AllByRecursion IsKeptSlot) h.parts are.each)) reads in
    (next.0, h.parts ∙ ap (λ more. h.done ++ more) next.1, next.2)

-- one more record was read
pub one_read : (Done New : List KeptSlot → Type 0) (records : List KeptSlot) (bytes rest : List ℕ) (head : Record) → AreRecords bytes records
    → ReadsUpTo Done records rest → Reads head rest
    → ((done after : List KeptSlot) → records ≡ done ++ kept_in head rest ∷ after → Done done → New (done ++ kept_in head rest ∷ []))
    → ReadsUpTo New records (after_record head rest)
one_read Done New records bytes rest head are h reads step =
    let next = next_of Done records bytes rest head are h reads in
    record {
      done = h.done ++ kept_in head rest ∷ [];
      more = next.0;
      parts = next.1 ∙ sym (append_assoc h.done (kept_in head rest ∷ []) next.0);
      left = next.2;
      so_far = step h.done next.0 next.1 h.so_far;
    }

-- one more record was read, of which the same holds as of those before it
pub one_more_read : (P : KeptSlot → Type 0) (records : List KeptSlot) (bytes rest : List ℕ) (head : Record) → AreRecords bytes records
    → ReadsUpTo (AllByRecursion P) records rest → Reads head rest → P (kept_in head rest) → ReadsUpTo (AllByRecursion P) records (after_record head rest)
one_more_read P records bytes rest head are h reads holds =
    one_read (AllByRecursion P) (AllByRecursion P) records bytes rest head are h reads
    (λ done after parts so_far. all_both P done (kept_in head rest ∷ []) so_far (holds, tt))

-- the record that stands in the bytes that are left is the first of which something doesn't hold
pub first_read : (P : KeptSlot → Type 0) (records : List KeptSlot) (bytes rest : List ℕ) (head : Record) → AreRecords bytes records
    → ReadsUpTo (AllByRecursion P) records rest → Reads head rest → ¬ (P (kept_in head rest)) → IsFirstWithout P records head.slot
first_read P records bytes rest head are h reads without =
    let next = next_of (AllByRecursion P) records bytes rest head are h reads in
    record { before = h.done; first = kept_in head rest; after = next.0; parts = next.1; others = h.so_far; without = without; named = refl }

none_more : (Done : List KeptSlot → Type 0) (records done more : List KeptSlot) → records ≡ done ++ more → flat_map record_bytes more ≡ [] → Done done → Done records
none_more Done records done [] parts none holds = subst Done (sym (parts ∙ append-nil done)) holds
none_more Done records done (kept ∷ more) parts none holds = absurd (let some = ap length none in omega (arith, some))

-- where no byte is left, all were read
pub all_read : (Done : List KeptSlot → Type 0) (records : List KeptSlot) (rest : List ℕ) → ReadsUpTo Done records rest → rest ≡ [] → Done records
all_read Done records rest h none = none_more Done records h.done h.more h.parts (sym h.left ∙ none) h.so_far

-- what follows a record, and what is wrapped in it, where the record begins at a place
pub after_is : (bytes : List ℕ) (at after : ℕ) (head : Record) → after ≡ at + (8 + wrapped_length head.length)
    → after_record head (drop at bytes) ≡ drop after bytes
after_is bytes at after head e = drop-drop (8 + wrapped_length head.length) at bytes ∙ ap (λ n. drop n bytes) (sym e)

pub wrapped_is : (bytes : List ℕ) (at after : ℕ) (head : Record) → after ≡ at + (8 + wrapped_length head.length)
    → take (after - (at + 8)) (drop (at + 8) bytes) ≡ (kept_in head (drop at bytes)).wrapped
wrapped_is bytes at after head e =
    let n : after - (at + 8) ≡ wrapped_length head.length = omega (arith, e) in
    ap (λ k. take k (drop (at + 8) bytes)) n ∙ ap (λ xs. take (wrapped_length head.length) xs) (sym (drop-drop 8 at bytes))
