-- What follows of backups.
use Rattle.std.proofs.Common.{◌≡◌, ◌≤◌, ◌<◌, ◌+◌, ◌*◌, ◌++◌, ℕ, zero, suc, Option, Some, None, List, [], ◌∷◌, length, refl, sym, ◌∙◌, ap, subst, arith, IsTrue, length-append, inl, inr}
use Rattle.std.specs.List.{flat_map, AllByRecursion}
use Rattle.std.proofs.lemmas.Bool.{cases_eq}
use Rattle.std.proofs.lemmas.List.{append-nil}
use Rattle.bits_core.specs.declared.algorithm.Alg.TheVariants.{Sha256}
use Rattle.std.specs.Option.{option_map_or}
use Rattle.std.proofs.lemmas.Bool.Decides.{nat_tests}
use Rattle.bits_core.proofs.Bytes.{IsBytes-take}
use Rattle.bits_core.specs.declared.parameter.Header.{Header}
use Rattle.bits_core.specs.declared.parameter.Kind.{Kind}
use Rattle.bits_core.specs.declared.parameter.Kind.TheVariants.{Aes, Kek, Mac, Kdf}
use Rattle.bits_core.specs.declared.parameter.Domain.{Domain}
use Rattle.bits_core.specs.declared.parameter.Domain.TheVariants.{Other, Approved}
use Rattle.bits_core.specs.Parameters.{length_fits}
use Rattle.hmac_core.proofs.Lengths.{length-hmac}
use Rattle.key_wrap.specs.Wrapping.{IsKwpPlain}
use Rattle.key_wrap.proofs.Lengths.{length-kwp}
use Rattle.ssp_slots.specs.declared.slot.Slot.{Slot}
use Rattle.ssp_slots.specs.Slots.{Contents, AreWellFormed, HoldsParameter, slot_in, parameter, empty_slot}
use Rattle.ssp_slots.proofs.WellFormedSlots.{HoldsParameter-at, length-parameter, length_fits-le}
use Rattle.vault_backup.specs.BackupForm.{KeptSlot, IsKeptSlot, AreRising, record_bytes, signed_bytes, tag_of, wrapped_length}
use Rattle.vault_backup.specs.Backups.{if_kept, kept_part, kept_slot, kept_at, kept_below, kept_slots}
use Rattle.vault_backup.specs.Laws.{BackupsHaveTheForm, FormsAreBounded, ParsesInOneWay, BackupsTellKeptSlotsAlone}
use Rattle.vault_backup.proofs.Records.{one_record, length-record}
use Rattle.vault_backup.proofs.Passes.{all_both, all_before, all_behind}
use Rattle.vault_backup.proofs.Forms.{parts_with}
use Rattle.vault_backup.proofs.Kept.{IsHeaderOf, if_kept-some}

same_records : (records others : List KeptSlot) → AllByRecursion IsKeptSlot records → AllByRecursion IsKeptSlot others
    → flat_map record_bytes records ≡ flat_map record_bytes others → records ≡ others
same_records [] [] h k e = refl
same_records [] (other ∷ others) h k e = absurd (let none : 0 ≡ length (flat_map record_bytes (other ∷ others)) = ap length e in omega (arith, none))
same_records (one ∷ records) [] h k e = absurd (let none : length (flat_map record_bytes (one ∷ records)) ≡ 0 = ap length e in omega (arith, none))
same_records (one ∷ records) (other ∷ others) h k e =
    let same = one_record one other (flat_map record_bytes records) (flat_map record_bytes others) h.0 k.0 e in
    let more : records ≡ others = same_records records others h.1 k.1 same.1 in
    cc (same.0, more)

pub one_way : ParsesInOneWay
one_way bytes tag other_tag records others h k =
    let parts = parts_with bytes records tag h in
    let other = parts_with bytes others other_tag k in
    (same_records records others h.each k.each (sym parts.middle ∙ other.middle), sym parts.end ∙ other.end)

-- a rising list of numbers below 16 has no more of them than there are from the least one on
few_records : (least : ℕ) (records : List KeptSlot) → least ≤ 16 → AreRising least records → AllByRecursion IsKeptSlot records → least + length records ≤ 16
few_records least [] below rising each = omega arith
few_records least (kept ∷ records) below rising each =
    let more : (kept.slot + 1) + length records ≤ 16 = few_records (kept.slot + 1) records (omega (arith, each.0.below)) rising.1 each.1 in
    omega (arith, more, rising.0)

short_records : (records : List KeptSlot) → AllByRecursion IsKeptSlot records → length (flat_map record_bytes records) ≤ 80 * length records
short_records [] each = omega arith
short_records (kept ∷ records) each =
    let more : length (flat_map record_bytes records) ≤ 80 * length records = short_records records each.1 in
    let size : kept.size ≤ 64 = length_fits-le kept.kind kept.domain kept.size each.0.fits in
    omega (arith, more, size, length-record kept each.0, length-append (record_bytes kept) (flat_map record_bytes records))

pub bounded : FormsAreBounded
bounded bytes tag records h =
    let few : 0 + length records ≤ 16 = few_records 0 records (omega arith) h.rising h.each in
    let all : length bytes ≡ 5 + length (flat_map record_bytes records) + 32 =
    ap length h.whole ∙ omega (arith, length-append (flat_map record_bytes records) tag, h.tag_long) in
    (omega (arith, all), omega (arith, all, few, short_records records h.each), omega (arith, few))

-- what holds of what a backup has of each slot holds of all that it has
pub all_from : (P : KeptSlot → Type 0) (key : List ℕ) (vault : Contents) (n : ℕ) → ((id : ℕ) → id < n → AllByRecursion P (kept_at key vault id))
    → AllByRecursion P (kept_below key vault n)
unfolding kept_below
all_from P key vault zero f = tt
all_from P key vault (suc n) f =
    all_both P (kept_below key vault n) (kept_at key vault n) (all_from P key vault n (λ id below. f id (omega arith))) (f n (omega arith))

-- and the other way round
pub all_of_each : (P : KeptSlot → Type 0) (key : List ℕ) (vault : Contents) (n id : ℕ) → id < n → AllByRecursion P (kept_below key vault n)
    → AllByRecursion P (kept_at key vault id)
unfolding kept_below
all_of_each P key vault zero id below h = absurd (omega (arith, below))
all_of_each P key vault (suc n) id below h =
    elim (cases_eq id n) [
      | inl last ↦
          subst (λ (k : ℕ). AllByRecursion P (kept_at key vault k)) (sym last) (all_behind P (kept_below key vault n) (kept_at key vault n) h)
      | inr other ↦ all_of_each P key vault n id (omega arith) (all_before P (kept_below key vault n) (kept_at key vault n) h)
    ]

all_with : (P : KeptSlot → Type 0) (key : List ℕ) (id : ℕ) (slot : Slot) (known : Option Header)
    → ((header : Header) → known ≡ Some header → P (kept_slot key id slot header))
    → AllByRecursion P (option_map_or (λ header. kept_slot key id slot header ∷ []) known [])
all_with P key id slot None f = tt
all_with P key id slot (Some header) f = (f header refl, tt)

-- what holds of a slot's record, where it is kept, holds of what a backup has of the slot
all_here : (P : KeptSlot → Type 0) (key : List ℕ) (vault : Contents) (id : ℕ)
    → ((header : Header) → if_kept (slot_in vault id).header ≡ Some header → P (kept_slot key id (slot_in vault id) header))
    → AllByRecursion P (kept_at key vault id)
all_here P key vault id f = all_with P key id (slot_in vault id) (if_kept (slot_in vault id).header) f

-- what holds of each kept slot's record holds of all that a backup has
pub all_kept : (P : KeptSlot → Type 0) (key : List ℕ) (vault : Contents)
    → ((id : ℕ) (header : Header) → id < 16 → if_kept (slot_in vault id).header ≡ Some header → P (kept_slot key id (slot_in vault id) header))
    → AllByRecursion P (kept_slots key vault)
all_kept P key vault f = all_from P key vault 16 (λ id below. all_here P key vault id (λ header kept. f id header below kept))

fits_some : (kind : Kind) (domain : Domain) (n : ℕ) → IsTrue (length_fits kind domain n) → 1 ≤ n
fits_some Aes domain n fits = grind (arith, nat_tests)
fits_some Kek domain n fits = grind (arith, nat_tests)
fits_some Mac Other n fits = grind (arith, nat_tests)
fits_some Mac Approved n fits = grind (arith, nat_tests)
fits_some Kdf Other n fits = grind (arith, nat_tests)
fits_some Kdf Approved n fits = grind (arith, nat_tests)

-- what is known of a kept slot
pub record IsKeptAs (slot : Slot) (header : Header) : Type 0 where
  pub head : IsHeaderOf slot.header header
  pub holds : HoldsParameter header slot
  pub long : length (parameter slot) ≡ slot.length
  pub plain : IsKwpPlain (parameter slot)

pub kept_as : (vault : Contents) (id : ℕ) (header : Header) → AreWellFormed vault → id < 16 → if_kept (slot_in vault id).header ≡ Some header
    → IsKeptAs (slot_in vault id) header
kept_as vault id header well below kept =
    let slot : Slot = slot_in vault id in
    let of = if_kept-some slot.header header kept in
    let holds : HoldsParameter header slot = HoldsParameter-at vault id header well below of.is in
    let long : length (parameter slot) ≡ slot.length = length-parameter header slot holds in
    let least : 1 ≤ slot.length = fits_some header.kind header.domain slot.length holds.fits in
    let most : slot.length ≤ 64 = length_fits-le header.kind header.domain slot.length holds.fits in
    record {
      head = of;
      holds = holds;
      long = long;
      plain = record { least = omega arith; most = omega arith; bytes = IsBytes-take slot.length slot.bytes holds.byte_values };
    }

-- what a backup has of a slot may stand in it
kept_is : (key : List ℕ) (vault : Contents) (id : ℕ) (header : Header) → AreWellFormed vault → id < 16 → if_kept (slot_in vault id).header ≡ Some header
    → IsKeptSlot (kept_slot key id (slot_in vault id) header)
kept_is key vault id header well below kept =
    let slot : Slot = slot_in vault id in
    let h = kept_as vault id header well below kept in
    record {
      below = below;
      some_use = h.head.some_use;
      uses_fit = h.holds.uses;
      fits = h.holds.fits;
      long = length-kwp key (parameter slot) h.plain.least h.plain.most ∙ ap wrapped_length h.long;
    }

rising_push : (least n : ℕ) (records : List KeptSlot) (kept : KeptSlot) → AreRising least records → AllByRecursion (λ k. k.slot < n) records → kept.slot ≡ n
    → least ≤ n → AreRising least (records ++ kept ∷ [])
rising_push least n [] kept rising below last from = (omega (arith, last, from), tt)
rising_push least n (first ∷ records) kept rising below last from =
    (rising.0, rising_push (first.slot + 1) n records kept rising.1 below.1 last (omega (arith, below.0)))

rising_with : (key : List ℕ) (n : ℕ) (slot : Slot) (known : Option Header) (records : List KeptSlot) → AreRising 0 records
    → AllByRecursion (λ k. k.slot < n) records → AreRising 0 (records ++ option_map_or (λ header. kept_slot key n slot header ∷ []) known [])
rising_with key n slot None records rising below =
    let Rises : List KeptSlot → Type 0 = λ (xs : List KeptSlot). AreRising 0 xs in
    subst Rises (sym (append-nil records)) rising
rising_with key n slot (Some header) records rising below = rising_push 0 n records (kept_slot key n slot header) rising below refl (omega arith)

all_below : (key : List ℕ) (vault : Contents) (n : ℕ) → AllByRecursion (λ k. k.slot < n) (kept_below key vault n)
all_below key vault n = all_from (λ k. k.slot < n) key vault n (λ id below. all_here (λ k. k.slot < n) key vault id (λ header kept. below))

rising_below : (key : List ℕ) (vault : Contents) (n : ℕ) → AreRising 0 (kept_below key vault n)
unfolding kept_below
rising_below key vault zero = tt
rising_below key vault (suc n) =
    rising_with key n (slot_in vault n) (if_kept (slot_in vault n).header) (kept_below key vault n) (rising_below key vault n) (all_below key vault n)

pub have_the_form : BackupsHaveTheForm
have_the_form vault kek mac well = record {
  whole = refl;
  tag_long = length-hmac Sha256 mac (signed_bytes (kept_slots kek vault));
  rising = rising_below kek vault 16;
  each = all_kept IsKeptSlot kek vault (λ id header below kept. kept_is kek vault id header well below kept);
}

-- what a backup has of a slot
abbrev of_slot : List ℕ → ℕ → Slot → List KeptSlot
of_slot key id slot = option_map_or (λ header. kept_slot key id slot header ∷ []) (if_kept slot.header) []

of_part : (key : List ℕ) (id : ℕ) (slot : Slot) (known : Option Header) → if_kept slot.header ≡ known
    → of_slot key id (option_map_or (λ _. slot) known empty_slot) ≡ of_slot key id slot
of_part key id slot None e = ap (λ found. option_map_or (λ header. kept_slot key id slot header ∷ []) found []) (sym e)
of_part key id slot (Some header) e = refl

-- follows from what is kept of it
of_kept_part : (key : List ℕ) (id : ℕ) (slot : Slot) → of_slot key id (kept_part slot) ≡ of_slot key id slot
of_kept_part key id slot = of_part key id slot (if_kept slot.header) refl

same_below : (key : List ℕ) (one other : Contents) (n : ℕ) → ((id : ℕ) → id < n → kept_part (slot_in one id) ≡ kept_part (slot_in other id))
    → kept_below key one n ≡ kept_below key other n
unfolding kept_below
same_below key one other zero same = refl
same_below key one other (suc n) same =
    let here : kept_at key one n ≡ kept_at key other n =
    sym (of_kept_part key n (slot_in one n)) ∙ ap (λ (slot : Slot). of_slot key n slot) (same n (omega arith)) ∙ of_kept_part key n (slot_in other n) in
    let before : kept_below key one n ≡ kept_below key other n = same_below key one other n (λ id below. same id (omega arith)) in
    cc (here, before)

pub tell_kept_slots : BackupsTellKeptSlotsAlone
tell_kept_slots one other kek mac same = ap (λ records. signed_bytes records ++ tag_of mac records) (same_below kek one other 16 same)
