-- What follows of backups that are restored.
use Rattle.std.proofs.Common.{◌≡◌, ◌≢◌, ◌<◌, ◌-◌, ◌++◌, ℕ, Bool, Option, Some, None, List, [], ◌∷◌, length, refl, sym, ◌∙◌, ap, subst, inl, inr}
use Rattle.std.specs.Prelude.{Result, Ok, Err, IsOk}
use Rattle.std.specs.List.{AllByRecursion}
use Rattle.std.specs.Option.{option_map_or}
use Rattle.std.proofs.lemmas.Bool.{cases_eq, false≢true}
use Rattle.std.proofs.lemmas.List.{take-append-drop}
use Rattle.bits_core.specs.ByteList.{IsBytes, zeros, zero_padded}
use Rattle.bits_core.specs.declared.parameter.Header.{Header}
use Rattle.aes_core.specs.Key.{aes}
use Rattle.key_wrap.specs.Wrapping.{kwp, IsKwpOf}
use Rattle.key_wrap.proofs.Checked.{kwp_unique}
use Rattle.ssp_slots.specs.declared.slot.Slot.{Slot}
use Rattle.ssp_slots.specs.Slots.{Contents, AreWellFormed, slot_in, parameter, empty_slot, filled_slot}
use Rattle.vault_backup.specs.declared.restore_fault.RestoreFault.{RestoreFault}
use Rattle.vault_backup.specs.declared.restore_fault.RestoreFault.TheVariants as fault
use Rattle.vault_backup.specs.BackupForm.{KeptSlot, header_of, tag_of, HasForm}
use Rattle.vault_backup.specs.Backups.{if_kept, kept_part, kept_slot, kept_slots, backup_of}
use Rattle.vault_backup.specs.Restoring.{IsWrapping, IsVacant, IsFirstWithout, HoldsKept, IsRestored, IsSigned, RestoresRecords, Restores}
use Rattle.vault_backup.specs.Laws.{IsKey, AreEmpty, RestoresWhatWasKept, AnswersInOneWay}
use Rattle.vault_backup.proofs.Restored.{all_at}
use Rattle.vault_backup.proofs.BackupLaws.{one_way, have_the_form, all_kept, all_of_each, IsKeptAs, kept_as}

same_slot : (header header' : Option Header) (n n' : ℕ) (bytes bytes' : List ℕ) → header ≡ header' → n ≡ n' → bytes ≡ bytes'
    → Path Slot (record { header = header; length = n; bytes = bytes }) (record { header = header'; length = n'; bytes = bytes' })
same_slot header header' n n' bytes bytes' a b c = rw (a, b, c) refl

-- a kept slot is what is filled with its header and its parameter
refilled : (key : List ℕ) (id : ℕ) (slot : Slot) (header : Header) → IsKeptAs slot header
    → filled_slot (header_of (kept_slot key id slot header)) (parameter slot) ≡ slot
refilled key id slot header h =
    let told : header_of (kept_slot key id slot header) ≡ header =
    ap (λ (may : Bool). let made : Header = record { kind = header.kind; domain = header.domain; export = may; uses = header.uses } in made) (sym h.head.export) in
    let bytes : zero_padded 64 (parameter slot) ≡ slot.bytes =
    ap (λ n. parameter slot ++ zeros (64 - n)) h.long ∙ ap (λ xs. parameter slot ++ xs) (sym h.holds.rest) ∙ take-append-drop slot.length slot.bytes in
    same_slot (Some (header_of (kept_slot key id slot header))) slot.header (length (parameter slot)) slot.length (zero_padded 64 (parameter slot)) slot.bytes
    (ap (λ (known : Header). Some known) told ∙ sym h.head.is) h.long bytes

-- the record of a kept slot has the wrapping of its parameter
kept_wrapping : (key : List ℕ) (slot : Slot) (header : Header) → IsKeptAs slot header → IsKwpOf key (kwp (aes key) (parameter slot)) (parameter slot)
kept_wrapping key slot header h = record { plain = h.plain; wrapping = refl }

kept_wrappings : (key : List ℕ) (vault : Contents) → AreWellFormed vault → AllByRecursion (IsWrapping key) (kept_slots key vault)
kept_wrappings key vault well =
    all_kept (IsWrapping key) key vault (λ id header below kept.
    let h = kept_as vault id header well below kept in
    (parameter (slot_in vault id), kept_wrapping key (slot_in vault id) header h, h.long))

kept_vacant : (key : List ℕ) (vault empty : Contents) → AreEmpty empty → AllByRecursion (IsVacant empty) (kept_slots key vault)
kept_vacant key vault empty are = all_kept (IsVacant empty) key vault (λ id header below kept. ap (λ (slot : Slot). slot.header) (are id below))

-- no record is the first one without what all have
none_without : (P : KeptSlot → Type 0) (records : List KeptSlot) (id : ℕ) → AllByRecursion P records → ¬ (IsFirstWithout P records id)
none_without P records id all h =
    let All : List KeptSlot → Type 0 = λ (xs : List KeptSlot). AllByRecursion P xs in
    h.without (all_at P h.before h.first h.after (subst All h.parts all))

unnamed : (key : List ℕ) (vault : Contents) (id : ℕ) → if_kept (slot_in vault id).header ≡ None → AllByRecursion (λ k. k.slot ≢ id) (kept_slots key vault)
unnamed key vault id none =
    all_kept (λ k. k.slot ≢ id) key vault (λ other header below kept same.
    let here : if_kept (slot_in vault id).header ≡ Some header = subst (λ n. if_kept (slot_in vault n).header ≡ Some header) same kept in
    let no : None ≡ Some header = sym none ∙ here in
    cc)

named : (P : KeptSlot → Type 0) (key : List ℕ) (vault : Contents) (id : ℕ) (header : Header) → id < 16 → if_kept (slot_in vault id).header ≡ Some header
    → AllByRecursion P (kept_slots key vault) → P (kept_slot key id (slot_in vault id) header)
named P key vault id header below kept all =
    let slot : Slot = slot_in vault id in
    let here : AllByRecursion P (option_map_or (λ h. kept_slot key id slot h ∷ []) (Some header) []) =
    subst (λ (known : Option Header). AllByRecursion P (option_map_or (λ h. kept_slot key id slot h ∷ []) known [])) kept (all_of_each P key vault 16 id below all) in
    here.0

part_restored : (key : List ℕ) (vault empty new : Contents) (id : ℕ) → AreWellFormed vault → AreEmpty empty → IsBytes key
    → IsRestored key empty new (kept_slots key vault) → id < 16 → (known : Option Header) → if_kept (slot_in vault id).header ≡ known
    → slot_in new id ≡ option_map_or (λ _. slot_in vault id) known empty_slot
part_restored key vault empty new id well are small h below None e = h.others id (unnamed key vault id e) ∙ are id below
part_restored key vault empty new id well are small h below (Some header) e =
    let slot : Slot = slot_in vault id in
    let told = kept_as vault id header well below e in
    let held : HoldsKept key new (kept_slot key id slot header) = named (HoldsKept key new) key vault id header below e h.each in
    let same : held.0 ≡ parameter slot =
    kwp_unique key (kwp (aes key) (parameter slot)) held.0 (parameter slot) small held.1 (kept_wrapping key slot header told) in
    held.3 ∙ ap (λ xs. filled_slot (header_of (kept_slot key id slot header)) xs) same ∙ refilled key id slot header told

same_records : (mac bytes : List ℕ) (records others : List KeptSlot) → IsSigned mac bytes records → IsSigned mac bytes others → records ≡ others
same_records mac bytes records others h k = (one_way bytes (tag_of mac records) (tag_of mac others) records others h k).0

what_was_kept : (kept empty new : Contents) (kek mac : List ℕ) (result : Result ℕ RestoreFault) → AreWellFormed kept → AreEmpty empty
    → IsKey kek → IsSigned mac (backup_of kept kek mac) (kept_slots kek kept) → Restores kek mac (backup_of kept kek mac) empty result new
    → (result ≡ Ok (length (kept_slots kek kept))) × ((id : ℕ) → id < 16 → slot_in new id ≡ kept_part (slot_in kept id)) × (new.rows ≡ empty.rows)
what_was_kept kept empty new kek mac (Err fault.Form) well are key signed h = absurd (h (kept_slots kek kept, tag_of mac (kept_slots kek kept), signed))
what_was_kept kept empty new kek mac (Err fault.Tag) well are key signed h = absurd (h.1 (kept_slots kek kept) signed)
what_was_kept kept empty new kek mac (Err (fault.Wrapped id)) well are key signed h =
    let same = same_records mac (backup_of kept kek mac) h.0 (kept_slots kek kept) h.1 signed in
    absurd (none_without (IsWrapping kek) (kept_slots kek kept) id (kept_wrappings kek kept well)
    (subst (λ (records : List KeptSlot). IsFirstWithout (IsWrapping kek) records id) same h.2))
what_was_kept kept empty new kek mac (Err (fault.Occupied id)) well are key signed h =
    let same = same_records mac (backup_of kept kek mac) h.0 (kept_slots kek kept) h.1 signed in
    absurd (none_without (IsVacant empty) (kept_slots kek kept) id (kept_vacant kek kept empty are)
    (subst (λ (records : List KeptSlot). IsFirstWithout (IsVacant empty) records id) same h.2.1))
what_was_kept kept empty new kek mac (Ok count) well are key signed h =
    let same = same_records mac (backup_of kept kek mac) h.0 (kept_slots kek kept) h.1 signed in
    let restored : IsRestored kek empty new (kept_slots kek kept) = subst (λ (records : List KeptSlot). IsRestored kek empty new records) same h.2.3 in
    let counted : count ≡ length (kept_slots kek kept) = h.2.2 ∙ ap (λ (records : List KeptSlot). length records) same in (
      cc counted,
      λ id below. part_restored kek kept empty new id well are key.bytes restored below (if_kept (slot_in kept id).header) refl,
      restored.rows,
    )

pub round_trip : RestoresWhatWasKept
round_trip kept empty new kek mac result well are key h =
    what_was_kept kept empty new kek mac result well are key (have_the_form kept kek mac well) h

same_first : (P : KeptSlot → Type 0) (before before' after after' : List KeptSlot) (first first' : KeptSlot)
    → before ++ first ∷ after ≡ before' ++ first' ∷ after' → AllByRecursion P before → AllByRecursion P before' → ¬ (P first) → ¬ (P first') → first ≡ first'
same_first P [] [] after after' first first' e all all' fails fails' = cc e
same_first P [] (other ∷ before') after after' first first' e all all' fails fails' =
    let same : other ≡ first = cc e in
    absurd (fails (subst P same all'.0))
same_first P (one ∷ before) [] after after' first first' e all all' fails fails' =
    let same : one ≡ first' = cc e in
    absurd (fails' (subst P same all.0))
same_first P (one ∷ before) (other ∷ before') after after' first first' e all all' fails fails' =
    let rest : before ++ first ∷ after ≡ before' ++ first' ∷ after' = cc e in
    same_first P before before' after after' first first' rest all.1 all'.1 fails fails'

same_without : (P : KeptSlot → Type 0) (records : List KeptSlot) (id other : ℕ) → IsFirstWithout P records id → IsFirstWithout P records other → id ≡ other
same_without P records id other h k =
    let first : h.first ≡ k.first =
    same_first P h.before k.before h.after k.after h.first k.first (sym h.parts ∙ k.parts) h.others k.others h.without k.without in
    h.named ∙ ap (λ (kept : KeptSlot). kept.slot) first ∙ sym k.named

-- the slots that two restorings leave are the same
same_after : (key : List ℕ) (new other : Contents) (id : ℕ) → IsBytes key → (records : List KeptSlot) → AllByRecursion (HoldsKept key new) records
    → AllByRecursion (HoldsKept key other) records → (AllByRecursion (λ k. k.slot ≢ id) records → slot_in new id ≡ slot_in other id)
    → slot_in new id ≡ slot_in other id
same_after key new other id small [] h k f = f tt
same_after key new other id small (kept ∷ records) h k f =
    elim (cases_eq kept.slot id) [
      | inl here ↦
          let same : h.0.0 ≡ k.0.0 = kwp_unique key kept.wrapped h.0.0 k.0.0 small h.0.1 k.0.1 in
          ap (λ n. slot_in new n) (sym here) ∙ h.0.3 ∙ ap (λ xs. filled_slot (header_of kept) xs) same ∙ sym k.0.3 ∙ ap (λ n. slot_in other n) here
      | inr away ↦ same_after key new other id small records h.1 k.1 (λ all. f (away, all))
    ]

-- what two restorings of the same records answer
pub record AreOne (result answer : Result ℕ RestoreFault) (new other : Contents) : Type 0 where
  pub answers : result ≡ answer
  pub leaves : IsOk result → ((id : ℕ) → slot_in new id ≡ slot_in other id) × (new.rows ≡ other.rows)

records_one_way : (key : List ℕ) (records : List KeptSlot) (old new other : Contents) (result answer : Result ℕ RestoreFault) → IsBytes key
    → RestoresRecords key records old result new → RestoresRecords key records old answer other → AreOne result answer new other
records_one_way key records old new other (Ok count) (Ok counted) small h k = record {
  answers = let same : count ≡ counted = h.2 ∙ sym k.2 in cc same;
  leaves = λ ok. (
    λ id. same_after key new other id small records h.3.each k.3.each (λ all. h.3.others id all ∙ sym (k.3.others id all)),
    h.3.rows ∙ sym k.3.rows,
  );
}
records_one_way key records old new other (Ok count) (Err (fault.Wrapped id)) small h k = absurd (none_without (IsWrapping key) records id h.0 k)
records_one_way key records old new other (Ok count) (Err (fault.Occupied id)) small h k = absurd (none_without (IsVacant old) records id h.1 k.1)
records_one_way key records old new other (Err (fault.Wrapped id)) (Ok count) small h k = absurd (none_without (IsWrapping key) records id k.0 h)
records_one_way key records old new other (Err (fault.Wrapped id)) (Err (fault.Wrapped named)) small h k = record {
  answers = let same : id ≡ named = same_without (IsWrapping key) records id named h k in cc same;
  leaves = λ ok. absurd (false≢true ok);
}
records_one_way key records old new other (Err (fault.Wrapped id)) (Err (fault.Occupied named)) small h k = absurd (none_without (IsWrapping key) records id k.0 h)
records_one_way key records old new other (Err (fault.Occupied id)) (Ok count) small h k = absurd (none_without (IsVacant old) records id k.1 h.1)
records_one_way key records old new other (Err (fault.Occupied id)) (Err (fault.Wrapped named)) small h k = absurd (none_without (IsWrapping key) records named h.0 k)
records_one_way key records old new other (Err (fault.Occupied id)) (Err (fault.Occupied named)) small h k = record {
  answers = let same : id ≡ named = same_without (IsVacant old) records id named h.1 k.1 in cc same;
  leaves = λ ok. absurd (false≢true ok);
}
records_one_way key records old new other (Err fault.Form) answer small h k = absurd h
records_one_way key records old new other (Err fault.Tag) answer small h k = absurd h
records_one_way key records old new other (Ok count) (Err fault.Form) small h k = absurd k
records_one_way key records old new other (Ok count) (Err fault.Tag) small h k = absurd k
records_one_way key records old new other (Err (fault.Wrapped id)) (Err fault.Form) small h k = absurd k
records_one_way key records old new other (Err (fault.Wrapped id)) (Err fault.Tag) small h k = absurd k
records_one_way key records old new other (Err (fault.Occupied id)) (Err fault.Form) small h k = absurd k
records_one_way key records old new other (Err (fault.Occupied id)) (Err fault.Tag) small h k = absurd k

-- how far a restoring came
data Stage (kek mac bytes : List ℕ) (old : Contents) (result : Result ℕ RestoreFault) (new : Contents) : Type 0 where
  of_no_form : ¬ (HasForm bytes) → result ≡ Err fault.Form → Stage kek mac bytes old result new
  of_no_tag : HasForm bytes → ((records : List KeptSlot) → ¬ (IsSigned mac bytes records)) → result ≡ Err fault.Tag → Stage kek mac bytes old result new
  of_records : (records : List KeptSlot) → IsSigned mac bytes records → RestoresRecords kek records old result new → Stage kek mac bytes old result new

stage_of : (kek mac bytes : List ℕ) (old new : Contents) (result : Result ℕ RestoreFault) → Restores kek mac bytes old result new
    → Stage kek mac bytes old result new
stage_of kek mac bytes old new (Err fault.Form) h = of_no_form h refl
stage_of kek mac bytes old new (Err fault.Tag) h = of_no_tag h.0 h.1 refl
stage_of kek mac bytes old new (Err (fault.Wrapped id)) h = of_records h.0 h.1 h.2
stage_of kek mac bytes old new (Err (fault.Occupied id)) h = of_records h.0 h.1 h.2
stage_of kek mac bytes old new (Ok count) h = of_records h.0 h.1 h.2

refused_once : (result answer : Result ℕ RestoreFault) (new other : Contents) (cause : RestoreFault) → result ≡ Err cause → answer ≡ Err cause
    → AreOne result answer new other
refused_once result answer new other cause h k = record {
  answers = h ∙ sym k;
  leaves = λ ok. absurd (false≢true (subst (λ (r : Result ℕ RestoreFault). IsOk r) h ok));
}

stages_one_way : (kek mac bytes : List ℕ) (old new other : Contents) (result answer : Result ℕ RestoreFault) → IsBytes kek
    → Stage kek mac bytes old result new → Stage kek mac bytes old answer other → AreOne result answer new other
stages_one_way kek mac bytes old new other result answer small (of_no_form h e) (of_no_form k f) =
    refused_once result answer new other fault.Form e f
stages_one_way kek mac bytes old new other result answer small (of_no_form h e) (of_no_tag k l f) = absurd (h k)
stages_one_way kek mac bytes old new other result answer small (of_no_form h e) (of_records records k l) = absurd (h (records, tag_of mac records, k))
stages_one_way kek mac bytes old new other result answer small (of_no_tag h g e) (of_no_form k f) = absurd (k h)
stages_one_way kek mac bytes old new other result answer small (of_no_tag h g e) (of_no_tag k l f) =
    refused_once result answer new other fault.Tag e f
stages_one_way kek mac bytes old new other result answer small (of_no_tag h g e) (of_records records k l) = absurd (g records k)
stages_one_way kek mac bytes old new other result answer small (of_records records h g) (of_no_form k f) = absurd (k (records, tag_of mac records, h))
stages_one_way kek mac bytes old new other result answer small (of_records records h g) (of_no_tag k l f) = absurd (l records h)
stages_one_way kek mac bytes old new other result answer small (of_records records h g) (of_records others k l) =
    records_one_way kek records old new other result answer small g
    (subst (λ (xs : List KeptSlot). RestoresRecords kek xs old answer other) (same_records mac bytes others records k h) l)

pub answers_one_way : AnswersInOneWay
answers_one_way kek mac bytes old new other result answer key h k =
    let one = stages_one_way kek mac bytes old new other result answer key.bytes (stage_of kek mac bytes old new result h) (stage_of kek mac bytes old other answer k) in
    (one.answers, one.leaves)
