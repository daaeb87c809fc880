-- Slots that are filled one after another.
use Rattle.std.proofs.Common.{◌≡◌, ◌≢◌, ◌≤◌, ◌<◌, ◌+◌, ◌++◌, ℕ, Bool, Option, None, Some, List, [], ◌∷◌, length, refl, sym, ◌∙◌, ap, subst, arith}
use Rattle.std.specs.List.{AllByRecursion}
use Rattle.std.proofs.lemmas.List.{length-set}
use Rattle.key_wrap.specs.Wrapping.{IsKwpOf}
use Rattle.ssp_slots.specs.declared.slot.Slot.{Slot}
use Rattle.ssp_slots.specs.Slots.{Contents, AreWellFormed, slot_in, filled_in, filled_slot}
use Rattle.ssp_slots.specs.Refusals.{vacancy_fault}
use Rattle.ssp_slots.specs.declared.slot_fault.SlotFault.{SlotFault}
use Rattle.ssp_slots.proofs.WellFormedSlots.{slot_in-with_slot_same, slot_in-with_slot_other}
use Rattle.vault_backup.specs.BackupForm.{KeptSlot, AreRising, header_of}
use Rattle.std.specs.Prelude.{Result, Ok, Err}
use Rattle.bits_core.specs.declared.parameter.Header.{Header}
use Rattle.vault_backup.specs.declared.record.Record.{Record}
use Rattle.vault_backup.specs.declared.restore_fault.RestoreFault.{RestoreFault}
use Rattle.vault_backup.specs.declared.restore_fault.RestoreFault.TheVariants as fault
use Rattle.vault_backup.specs.Reading.{kept_in, Reads}
use Rattle.vault_backup.specs.Restoring.{IsVacant, HoldsKept, IsRestored, IsSigned, RestoresRecords, Restores}
use Rattle.vault_backup.proofs.Passes.{all_before, all_behind, all_both}

-- what follows in a rising list has no lower number
rising_from : (least : ℕ) (done : List KeptSlot) (kept : KeptSlot) (after : List KeptSlot) → AreRising least (done ++ kept ∷ after) → least ≤ kept.slot
rising_from least [] kept after h = h.0
rising_from least (first ∷ done) kept after h =
    let later : first.slot + 1 ≤ kept.slot = rising_from (first.slot + 1) done kept after h.1 in
    omega (arith, h.0, later)

-- no number stands twice in a rising list
pub apart : (least : ℕ) (done : List KeptSlot) (kept : KeptSlot) (after : List KeptSlot) → AreRising least (done ++ kept ∷ after)
    → AllByRecursion (λ k. k.slot ≢ kept.slot) done
apart least [] kept after h = tt
apart least (first ∷ done) kept after h =
    let later : first.slot + 1 ≤ kept.slot = rising_from (first.slot + 1) done kept after h.1 in
    (λ same. omega (arith, same, later), apart (first.slot + 1) done kept after h.1)

pub restored_none : (kek : List ℕ) (vault : Contents) → IsRestored kek vault vault []
restored_none kek vault = record { each = tt; others = λ id none. refl; rows = refl }

holds_still : (kek : List ℕ) (now next : Contents) (id : ℕ) (done : List KeptSlot) → ((other : ℕ) → other ≢ id → slot_in next other ≡ slot_in now other)
    → AllByRecursion (λ k. k.slot ≢ id) done → AllByRecursion (HoldsKept kek now) done → AllByRecursion (HoldsKept kek next) done
holds_still kek now next id [] stay apart held = tt
holds_still kek now next id (first ∷ done) stay apart held =
    ((held.0.0, held.0.1, held.0.2, stay first.slot apart.0 ∙ held.0.3), holds_still kek now next id done stay apart.1 held.1)

-- one more slot was filled, of another number than those before
pub restored_more : (kek : List ℕ) (old now next : Contents) (done : List KeptSlot) (kept : KeptSlot) (parameter : List ℕ) → IsRestored kek old now done
    → AllByRecursion (λ k. k.slot ≢ kept.slot) done → kept.slot < 16 → AreWellFormed next → IsKwpOf kek kept.wrapped parameter
    → length parameter ≡ kept.size → next ≡ filled_in now kept.slot (header_of kept) parameter → IsRestored kek old next (done ++ kept ∷ [])
restored_more kek old now next done kept parameter h apart below well wrapping long filled =
    let slot : Slot = filled_slot (header_of kept) parameter in
    let sixteen : length now.slots ≡ 16 =
    sym (length-set now.slots kept.slot slot) ∙ sym (ap (λ (v : Contents). length v.slots) filled) ∙ well.sixteen in
    let here : slot_in next kept.slot ≡ slot =
    ap (λ (v : Contents). slot_in v kept.slot) filled ∙ slot_in-with_slot_same now kept.slot slot (omega arith) in
    let stay : (other : ℕ) → other ≢ kept.slot → slot_in next other ≡ slot_in now other = λ other differs.
    ap (λ (v : Contents). slot_in v other) filled ∙ slot_in-with_slot_other now kept.slot other slot differs in
    record {
      each = all_both (HoldsKept kek next) done (kept ∷ []) (holds_still kek now next kept.slot done stay apart h.each) ((parameter, wrapping, long, here), tt);
      others = λ id none.
          stay id (λ same. (all_behind (λ k. k.slot ≢ id) done (kept ∷ []) none).0 (sym same)) ∙ h.others id (all_before (λ k. k.slot ≢ id) done (kept ∷ []) none);
      rows = ap (λ (v : Contents). v.rows) filled ∙ h.rows;
    }

-- what holds of all elements holds of one of them
pub all_at : (P : KeptSlot → Type 0) (done : List KeptSlot) (kept : KeptSlot) (after : List KeptSlot) → AllByRecursion P (done ++ kept ∷ after) → P kept
all_at P done kept after h = (all_behind P done (kept ∷ after) h).0

-- a slot of another number than those that were filled is as empty as before
pub still_vacant : (kek : List ℕ) (old now : Contents) (done : List KeptSlot) (kept : KeptSlot) (after records : List KeptSlot)
    → records ≡ done ++ kept ∷ after → AreRising 0 records → AllByRecursion (IsVacant old) records → IsRestored kek old now done → IsVacant now kept
still_vacant kek old now done kept after records parts rising vacant h =
    let Rises : List KeptSlot → Type 0 = λ (xs : List KeptSlot). AreRising 0 xs in
    let Vacant : List KeptSlot → Type 0 = λ (xs : List KeptSlot). AllByRecursion (IsVacant old) xs in
    ap (λ (s : Slot). s.header) (h.others kept.slot (apart 0 done kept after (subst Rises parts rising)))
    ∙ all_at (IsVacant old) done kept after (subst Vacant parts vacant)

-- the header that a record tells is that of the slot
pub header_is : (head : Record) (bytes : List ℕ) → Reads head bytes → head.header ≡ header_of (kept_in head bytes)
header_is head bytes h =
    ap (λ (may : Bool). let told : Header = record { kind = head.header.kind; domain = head.header.domain; export = may; uses = head.header.uses } in told) h.export

-- what is done with the records is what is done with the bytes, where their tag is right
pub restores_with : (kek mac bytes : List ℕ) (old new : Contents) (result : Result ℕ RestoreFault) (records : List KeptSlot) → IsSigned mac bytes records
    → RestoresRecords kek records old result new → Restores kek mac bytes old result new
restores_with kek mac bytes old new (Ok count) records signed h = (records, signed, h)
restores_with kek mac bytes old new (Err (fault.Wrapped id)) records signed h = (records, signed, h)
restores_with kek mac bytes old new (Err (fault.Occupied id)) records signed h = (records, signed, h)
restores_with kek mac bytes old new (Err fault.Form) records signed h = absurd h
restores_with kek mac bytes old new (Err fault.Tag) records signed h = absurd h

-- whether a slot is empty, by the fault of filling it
pub vacancy : (header : Option Header) → vacancy_fault header ≡ None → header ≡ None
vacancy None e = refl
vacancy (Some header) e = cc

pub no_vacancy : (header : Option Header) (refused : SlotFault) → vacancy_fault header ≡ Some refused → header ≢ None
no_vacancy None refused e same = cc
no_vacancy (Some header) refused e same = cc
