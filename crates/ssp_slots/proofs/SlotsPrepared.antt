-- What keeps the prepared keys those of the slots.
use Rattle.std.proofs.Common.{◌≡◌, ℕ, ◌-◌, ◌<◌, Bool, true, false, Option, Some, None, List, length, get_or, set, take, replicate, refl, sym, ap, subst, ◌∙◌, arith, inl, inr}
use Rattle.std.proofs.lemmas.Bool.{cases_eq}
use Rattle.std.proofs.lemmas.List.{length-set, get_or-set_same, get_or-set_other, get_or-replicate}
use Rattle.std.proofs.Math.Seq.{take-append_seam}
use Rattle.std.specs.Option.{option_map_or}
use Rattle.bits_core.specs.declared.parameter.Header.{Header}
use Rattle.bits_core.specs.ByteList.{zeros, zero_padded}
use Rattle.gcm_mode.specs.declared.prepared_key.Prepared.{Prepared}
use Rattle.gcm_mode.specs.Filled.{IsFilled, IsWiped}
use Rattle.ssp_slots.specs.declared.slot.Slot.{Slot}
use Rattle.ssp_slots.specs.Slots.{Contents, AreWellFormed, empty_slot, slot_in, filled_in, filled_slot, spent_slot, parameter}
use Rattle.ssp_slots.specs.PreparedKeys.{is_prepared_kind, IsFilledOrWiped, IsPreparedFor, blank_key, ArePrepared}
use Rattle.ssp_slots.proofs.WellFormedSlots.{slot_in-with_slot_same}

-- nothing is prepared for an empty slot
pub wiped_where_empty : (slot : Slot) (prepared : Prepared) → slot.header ≡ None → IsPreparedFor slot prepared → IsWiped prepared
wiped_where_empty slot prepared empty is =
    let Kept : Option Header → Type 0 = λ header. IsFilledOrWiped (option_map_or (λ (h : Header). is_prepared_kind h.kind) header false) (parameter slot) prepared in
    subst Kept empty is

-- a slot that was filled with a key of a kind that is prepared
pub IsPreparedFor-filled : (header : Header) (bytes : List ℕ) (prepared : Prepared) → is_prepared_kind header.kind ≡ true → IsFilled prepared bytes
    → IsPreparedFor (filled_slot header bytes) prepared
IsPreparedFor-filled header bytes prepared has filled =
    let Kept : Bool → Type 0 = λ b. IsFilledOrWiped b (take (length bytes) (zero_padded 64 bytes)) prepared in
    let Key : List ℕ → Type 0 = λ key. IsFilled prepared key in
    let whole : take (length bytes) (zero_padded 64 bytes) ≡ bytes = take-append_seam bytes (zeros (64 - length bytes)) in
    subst Kept (sym has) (subst Key (sym whole) filled)

-- a slot that was filled with a parameter of another kind
pub IsPreparedFor-unprepared : (header : Header) (bytes : List ℕ) (prepared : Prepared) → is_prepared_kind header.kind ≡ false → IsWiped prepared
    → IsPreparedFor (filled_slot header bytes) prepared
IsPreparedFor-unprepared header bytes prepared has wiped =
    let Kept : Bool → Type 0 = λ b. IsFilledOrWiped b (take (length bytes) (zero_padded 64 bytes)) prepared in
    subst Kept (sym has) wiped

-- the key of a slot of a kind that is prepared
pub filled_where_prepared : (slot : Slot) (header : Header) (prepared : Prepared) → slot.header ≡ Some header → is_prepared_kind header.kind ≡ true
    → IsPreparedFor slot prepared → IsFilled prepared (parameter slot)
filled_where_prepared slot header prepared is has kept =
    let OfHeader : Option Header → Type 0 = λ found. IsFilledOrWiped (option_map_or (λ (h : Header). is_prepared_kind h.kind) found false) (parameter slot) prepared in
    let OfTest : Bool → Type 0 = λ b. IsFilledOrWiped b (parameter slot) prepared in
    subst OfTest has (subst OfHeader is kept)

-- a key that was put into a slot is prepared beside it
pub filled_after_put : (before after : Contents) (id : ℕ) (header : Header) (bytes : List ℕ) (prepared : Prepared) → after ≡ filled_in before id header bytes
    → AreWellFormed after → id < 16 → is_prepared_kind header.kind ≡ true → IsPreparedFor (slot_in after id) prepared → IsFilled prepared bytes
filled_after_put before after id header bytes prepared is well below has kept =
    let slot : Slot = filled_slot header bytes in
    let size : length after.slots ≡ length before.slots = ap (λ (vault : Contents). length vault.slots) is ∙ length-set before.slots id slot in
    let sixteen : length after.slots ≡ 16 = well.sixteen in
    let here : slot_in after id ≡ slot = ap (λ (vault : Contents). slot_in vault id) is ∙ slot_in-with_slot_same before id slot (omega arith) in
    let OfSlot : Slot → Type 0 = λ s. IsPreparedFor s prepared in
    let Key : List ℕ → Type 0 = λ key. IsFilled prepared key in
    let whole : take (length bytes) (zero_padded 64 bytes) ≡ bytes = take-append_seam bytes (zeros (64 - length bytes)) in
    subst Key whole (filled_where_prepared slot header prepared refl has (subst OfSlot here kept))

spent_parts : (header : Option Header) (n : ℕ) (bytes : List ℕ) (prepared : Prepared)
    → (let slot : Slot = record { header = header; length = n; bytes = bytes } in IsPreparedFor slot prepared → IsPreparedFor (spent_slot slot) prepared)
spent_parts None n bytes prepared is = is
spent_parts (Some header) n bytes prepared is = is

-- a slot with one use less
pub IsPreparedFor-spent : (slot : Slot) (prepared : Prepared) → IsPreparedFor slot prepared → IsPreparedFor (spent_slot slot) prepared
IsPreparedFor-spent slot prepared is = spent_parts slot.header slot.length slot.bytes prepared is

-- a slot was written, and what is prepared for it
pub ArePrepared-set : (slots : List Slot) (prepared : List Prepared) (id : ℕ) (slot : Slot) (key : Prepared) → ArePrepared slots prepared → length slots ≡ 16 → id < 16
    → IsPreparedFor slot key → ArePrepared (set slots id slot) (set prepared id key)
ArePrepared-set slots prepared id slot key before long below is =
    let size : length prepared ≡ 16 = before.sixteen in
    record {
      sixteen = length-set prepared id key ∙ size;
      each = λ k within. elim (cases_eq k id) [
        | inl same ↦
            let slot_here : get_or (set slots id slot) k empty_slot ≡ slot =
            ap (λ (j : ℕ). get_or (set slots id slot) j empty_slot) same ∙ get_or-set_same slots id slot empty_slot (omega arith) in
            let key_here : get_or (set prepared id key) k blank_key ≡ key =
            ap (λ (j : ℕ). get_or (set prepared id key) j blank_key) same ∙ get_or-set_same prepared id key blank_key (omega arith) in
            let OfSlot : Slot → Type 0 = λ s. IsPreparedFor s key in
            let OfKey : Prepared → Type 0 = λ p. IsPreparedFor (get_or (set slots id slot) k empty_slot) p in
            subst OfKey (sym key_here) (subst OfSlot (sym slot_here) is)
        | inr other ↦
            let OfSlot : Slot → Type 0 = λ s. IsPreparedFor s (get_or prepared k blank_key) in
            let OfKey : Prepared → Type 0 = λ p. IsPreparedFor (get_or (set slots id slot) k empty_slot) p in
            subst OfKey (sym (get_or-set_other prepared id k key blank_key other)) (subst OfSlot (sym (get_or-set_other slots id k slot empty_slot other)) (before.each k within))
      ];
    }

-- a slot was written, for which the same is prepared
pub ArePrepared-set_slot : (slots : List Slot) (prepared : List Prepared) (id : ℕ) (slot : Slot) → ArePrepared slots prepared → length slots ≡ 16 → id < 16
    → IsPreparedFor slot (get_or prepared id blank_key) → ArePrepared (set slots id slot) prepared
ArePrepared-set_slot slots prepared id slot before long below is = record {
  sixteen = before.sixteen;
  each = λ k within. elim (cases_eq k id) [
    | inl same ↦
        let slot_here : get_or (set slots id slot) k empty_slot ≡ slot =
        ap (λ (j : ℕ). get_or (set slots id slot) j empty_slot) same ∙ get_or-set_same slots id slot empty_slot (omega arith) in
        let OfSlot : Slot → Type 0 = λ s. IsPreparedFor s (get_or prepared k blank_key) in
        let OfPlace : ℕ → Type 0 = λ j. IsPreparedFor slot (get_or prepared j blank_key) in
        subst OfSlot (sym slot_here) (subst OfPlace (sym same) is)
    | inr other ↦
        let OfSlot : Slot → Type 0 = λ s. IsPreparedFor s (get_or prepared k blank_key) in
        subst OfSlot (sym (get_or-set_other slots id k slot empty_slot other)) (before.each k within)
  ];
}

-- sixteen empty slots, for which nothing is prepared
pub ArePrepared-empty : (prepared : List Prepared) → length prepared ≡ 16 → ((id : ℕ) → id < 16 → IsWiped (get_or prepared id blank_key))
    → ArePrepared (replicate 16 empty_slot) prepared
ArePrepared-empty prepared sixteen wiped = record {
  sixteen = sixteen;
  each = λ k within.
      let OfSlot : Slot → Type 0 = λ s. IsPreparedFor s (get_or prepared k blank_key) in
      subst OfSlot (sym (get_or-replicate 16 k empty_slot empty_slot within)) (wiped k within);
}
