-- What keeps slots well formed.
use Rattle.std.proofs.Common.{◌≡◌, ◌≢◌, ℕ, zero, suc, ◌-◌, ◌<◌, ◌≤◌, ◌^◌, Option, Some, None, List, [], ◌∷◌, length, get_or, set, replicate, IsTrue, MatchOption, refl, sym, ap, subst, ◌∙◌, arith, inl, inr}
use Rattle.std.proofs.lemmas.Bool.{cases_eq, cases_lt}
use Rattle.std.proofs.lemmas.List.{ext_get_or, length-replicate, length-set, get_or-set_same, get_or-set_other, get_or-replicate, get_or_append_left, length-take-le}
use Rattle.std.proofs.Math.Seq.{drop-append_seam, get_or-append_right}
use Rattle.bits_core.specs.declared.parameter.Header.{Header}
use Rattle.bits_core.specs.declared.parameter.Kind.{Kind}
use Rattle.bits_core.specs.declared.parameter.Kind.TheVariants.{Aes, Kek, Mac, Kdf}
use Rattle.bits_core.specs.declared.parameter.Domain.{Domain}
use Rattle.bits_core.specs.declared.parameter.Domain.TheVariants.{Other, Approved}
use Rattle.bits_core.specs.Parameters.{length_fits}
use Rattle.bits_core.specs.ByteList.{IsBytes, zeros, zero_padded}
use Rattle.bits_core.proofs.ZeroPadding.{get_or-zeros, length-zero_padded}
use Rattle.ssp_slots.specs.declared.slot.Slot.{Slot}
use Rattle.ssp_slots.specs.Slots.{Contents, empty_slot, empty_vault, filled_slot, spent_slot, slot_in, row_in, with_slot, filled_in, spent_in, zeroised_in, parameter, HoldsParameter, IsWellFormed, AreWellFormed}

-- no parameter is longer than 64 bytes
pub length_fits-le : (kind : Kind) (domain : Domain) (n : ℕ) → IsTrue (length_fits kind domain n) → n ≤ 64
length_fits-le Aes domain n fits = grind arith
length_fits-le Kek domain n fits = grind arith
length_fits-le Mac Other n fits = grind arith
length_fits-le Mac Approved n fits = grind arith
length_fits-le Kdf Other n fits = grind arith
length_fits-le Kdf Approved n fits = grind arith

-- bytes with zeros after them are bytes
pub IsBytes-zero_padded : (n : ℕ) (bytes : List ℕ) → IsBytes bytes → IsBytes (zero_padded n bytes)
IsBytes-zero_padded n bytes are_bytes k =
    let rest : List ℕ = zeros (n - length bytes) in
    let IsByte : ℕ → Type 0 = λ x. x < 256 in
    elim (cases_lt k (length bytes)) [
      | inl front ↦ subst IsByte (sym (get_or_append_left bytes rest 0 k front)) (are_bytes k)
      | inr past ↦
          let zero : get_or (zero_padded n bytes) k 0 ≡ 0 = get_or-append_right bytes rest k 0 past ∙ get_or-zeros (n - length bytes) (k - length bytes) in
          subst IsByte (sym zero) (omega arith)
    ]

-- a slot that was filled with a parameter that fits
pub IsWellFormed-filled : (header : Header) (bytes : List ℕ) → IsTrue (length_fits header.kind header.domain (length bytes)) → header.uses < 2 ^ 32
    → IsBytes bytes → IsWellFormed (filled_slot header bytes)
IsWellFormed-filled header bytes fits uses are_bytes = record {
  fits = fits;
  uses = uses;
  room = length-zero_padded 64 bytes (length_fits-le header.kind header.domain (length bytes) fits);
  byte_values = IsBytes-zero_padded 64 bytes are_bytes;
  rest = drop-append_seam bytes (zeros (64 - length bytes));
}

spent_parts : (header : Option Header) (n : ℕ) (bytes : List ℕ)
    → (let slot : Slot = record { header = header; length = n; bytes = bytes } in IsWellFormed slot → IsWellFormed (spent_slot slot))
spent_parts None n bytes empty = empty
spent_parts (Some header) n bytes holds = record {
  fits = holds.fits;
  uses = let before : header.uses < 2 ^ 32 = holds.uses in omega arith;
  room = holds.room;
  byte_values = holds.byte_values;
  rest = holds.rest;
}

-- a slot with one use less
pub IsWellFormed-spent : (slot : Slot) → IsWellFormed slot → IsWellFormed (spent_slot slot)
IsWellFormed-spent slot well = spent_parts slot.header slot.length slot.bytes well

-- what was laid at a number stands there
pub slot_in-with_slot_same : (vault : Contents) (id : ℕ) (slot : Slot) → id < length vault.slots → slot_in (with_slot vault id slot) id ≡ slot
slot_in-with_slot_same vault id slot within = get_or-set_same vault.slots id slot empty_slot within

-- and no other slot has changed
pub slot_in-with_slot_other : (vault : Contents) (id other : ℕ) (slot : Slot) → other ≢ id → slot_in (with_slot vault id slot) other ≡ slot_in vault other
slot_in-with_slot_other vault id other slot apart = get_or-set_other vault.slots id other slot empty_slot apart

-- what is written into a list of numbers below m leaves it one
pub set_below : (rows : List ℕ) (id row m : ℕ) → row < m → ((k : ℕ) → get_or rows k 0 < m) → (k : ℕ) → get_or (set rows id row) k 0 < m
set_below [] id row m below each k = each k
set_below (x ∷ rows) zero row m below each zero = below
set_below (x ∷ rows) zero row m below each (suc k) = each (suc k)
set_below (x ∷ rows) (suc id) row m below each zero = each zero
set_below (x ∷ rows) (suc id) row m below each (suc k) = set_below rows id row m below (λ j. each (suc j)) k

-- a row among sixteen was written
pub AreWellFormed-with_row : (vault : Contents) (id row : ℕ) → AreWellFormed vault → row < 2 ^ 16 → AreWellFormed (record vault { rows = set vault.rows id row })
AreWellFormed-with_row vault id row before below = record {
  sixteen = before.sixteen;
  each = before.each;
  sixteen_rows = length-set vault.rows id row ∙ before.sixteen_rows;
  each_row = set_below vault.rows id row (2 ^ 16) below before.each_row;
}

-- one slot among sixteen was written
pub AreWellFormed-with_slot : (vault : Contents) (id : ℕ) (slot : Slot) → AreWellFormed vault → IsWellFormed slot → AreWellFormed (with_slot vault id slot)
AreWellFormed-with_slot vault id slot before well =
    let Well : Slot → Type 0 = λ s. IsWellFormed s in
    let long : length vault.slots ≡ 16 = before.sixteen in
    record {
      sixteen = length-set vault.slots id slot ∙ long;
      each = λ k below. elim (cases_eq k id) [
        | inl same ↦
            let here : slot_in (with_slot vault id slot) k ≡ slot =
            ap (slot_in (with_slot vault id slot)) same ∙ slot_in-with_slot_same vault id slot (omega arith) in
            subst Well (sym here) well
        | inr other ↦ subst Well (sym (slot_in-with_slot_other vault id k slot other)) (before.each k below)
      ];
      sixteen_rows = before.sixteen_rows;
      each_row = before.each_row;
    }

-- one use of a slot was spent
pub AreWellFormed-spent : (vault : Contents) (id : ℕ) → AreWellFormed vault → id < 16 → AreWellFormed (spent_in vault id)
AreWellFormed-spent vault id before below =
    AreWellFormed-with_slot vault id (spent_slot (slot_in vault id)) before (IsWellFormed-spent (slot_in vault id) (before.each id below))

-- a slot was filled with a parameter that fits
pub AreWellFormed-filled : (vault : Contents) (id : ℕ) (header : Header) (bytes : List ℕ) → AreWellFormed vault
    → IsTrue (length_fits header.kind header.domain (length bytes)) → header.uses < 2 ^ 32 → IsBytes bytes → AreWellFormed (filled_in vault id header bytes)
AreWellFormed-filled vault id header bytes before fits uses are_bytes =
    AreWellFormed-with_slot vault id (filled_slot header bytes) before (IsWellFormed-filled header bytes fits uses are_bytes)

-- a slot was zeroised
pub AreWellFormed-zeroised : (vault : Contents) (id : ℕ) → AreWellFormed vault → AreWellFormed (zeroised_in vault id)
AreWellFormed-zeroised vault id before =
    AreWellFormed-with_row (with_slot vault id empty_slot) id 0 (AreWellFormed-with_slot vault id empty_slot before refl) (omega arith)

-- a row of zeros is empty at each number
pub empty_row : (id : ℕ) → row_in empty_vault id ≡ 0
empty_row id = get_or-zeros 16 id

-- sixteen empty slots and rows
pub AreWellFormed-empty : AreWellFormed empty_vault
AreWellFormed-empty =
    let Well : Slot → Type 0 = λ s. IsWellFormed s in
    record {
      sixteen = refl;
      each = λ k below. subst Well (sym (get_or-replicate 16 k empty_slot empty_slot below)) refl;
      sixteen_rows = refl;
      each_row = λ k. omega (arith, empty_row k);
    }

-- each of sixteen empty slots is empty
pub slot_in-empty : (id : ℕ) → id < 16 → slot_in empty_vault id ≡ empty_slot
slot_in-empty id below = get_or-replicate 16 id empty_slot empty_slot below

-- a slot with a header, among sixteen that are well formed, holds its parameter
pub HoldsParameter-at : (vault : Contents) (id : ℕ) (header : Header) → AreWellFormed vault → id < 16
    → (slot_in vault id).header ≡ Some header → HoldsParameter header (slot_in vault id)
HoldsParameter-at vault id header are below is =
    let slot : Slot = slot_in vault id in
    let Well : Option Header → Type 0 = λ kept. MatchOption kept (slot ≡ empty_slot) (λ known. HoldsParameter known slot) in
    subst Well is (are.each id below)

-- the parameter is as long as the slot says
pub length-parameter : (header : Header) (slot : Slot) → HoldsParameter header slot → length (parameter slot) ≡ slot.length
length-parameter header slot holds =
    let within : slot.length ≤ 64 = length_fits-le header.kind header.domain slot.length holds.fits in
    let room : length slot.bytes ≡ 64 = holds.room in
    length-take-le slot.length slot.bytes (omega arith)

-- a list of which each element is x
pub all_same : {A : Type 0} (n : ℕ) (xs : List A) (x : A) → length xs ≡ n → ((k : ℕ) → k < n → get_or xs k x ≡ x)
    → xs ≡ replicate n x
all_same n xs x long each =
    ext_get_or x xs (replicate n x) (long ∙ sym (length-replicate n x)) (λ k below.
    let within : k < n = omega arith in
    each k within ∙ sym (get_or-replicate n k x x within))
